use Rattle.std.proofs.Common.{None, ℕ, List}
use Rattle.rh_journal.specs.declared.event.Event.TheVariants.{Release}
use Rattle.rh_plain.proofs.Histories.{draws_more, draws_whole, still_drawing}
use Rattle.rh_plain.proofs.showing.release_shown.Goals as goal

pub release-requires-clause-drawing : goal.release-requires-clause-drawing
release-requires-clause-drawing c = still_drawing c.args.plan.now c.args.history.now c.loop-pair.history _ c.requires.drawing c.loop-pair.invariant

pub loop-pair-preserved : goal.loop-pair-preserved
loop-pair-preserved c =
    draws_more c.args.plan.now c.args.history.now c.loop-pair.history c.release.new.self (λ (p : ℕ × List ℕ). Release p.0 None) c.args.pairs.now c.loop-pair.pair-index c.pair-item.result c.pair-item.result c.loop-pair-test.true c.pair-item.is c.loop-pair.invariant c.in_ok-release.ensures.drawn

pub returns : goal.returns
returns c = draws_whole c.args.plan.now c.args.history.now c.loop-pair.history (λ (p : ℕ × List ℕ). Release p.0 None) c.args.pairs.now c.loop-pair.pair-index c.loop-pair-test.false c.loop-pair.invariant
