use Rattle.std.proofs.Common.{ap, subst, List, Option, ℕ}
use Rattle.std.proofs.lemmas.Result.{IfOk-weaker}
use Rattle.rh_journal.specs.Own.{run_of}
use Rattle.rh_journal.specs.OneThread.{events_below}
use Rattle.rh_plain.specs.Recording.{IsEndingOf}
use Rattle.rh_plain.specs.Runs.{Progress}
use Rattle.rh_plain.specs.Values.{has_words}
use Rattle.rh_plain.proofs.Steps.{recorded_node, ending_fits}
use Rattle.rh_plain.proofs.progress.Progress.record.Goals as goal

pub tell-requires-clause-drawing : goal.tell-requires-clause-drawing
tell-requires-clause-drawing c = (events_below (run_of c.args.plan.now c.args.faults.now) c.args.node, c.requires.below.drawn)

pub tell-requires-clause-fits : goal.tell-requires-clause-fits
tell-requires-clause-fits c = ending_fits c.args.plan.now c.args.faults.now c.args.node c.args.ended (has_words c.self.inside.values) c.in_ok-ending.ending c.nodes-known.ensures.lawful c.requires.within c.requires.answers c.in_ok-ending.ensures

pub tell-requires-clause-sized : goal.tell-requires-clause-sized
tell-requires-clause-sized c = c.requires.below.held.size

pub returns : goal.returns
returns c =
    let same = ap (λ (p : Progress). p.values) c.self.view_is in
    let of = subst (λ (l : List (Option (List ℕ))). IsEndingOf c.args.plan.now c.args.node (has_words l) c.args.ended c.in_ok-ending.ending) same c.in_ok-ending.ensures in
    IfOk-weaker c.tell.result _ _
    (λ _ told. recorded_node c.args.plan.now c.args.faults.now c.args.node c.args.ended c.args.self.now c.tell.new.self c.in_ok-ending.ending c.nodes-known.ensures.lawful c.requires.within c.requires.answers c.requires.below of told)
    c.tell.ensures
