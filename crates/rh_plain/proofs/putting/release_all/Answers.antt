use Rattle.std.proofs.Common.{◌∙◌}
use Rattle.rh_plain.proofs.Releasing.{released_more, released_whole}
use Rattle.rh_plain.proofs.putting.release_all.Goals as goal

pub loop-promise-preserved : goal.loop-promise-preserved
loop-promise-preserved c =
    let inv = c.loop-promise.invariant in
    let (draws, keeps) = released_more c.args.plan.now c.args.history.now c.loop-promise.history c.release.new.history c.args.values.now c.loop-promise.values c.release.new.values c.args.node c.loop-promise.promise-index 0 c.args.promises.now c.loop-promise-test.true inv.drawn inv.kept c.in_ok-release.ensures.drawn c.in_ok-release.ensures.kept in
    record { drawn = draws; kept = keeps; sized = c.release.ensures.sized ∙ inv.sized }

pub returns-clause-drawn : goal.returns-clause-drawn
returns-clause-drawn c =
    (released_whole c.args.plan.now c.args.history.now c.loop-promise.history c.args.values.now c.loop-promise.values c.args.node c.loop-promise.promise-index c.args.promises.now c.loop-promise-test.false c.loop-promise.invariant.drawn c.loop-promise.invariant.kept).0

pub returns-clause-kept : goal.returns-clause-kept
returns-clause-kept c =
    (released_whole c.args.plan.now c.args.history.now c.loop-promise.history c.args.values.now c.loop-promise.values c.args.node c.loop-promise.promise-index c.args.promises.now c.loop-promise-test.false c.loop-promise.invariant.drawn c.loop-promise.invariant.kept).1
