use Rattle.std.proofs.Common.{ap, append-nil}
use Rattle.rh_rules.specs.Bodies.{put_at}
use Rattle.rh_tables.proofs.Stepping.{promises_put_more}
use Rattle.rh_tables.proofs.node.promises_put.Goals as goal
use Rattle.rh_tables.proofs.node.promises_put.Goals.{in-Some+in_ok-push, in_default}

pub loop-step-preserved : goal.loop-step-preserved
loop-step-preserved c =
    let more = promises_put_more c.args.steps.now c.loop-step.step-index c.step-item.result c.loop-step-test.true in
    let item = ap put_at c.step-item.is in
    elim c.match-put_at.branch [
      | in-Some+in_ok-push w ↦ cc (more, item, w.in_ok-push.ensures.ok, w.in-Some.ensures)
      | in_default w ↦ cc (more, item, w.in_default.ensures, append-nil c.loop-step.numbers)
    ]
