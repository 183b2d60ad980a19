use Rattle.std.proofs.Common.{arith}
use Rattle.rh_report.proofs.Lines.{bit_more, bit_small}
use Rattle.rh_report.specs.Totals.{is_task_at}
use Rattle.rh_report.proofs.totals.task_count.Goals as goal

pub loop-node-preserved : goal.loop-node-preserved
loop-node-preserved c =
    let small = bit_small c.is_task.result c.from-tasks.result c.from-tasks.ensures in
    let few = c.loop-node.invariant.few in
    record {
      counted = bit_more (is_task_at c.args.plan.now) c.loop-node.node c.loop-node.tasks c.is_task.result c.from-tasks.result c.loop-node.invariant.counted c.is_task.ensures c.from-tasks.ensures;
      few = omega (arith, small, few);
    }
