use Rattle.std.proofs.lemmas.Result.{IfOk-weaker}
use Rattle.rh_plain.proofs.NodeEnds.{task_on, judged_ends}
use Rattle.rh_plain.proofs.running.judge_task.Goals as goal

pub judge-requires-clause-task : goal.judge-requires-clause-task
judge-requires-clause-task g c =
    task_on c.args.plan.now c.args.faults.now c.args.node c.args.values.now c.awaits.result.now c.nodes-known.ensures.lawful c.requires.task c.requires.awaited c.awaits.ensures

pub returns : goal.returns
returns g c =
    IfOk-weaker c.judge.result _ _
    (λ r judges. judged_ends c.args.plan.now c.args.faults.now c.args.node c.args.values.now c.awaits.result.now r c.requires.task c.requires.awaited c.awaits.ensures judges)
    c.judge.ensures
