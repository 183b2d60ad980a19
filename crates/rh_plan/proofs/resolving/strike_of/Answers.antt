use Rattle.std.proofs.Common.{◌<◌, List, sym, subst, ap, length}
use Rattle.rh_sparse.specs.Matrix.{MatrixData}
use Rattle.rh_rules.specs.Bodies.{shapes_of}
use Rattle.rh_rules.specs.declared.node.Node.{Node}
use Rattle.rh_rules.specs.declared.node.PlannedPromise.{PlannedPromise}
use Rattle.rh_rules.specs.Lawful.{IsLawfulTask}
use Rattle.rh_plan.proofs.FaultTasks.{task_at, task_read, unknown_task, unrefused_in, strike_there, refused_in}
use Rattle.rh_plan.proofs.resolving.strike_of.Goals as goal

pub returns-in_default-clause-refused : goal.returns-in_default-clause-refused
returns-in_default-clause-refused c = unknown_task c.args.plan.now c.args.fault.now (sym (c.in_default.ensures c.args.plan.now.nodes c.requires))

pub bounds-node_list-number : goal.bounds-node_list-number
bounds-node_list-number c =
    let task = task_at c.args.plan.now c.args.fault.now.task c.in-Some.number c.node_list.ensures.lawful (sym (c.in-Some.ensures c.args.plan.now.nodes c.requires)) in
    subst (λ (l : List Node). c.in-Some.number < length l) (sym c.node_list.ensures.value) task.1.within

pub strike_in_task-requires-clause-task : goal.strike_in_task-requires-clause-task
strike_in_task-requires-clause-task c =
    (task_read c.args.plan.now c.args.fault.now.task c.in-Some.number c.node_list.result.now c.index-node_list-number.result c.node_list.ensures.lawful c.node_list.ensures.value (sym (c.in-Some.ensures c.args.plan.now.nodes c.requires)) c.index-node_list-number.is).kind

pub strike_in_task-requires-clause-lawful : goal.strike_in_task-requires-clause-lawful
strike_in_task-requires-clause-lawful c =
    let task = task_read c.args.plan.now c.args.fault.now.task c.in-Some.number c.node_list.result.now c.index-node_list-number.result c.node_list.ensures.lawful c.node_list.ensures.value (sym (c.in-Some.ensures c.args.plan.now.nodes c.requires)) c.index-node_list-number.is in
    subst (λ (ps : List PlannedPromise). IsLawfulTask (shapes_of c.matrices.result.now) ps c.index-node_list-number.result) (sym c.promise_list.ensures)
    (subst (λ (ms : List MatrixData). IsLawfulTask (shapes_of ms) c.args.plan.now.promises c.index-node_list-number.result) (sym c.matrices.ensures) task.lawful)

pub returns-clause-unrefused : goal.returns-clause-unrefused
returns-clause-unrefused c =
    let found = sym (c.in-Some.ensures c.args.plan.now.nodes c.requires) in
    let task = task_read c.args.plan.now c.args.fault.now.task c.in-Some.number c.node_list.result.now c.index-node_list-number.result c.node_list.ensures.lawful c.node_list.ensures.value found c.index-node_list-number.is in
    unrefused_in c.args.plan.now c.args.fault.now c.in-Some.number c.index-node_list-number.result (shapes_of c.matrices.result.now) c.promise_list.result.now c.strike_in_task.result (ap (λ (ms : List MatrixData). shapes_of ms) c.matrices.ensures) c.promise_list.ensures found task.there c.strike_in_task.ensures.unrefused

pub returns-clause-ok : goal.returns-clause-ok
returns-clause-ok c =
    let found = sym (c.in-Some.ensures c.args.plan.now.nodes c.requires) in
    let task = task_read c.args.plan.now c.args.fault.now.task c.in-Some.number c.node_list.result.now c.index-node_list-number.result c.node_list.ensures.lawful c.node_list.ensures.value found c.index-node_list-number.is in
    strike_there c.args.plan.now c.args.fault.now c.in-Some.number c.index-node_list-number.result c.promise_list.result.now c.strike_in_task.result c.promise_list.ensures found task.there c.strike_in_task.ensures.ok

pub returns-clause-refused : goal.returns-clause-refused
returns-clause-refused c =
    let found = sym (c.in-Some.ensures c.args.plan.now.nodes c.requires) in
    let task = task_read c.args.plan.now c.args.fault.now.task c.in-Some.number c.node_list.result.now c.index-node_list-number.result c.node_list.ensures.lawful c.node_list.ensures.value found c.index-node_list-number.is in
    refused_in c.args.plan.now c.args.fault.now c.in-Some.number c.index-node_list-number.result (shapes_of c.matrices.result.now) c.promise_list.result.now c.strike_in_task.result (ap (λ (ms : List MatrixData). shapes_of ms) c.matrices.ensures) c.promise_list.ensures found task.there c.strike_in_task.ensures.refused
