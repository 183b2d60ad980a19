use Rattle.std.proofs.Common.{[], ◌∙◌, None, sym, ap}
use Rattle.rh_plan.specs.declared.outcome.Verdict.{Verdict}
use Rattle.rh_plan.specs.Judging.{node_result}
use Rattle.rh_plan.proofs.Sources.{node_there}
use Rattle.rh_plain.proofs.NodeEnds.{few_members, cause_is, skipped_ends, group_ends_by, scope_ends}
use Rattle.rh_plain.proofs.running.end_node.Goals as goal

pub scope_ending-ending-requires : goal.scope_ending-ending-requires
scope_ending-ending-requires g c =
    let (node, at) = node_there c.args.plan.now c.args.node c.requires.within in
    few_members c.args.plan.now c.args.node node c.members.result.now c.nodes-known.ensures.lawful at (sym (c.kind.ensures node at) ∙ c.in-Scope.is) c.requires.within (c.members.ensures node at)

pub judge_task-requires-clause-task : goal.judge_task-requires-clause-task
judge_task-requires-clause-task g c =
    let (node, at) = node_there c.args.plan.now c.args.node c.requires.within in
    record {
      node = node;
      there = at;
      kind = sym (c.kind.ensures node at) ∙ c.in-Task.is;
      cause = sym (cause_is c.args.plan.now c.args.faults.now c.args.node node c.args.verdicts.now c.args.values.now c.cause_of-in-Task.result at c.requires.before (c.cause_of-in-Task.ensures node at)) ∙ c.in-None.is;
    }

pub returns-in-Scope : goal.returns-in-Scope
returns-in-Scope g c node at =
    c.without_attempts.ensures
    ∙ scope_ends c.args.plan.now c.args.faults.now c.args.node node c.args.verdicts.now c.members.result.now c.scope_ending-ending.result (sym (c.kind.ensures node at) ∙ c.in-Scope.is) c.requires.before.ended (c.members.ensures node at) c.scope_ending-ending.ensures

pub returns-in-Group : goal.returns-in-Group
returns-in-Group g c node at =
    c.without_attempts-in-Group.ensures
    ∙ ap (λ (v : Verdict). node_result v [] None) c.group_ending-ending.ensures
    ∙ group_ends_by c.args.plan.now c.args.faults.now c.args.node node c.cause_of.result (sym (c.kind.ensures node at) ∙ c.in-Group.is) (cause_is c.args.plan.now c.args.faults.now c.args.node node c.args.verdicts.now c.args.values.now c.cause_of.result at c.requires.before (c.cause_of.ensures node at))

pub returns-in-Some : goal.returns-in-Some
returns-in-Some g c node at =
    c.without_attempts-in-Some.ensures
    ∙ skipped_ends c.args.plan.now c.args.faults.now c.args.node node c.in-Some.cause (sym (c.kind.ensures node at) ∙ c.in-Task.is)
    (sym (cause_is c.args.plan.now c.args.faults.now c.args.node node c.args.verdicts.now c.args.values.now c.cause_of-in-Task.result at c.requires.before (c.cause_of-in-Task.ensures node at)) ∙ c.in-Some.is)
