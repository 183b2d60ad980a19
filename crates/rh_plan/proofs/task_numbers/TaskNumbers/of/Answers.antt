use Rattle.std.proofs.Common.{◌≡◌, ℕ, List, true, subst}
use Rattle.rh_words.specs.Naming.{is_name}
use Rattle.std.proofs.lemmas.List.{take_all}
use Rattle.rh_rules.specs.declared.node.Node.{Node}
use Rattle.rh_plan.specs.FaultTables.{AreTasksNumbered}
use Rattle.rh_plan.proofs.TaskTables.{numbered_more}
use Rattle.rh_plan.proofs.task_numbers.TaskNumbers.of.Goals as goal

pub loop-at-preserved : goal.loop-at-preserved
loop-at-preserved c =
    let named = subst (λ (n : List ℕ). is_name n ≡ true) c.bytes-is_name.ensures.value c.bytes-is_name.ensures.name in
    numbered_more c.keys_tell_names_apart.ensures c.loop-at.known c.note_task.new.known c.args.nodes.now c.loop-at.at c.index-nodes-at.result c.loop-at-test.true c.index-nodes-at.is named c.requires.distinct c.loop-at.invariant c.in_ok-note_task.ensures

pub returns : goal.returns
returns c = subst (λ (l : List Node). AreTasksNumbered c.loop-at.known l) (take_all c.loop-at.at c.args.nodes.now c.loop-at-test.false) c.loop-at.invariant
