use Rattle.std.proofs.Common.{◌≡◌, ◌++◌, map, length}
use Rattle.rh_words.specs.declared.value.Value.TheVariants.{AName}
use Rattle.rh_task_text.proofs.values.push_names.Given as goal

abbrev pub invariant-loop-name : goal.invariant-loop-name
invariant-loop-name l = l.values.items ++ map AName l.left ≡ l.fn.values.items ++ map AName l.fn.names

abbrev pub decreases-loop-name : goal.decreases-loop-name
decreases-loop-name l = length l.left
