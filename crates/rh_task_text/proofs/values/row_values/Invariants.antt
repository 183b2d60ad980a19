use Rattle.std.proofs.Common.{◌≡◌, ◌++◌, ◌∷◌, length}
use Rattle.rh_words.specs.declared.keyword.Keyword.TheVariants.{RowWord}
use Rattle.rh_words.specs.declared.value.Value.TheVariants.{AWord}
use Rattle.rh_task_text.specs.Statements.{pairs_said}
use Rattle.rh_task_text.proofs.values.row_values.Given as goal

abbrev pub invariant-loop-left : goal.invariant-loop-left
invariant-loop-left l = l.values.items ++ pairs_said l.lefts l.rights ≡ AWord RowWord ∷ pairs_said l.columns l.numbers

abbrev pub decreases-loop-left : goal.decreases-loop-left
decreases-loop-left l = length l.lefts
