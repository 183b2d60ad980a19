use Rattle.std.proofs.Common.{◌≡◌, ◌++◌, ◌∷◌, length}
use Rattle.rh_words.specs.declared.keyword.Keyword.TheVariants.{CheckWord, LinearWord}
use Rattle.rh_words.specs.declared.value.Value.TheVariants.{AWord, AName, ANumber}
use Rattle.rh_task_text.specs.Statements.{terms_said}
use Rattle.rh_task_text.proofs.values.check_linear_values.Given as goal

abbrev pub invariant-loop-name : goal.invariant-loop-name
invariant-loop-name l = l.values.items ++ terms_said l.names l.numbers ≡ AWord CheckWord ∷ AWord LinearWord ∷ AName l.promise ∷ ANumber l.base ∷ terms_said l.fn.inputs l.fn.factors

abbrev pub decreases-loop-name : goal.decreases-loop-name
decreases-loop-name l = length l.names
