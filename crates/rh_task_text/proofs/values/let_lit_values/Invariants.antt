use Rattle.std.proofs.Common.{◌≡◌, ◌++◌, ◌∷◌, map, length}
use Rattle.rh_words.specs.declared.keyword.Keyword.TheVariants.{LetWord, LitWord}
use Rattle.rh_words.specs.declared.value.Value.TheVariants.{AWord, AName, ANumber}
use Rattle.rh_task_text.proofs.values.let_lit_values.Given as goal

abbrev pub invariant-loop-word : goal.invariant-loop-word
invariant-loop-word l = l.values.items ++ map ANumber l.left ≡ AWord LetWord ∷ AName l.x ∷ AWord LitWord ∷ map ANumber l.words

abbrev pub decreases-loop-word : goal.decreases-loop-word
decreases-loop-word l = length l.left
