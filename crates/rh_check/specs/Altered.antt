-- The checks that notice one altered word.
use Rattle.std.specs.Prelude.{ℕ, ◌≡◌, List, Option, ⊤, true, false}
use Rattle.rh_sparse.specs.Matrix.{MatrixData}
use Rattle.rh_sparse.specs.Laws.{DiffersInOneWord}
use Rattle.rh_check.specs.declared.spec.Spec.{Spec}
use Rattle.rh_check.specs.declared.spec.Spec.TheVariants.{Range, Total, Linear, Conserve, Conserve2, Product, User}
use Rattle.rh_check.specs.declared.spec.UserSpec.{UserSpec}
use Rattle.rh_check.specs.Checks.{spec_passes}

-- the check compares a sum of all words
abbrev pub IsSumCheck : Spec → Type 0
IsSumCheck (Range lo hi) = ⊥
IsSumCheck (Total sum) = ⊤
IsSumCheck (Linear base terms count) = ⊤
IsSumCheck (Conserve l m r k s) = ⊤
IsSumCheck (Conserve2 north south west east m cols k s) = ⊤
IsSumCheck (Product matrix x) = ⊤
IsSumCheck (User at) = ⊥

-- Where words pass a check of a sum, words that differ from them in one place do not, on the same inputs.
abbrev pub SumChecksRefuseOneAlteredWord : Type 0
SumChecksRefuseOneAlteredWord = (user : Option UserSpec) (matrices : List MatrixData) (inputs : List (List ℕ)) (spec : Spec) (xs ys : List ℕ)
    → IsSumCheck spec → DiffersInOneWord xs ys
    → spec_passes user matrices inputs spec xs ≡ true → spec_passes user matrices inputs spec ys ≡ false
