-- The names, the numbers and the pairs among some values.
use Rattle.std.specs.Prelude.{ℕ, List, [], ◌∷◌}
use Rattle.rh_words.specs.declared.value.Value.{Value}
use Rattle.rh_words.specs.declared.value.Value.TheVariants.{AName, ANumber, APair}

-- the names among these
abbrev pub names_in : List Value → List (List ℕ)
names_in [] = []
names_in (AName name ∷ vs) = name ∷ names_in vs
names_in (v ∷ vs) = names_in vs

-- the numbers among these
abbrev pub numbers_in : List Value → List ℕ
numbers_in [] = []
numbers_in (ANumber n ∷ vs) = n ∷ numbers_in vs
numbers_in (v ∷ vs) = numbers_in vs

-- the first numbers of the pairs among these
abbrev pub columns_in : List Value → List ℕ
columns_in [] = []
columns_in (APair j n ∷ vs) = j ∷ columns_in vs
columns_in (v ∷ vs) = columns_in vs

-- the second numbers of the pairs among these
abbrev pub values_in : List Value → List ℕ
values_in [] = []
values_in (APair j n ∷ vs) = n ∷ values_in vs
values_in (v ∷ vs) = values_in vs
