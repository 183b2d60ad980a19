-- Checks that a caller hands in, by what they ask.
use Rattle.std.specs.Prelude.{ℕ, ◌≡◌, ◌-◌, ◌^◌, List, [], Bool, Option, Some, None, take, slice_get, position, length}
use Rattle.std.specs.Str.{bytes_eq}
use Rattle.rh_check.specs.declared.spec.Spec.{Spec}
use Rattle.rh_check.specs.declared.spec.Spec.TheVariants.{Range, Total, Linear, Conserve, Conserve2, Product, User}
use Rattle.rh_check.specs.declared.spec.UserSpec.{UserSpec}
use Rattle.rh_check.specs.Checks.{user_passes}

-- the checks that a caller hands in: their names, and what they ask, by place
pub record HandedChecks : Type 0 where
  pub names : List (List ℕ)
  pub specs : List UserSpec

abbrev pub handed_checks : List (List ℕ) → List UserSpec → HandedChecks
handed_checks names specs = record { names = names; specs = specs }

abbrev pub none_handed : HandedChecks
none_handed = handed_checks [] []

-- there are as many names as specs
abbrev pub ArePaired : HandedChecks → Type 0
ArePaired handed = length handed.names ≡ length handed.specs

-- the place of the handed-in check of a name: the first of equal names counts
abbrev pub user_place : HandedChecks → List ℕ → Option ℕ
user_place handed name = position (λ n. bytes_eq n name) handed.names

-- what the handed-in check asks that a check names, where it names one
abbrev pub user_named : List UserSpec → Spec → Option UserSpec
user_named users (Range lo hi) = None
user_named users (Total sum) = None
user_named users (Linear base terms count) = None
user_named users (Conserve l m r k s) = None
user_named users (Conserve2 north south west east m cols k s) = None
user_named users (Product matrix x) = None
user_named users (User at) = slice_get users at

-- x stands at this place of the list, where there is such a place
abbrev pub IsAt : {X : Type 0} → List X → ℕ → X → Type 0
IsAt {X} xs at x = (y : X) → slice_get xs at ≡ Some y → x ≡ y

-- a handed-in check answers what it was said to ask, where there is one at this place
abbrev pub AnswersSpec : List UserSpec → ℕ → List ℕ → Bool → Type 0
AnswersSpec users at words answer = (u : UserSpec) → slice_get users at ≡ Some u → answer ≡ user_passes u words

-- the first of a list, as many as 32 bits count
unfoldable pub countable : {X : Type 0} → List X → List X
countable xs = take (2 ^ 32 - 1) xs
