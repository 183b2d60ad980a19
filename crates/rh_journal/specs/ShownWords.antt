-- The words of promises, in promise order.
use Rattle.std.specs.Prelude.{ℕ, ◌<◌, ◌==◌, List, Option}
use Rattle.std.specs.List.{AllPairs, find}
use Rattle.std.specs.Option.{option_map}

-- each promise is below all later ones
abbrev pub IsAscending : List (ℕ × List ℕ) → Type 0
IsAscending pairs = AllPairs (λ a b. a.0 < b.0) pairs

-- the words that stand with a promise
abbrev pub words_with : ℕ → List (ℕ × List ℕ) → Option (List ℕ)
words_with q pairs = option_map (λ p. p.1) (find (λ p. p.0 == q) pairs)
