-- The lists of promises of a node.
use Rattle.std.specs.Prelude.{ℕ, List, drop}

-- the promises that a node put, those that it did not put, and those of which it gives up a reference
pub record NodeLists : Type 0 where
  pub puts : List ℕ
  pub voids : List ℕ
  pub released : List ℕ

-- where the node put those that it gives up from the place `first` on
abbrev pub node_lists : ℕ → List ℕ → List ℕ → NodeLists
node_lists first voids released = record { puts = drop first released; voids = voids; released = released }
