-- Injected faults: their places, lists of them in order, and those of a task, an attempt or a local.
use Rattle.std.specs.Prelude.{ℕ, ◌≡◌, ◌<◌, ◌≤◌, ◌^◌, ◌==◌, ◌&&◌, ◌||◌, ◌++◌, List, ◌∷◌, Bool, true, not, nat_lt, length}
use Rattle.std.specs.List.Sorted.{IsPartitionPoint}
use Rattle.std.specs.List.{filter, list_any, list_all, AllPairs}
use Rattle.rh_injector.specs.declared.faults.Strike.{Strike}

-- one number is below the other, or they are equal and the rest holds
abbrev pub below_or : ℕ → ℕ → Bool → Bool
below_or a b rest = nat_lt a b || (a == b && rest)

-- the place of the fault comes before this one: by node, then by attempt, then by local, then by word
abbrev pub is_before : Strike → ℕ → ℕ → ℕ → ℕ → Bool
is_before s v k i w = below_or s.node v (below_or s.attempt k (below_or s.local i (nat_lt s.word w)))

-- the place of the first fault comes before that of the second
abbrev pub comes_before : Strike → Strike → Bool
comes_before s t = is_before s t.node t.attempt t.local t.word

-- both faults have one place
abbrev pub has_place_of : Strike → Strike → Bool
has_place_of s t = s.node == t.node && (s.attempt == t.attempt && (s.local == t.local && s.word == t.word))

-- each fault comes before all later ones
abbrev pub IsAscending : List Strike → Type 0
IsAscending faults = AllPairs (λ s t. comes_before s t ≡ true) faults

-- faults by their places, each of which changes its word
pub record IsFaultList (faults : List Strike) : Type 0 where
  pub ascending : IsAscending faults
  pub masked : list_all (λ s. not (s.mask == 0)) faults ≡ true
  pub few : length faults < 2 ^ 32

-- some fault has the place of this one
abbrev pub names_place : List Strike → Strike → Bool
names_place faults s = list_any (λ t. has_place_of t s) faults

-- A fault that is put before the one that stands here comes before it and all later ones, and all others come before it.
pub record IsFreePlace (faults : List Strike) (s : Strike) (at : ℕ) : Type 0 where
  pub within : at ≤ length faults
  pub apart : IsPartitionPoint (λ t. comes_before t s ≡ true) (λ t. comes_before s t ≡ true) faults at

-- the faults with one more: those that come before it, itself, and those that come after it
abbrev pub with_fault : List Strike → Strike → List Strike
with_fault faults s = filter (λ t. comes_before t s) faults ++ s ∷ filter (λ t. comes_before s t) faults

-- the faults of an attempt of a task
abbrev pub faults_in : List Strike → ℕ → ℕ → List Strike
faults_in faults v k = filter (λ s. s.node == v && s.attempt == k) faults

-- the faults of a local of an attempt
abbrev pub faults_on : List Strike → ℕ → ℕ → ℕ → List Strike
faults_on faults v k i = filter (λ s. (s.node == v && s.attempt == k) && s.local == i) faults

-- some fault names the task
abbrev pub names_task : List Strike → ℕ → Bool
names_task faults v = list_any (λ s. s.node == v) faults

-- some fault names the attempt of the task
abbrev pub names_attempt : List Strike → ℕ → ℕ → Bool
names_attempt faults v k = list_any (λ s. s.node == v && s.attempt == k) faults
