-- What the events of a journal tell, in tables.
use Rattle.std.specs.Prelude.{ℕ, ◌≡◌, ◌<◌, ◌++◌, List, [], ◌∷◌, Option, Some, None, length, map, slice_index_or}
use Rattle.std.specs.List.{filter_map, cons_option}
use Rattle.rh_plan.specs.declared.outcome.Verdict.TheVariants.{Failed}
use Rattle.rh_journal.specs.declared.event.Event.{Event}
use Rattle.rh_journal.specs.Told.{verdict_told, trial_told, put_told}
use Rattle.rh_report.specs.Tables.{TableData}

-- the last of a list, or this
abbrev pub last_or : {X : Type 0} → X → List X → X
last_or d [] = d
last_or d (x ∷ xs) = last_or x xs

-- what is told, or this
abbrev pub told_or : {X : Type 0} → X → Option X → X
told_or d None = d
told_or d (Some x) = x

-- what is told of a put, or this
abbrev pub put_or : Option ℕ → Option ℕ → Option ℕ
put_or d None = d
put_or d (Some k) = Some k

-- The tables of n nodes and m promises tell what the events do: the last verdict of a node, its attempts in order, and the last put of a promise.
pub record HasGathered (n m : ℕ) (xs : List Event) (t : TableData) : Type 0 where
  pub nodes : (length t.verdicts ≡ n) × (length t.trials ≡ n)
  pub promises : length t.puts ≡ m
  pub verdicts : (v : ℕ) → v < n → slice_index_or t.verdicts v Failed ≡ last_or Failed (filter_map (verdict_told v) xs)
  pub trials : (v : ℕ) → v < n → slice_index_or t.trials v [] ≡ filter_map (trial_told v) xs
  pub puts : (q : ℕ) → q < m → slice_index_or t.puts q None ≡ last_or None (map Some (filter_map (put_told q) xs))

-- behind one event more
pub record HasTold (x : Event) (old new : TableData) : Type 0 where
  pub nodes : (length new.verdicts ≡ length old.verdicts) × (length new.trials ≡ length old.trials)
  pub promises : length new.puts ≡ length old.puts
  pub verdicts : (v : ℕ) → v < length old.verdicts → slice_index_or new.verdicts v Failed ≡ told_or (slice_index_or old.verdicts v Failed) (verdict_told v x)
  pub trials : (v : ℕ) → v < length old.trials → slice_index_or new.trials v [] ≡ slice_index_or old.trials v [] ++ cons_option (trial_told v x) []
  pub puts : (q : ℕ) → q < length old.puts → slice_index_or new.puts q None ≡ put_or (slice_index_or old.puts q None) (put_told q x)
