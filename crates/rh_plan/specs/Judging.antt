-- How a task is judged by the buffers of its attempts.
use Rattle.std.specs.Prelude.{ℕ, ◌+◌, ◌*◌, ◌==◌, ◌&&◌, ◌++◌, List, [], ◌∷◌, Bool, nat_lt, if◌then◌else◌, Option, Some, None, is_some, is_none, unwrap_or, length, map, take, replicate, slice_get}
use Rattle.std.specs.List.{filter, find, position, range_with_len, enumerate_from}
use Rattle.std.specs.Str.{bytes_eq}
use lib.Pointwise.{pointwise}
use Rattle.rh_plan.specs.declared.made_put.MadePut.{MadePut}
use Rattle.rh_rules.specs.declared.node.Scheme.{Scheme}
use Rattle.rh_rules.specs.declared.node.Scheme.TheVariants.{Plain, Replicate, Replay, Abft}
use Rattle.rh_plan.specs.declared.outcome.Trial.{Trial}
use Rattle.rh_plan.specs.declared.outcome.Trial.TheVariants as trial
use Rattle.rh_plan.specs.declared.outcome.Verdict.{Verdict}
use Rattle.rh_plan.specs.declared.outcome.Verdict.TheVariants.{Accepted, Corrected, Failed}
use Rattle.rh_plan.specs.Buffers.{BufferData}

-- a node's verdict, how each of its attempts ended, and the buffer that was accepted
pub record NodeResult : Type 0 where
  pub verdict : Verdict
  pub trials : List Trial
  pub accepted : Option BufferData

abbrev pub node_result : Verdict → List Trial → Option BufferData → NodeResult
node_result verdict trials accepted = record { verdict = verdict; trials = trials; accepted = accepted }

abbrev pub is_same_put : MadePut → MadePut → Bool
is_same_put p q = p.promise == q.promise && bytes_eq p.words q.words

-- two buffers are equal: the same puts in the same order, and the same drops
unfoldable pub are_same : BufferData → BufferData → Bool
are_same a b = pointwise is_same_put a.puts b.puts && bytes_eq a.drops b.drops

-- how many faulted attempts a replicated task tolerates
abbrev pub tolerated : ℕ
tolerated = 1

-- the greatest number of attempts
abbrev pub attempts_of : Scheme → ℕ
attempts_of Plain = 1
attempts_of Replicate = 2 * tolerated + 1
attempts_of (Replay limit) = limit
attempts_of Abft = 1

-- the lowest number of those buffers of which more than m are equal
abbrev pub majority : ℕ → List BufferData → Option ℕ
majority m made = position (λ b. nat_lt m (length (filter (are_same b) made))) made

-- the number of the attempt after which more than m buffers are equal for the first time
abbrev pub deciding : ℕ → List BufferData → Option ℕ
deciding m made = find (λ k. is_some (majority m (take (k + 1) made))) (range_with_len 0 (length made))

-- a replica's trial, where attempt j with the buffer b was accepted
abbrev pub replica_trial : ℕ → BufferData → ℕ × BufferData → Trial
replica_trial j b other = if other.0 == j then trial.Accepted else if are_same b other.1 then trial.Agreed else trial.Differed

-- the buffer b, that of attempt j, was accepted after these were made
abbrev pub replica_accepted : List BufferData → ℕ → Option BufferData → NodeResult
replica_accepted made j None = node_result Failed [] None
replica_accepted made j (Some b) = node_result (Accepted j) (map (replica_trial j b) (enumerate_from 0 made)) (Some b)

abbrev pub replicated_by : List BufferData → Option ℕ → NodeResult
replicated_by made None = node_result Failed [] None
replicated_by made (Some j) = replica_accepted made j (slice_get made j)

abbrev pub replicated_after : ℕ → List BufferData → Option ℕ → NodeResult
replicated_after m made None = node_result Failed (replicate (length made) trial.Differed) None
replicated_after m made (Some k) = replicated_by (take (k + 1) made) (majority m (take (k + 1) made))

-- Of 2 m + 1 buffers, those up to the first at which more than m are equal decide. The lowest of these is accepted.
unfoldable pub replicated : ℕ → List BufferData → NodeResult
replicated m made = replicated_after m made (deciding m made)

-- a refused attempt keeps the number of the first check that its buffer fails
abbrev pub refused : (BufferData → Option ℕ) → BufferData → Trial
refused failing b = trial.Refused (unwrap_or (failing b) 0)

abbrev pub replayed_after : (BufferData → Option ℕ) → List BufferData → Option ℕ → NodeResult
replayed_after failing made None = node_result Failed (map (refused failing) made) None
replayed_after failing made (Some j) = node_result (Accepted j) (map (refused failing) (take j made) ++ trial.Accepted ∷ []) (slice_get made j)

-- The first buffer that fails no check is accepted.
unfoldable pub replayed : (BufferData → Option ℕ) → List BufferData → NodeResult
replayed failing made = replayed_after failing made (position (λ b. is_none (failing b)) made)

-- The one buffer is accepted.
abbrev pub plainly : List BufferData → NodeResult
plainly made = node_result (Accepted 0) (trial.Accepted ∷ []) (slice_get made 0)

-- a corrected word and buffer, where the correction succeeds
abbrev pub corrected_to : ℕ → Option (ℕ × BufferData) → NodeResult
corrected_to which None = node_result Failed (trial.Refused which ∷ []) None
corrected_to which (Some c) = node_result (Corrected c.0) (trial.Corrected c.0 ∷ []) (Some c.1)

abbrev pub checked_once : (BufferData → Option (ℕ × BufferData)) → BufferData → Option ℕ → NodeResult
checked_once correction b None = node_result (Accepted 0) (trial.Accepted ∷ []) (Some b)
checked_once correction b (Some which) = corrected_to which (correction b)

-- The one buffer is accepted where it fails no check, and else corrected where that succeeds.
abbrev pub corrected : (BufferData → Option ℕ) → (BufferData → Option (ℕ × BufferData)) → List BufferData → NodeResult
corrected failing correction [] = node_result Failed [] None
corrected failing correction (b ∷ made) = checked_once correction b (failing b)

-- The buffers of all attempts that a task may make are judged by its scheme. `failing` is the first check that a buffer fails.
abbrev pub judged_by : (BufferData → Option ℕ) → (BufferData → Option (ℕ × BufferData)) → List BufferData → Scheme → NodeResult
judged_by failing correction made Plain = plainly made
judged_by failing correction made Replicate = replicated tolerated made
judged_by failing correction made (Replay limit) = replayed failing made
judged_by failing correction made Abft = corrected failing correction made
