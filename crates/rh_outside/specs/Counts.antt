-- Counts of failures, when one rose, and calls that are numbered.
use Rattle.std.specs.Prelude.{ℕ, ◌+◌, ◌-◌, ◌^◌, ◌≤◌, ◌==◌, Bool, min, List, [], ◌∷◌, ◌++◌}
use Rattle.std.specs.List.{list_any}

-- a count after one more, which stays at its last value
abbrev pub one_more : ℕ → ℕ
one_more n = min (n + 1) (2 ^ 64 - 1)

-- A count is greater than before, or stands at its last value.
abbrev pub Rose : ℕ → ℕ → Type 0
Rose before now = one_more before ≤ now

-- how many reads and how many writes failed
pub record FailureCounts : Type 0 where
  pub failed_reads : ℕ
  pub failed_writes : ℕ

abbrev pub no_failures : FailureCounts
no_failures = record { failed_reads = 0; failed_writes = 0 }

-- the numbers of the calls that fail, and how many calls were made, which is the number of the next one
pub record CallNumbers : Type 0 where
  pub failing : List ℕ
  pub made : ℕ

abbrev pub no_calls : CallNumbers
no_calls = record { failing = []; made = 0 }

-- the next call is one that fails
abbrev pub is_failing : CallNumbers → Bool
is_failing calls = list_any (λ number. number == calls.made) calls.failing

-- after one more call
abbrev pub next_call : CallNumbers → CallNumbers
next_call calls = record { failing = calls.failing; made = one_more calls.made }

-- where the call of this number fails too
abbrev pub with_failing : CallNumbers → ℕ → CallNumbers
with_failing calls number =
    record { failing = calls.failing ++ number ∷ []; made = calls.made }
