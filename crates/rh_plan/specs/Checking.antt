-- Which checks of a task a buffer passes.
use Rattle.std.specs.Prelude.{ℕ, List, Bool, true, not, Option, Some, None}
use Rattle.std.specs.List.{position}
use Rattle.rh_check.specs.Checks.{spec_passes}
use Rattle.rh_rules.specs.Kept.{KeptCheck}
use Rattle.rh_plan.specs.Plans.{PlanData}
use Rattle.rh_plan.specs.Buffers.{BufferData, words_put}

abbrev pub passes_where_put : (List ℕ → Bool) → Option (List ℕ) → Bool
passes_where_put passes None = true
passes_where_put passes (Some words) = passes words

-- A check passes where the buffer does not put its promise, or puts words that pass it. It reads the plan's matrices and the awaited words
-- themselves.
abbrev pub check_passes : PlanData → List (List ℕ) → BufferData → KeptCheck → Bool
check_passes plan inputs buffer check = passes_where_put (spec_passes check.user plan.matrices inputs check.spec) (words_put check.promise buffer.puts)

-- the number of the first check that does not pass
unfoldable pub first_failing : PlanData → List (List ℕ) → List KeptCheck → BufferData → Option ℕ
first_failing plan inputs checks buffer = position (λ c. not (check_passes plan inputs buffer c)) checks
