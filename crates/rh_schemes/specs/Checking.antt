-- The checks of a task as a plan has them, without the kept specs of handed-in checks, over the checks that are handed in.
use Rattle.std.specs.Prelude.{ℕ, ◌≡◌, List, Bool, not, Option, None, Some, Result, Ok, Err}
use Rattle.std.specs.List.{position}
use Rattle.rh_sparse.specs.Matrix.{MatrixData}
use Rattle.rh_check.specs.declared.spec.UserSpec.{UserSpec}
use Rattle.rh_check.specs.Checks.{spec_passes}
use Rattle.rh_check.specs.Users.{user_named}
use Rattle.rh_check.specs.Fitting.{FitsInputs}
use Rattle.rh_injector.specs.declared.faults.Strike.{Strike}
use Rattle.rh_rules.specs.declared.checks.PlannedCheck.{PlannedCheck}
use Rattle.rh_plan.specs.Plans.{PlanData, OfNode}
use Rattle.rh_plan.specs.Buffers.{BufferData, words_put}
use Rattle.rh_plan.specs.Checking.{passes_where_put, first_failing}
use Rattle.rh_attempt.specs.Attempting.{IsAttemptAt}

-- The check can be made of this buffer. The arguments are the matrices, what the handed-in checks ask, the
-- awaited words and the buffer.
abbrev pub CanBeMade : List MatrixData → List UserSpec → List (List ℕ) → BufferData → PlannedCheck → Type 0
CanBeMade matrices users inputs buffer check = (words : List ℕ) → words_put check.promise buffer.puts ≡ Some words → FitsInputs matrices inputs words users check.spec

-- a check passes by what the handed-in checks ask
abbrev pub planned_passes : List MatrixData → List UserSpec → List (List ℕ) → BufferData → PlannedCheck → Bool
planned_passes matrices users inputs buffer check = passes_where_put (spec_passes (user_named users check.spec) matrices inputs check.spec) (words_put check.promise buffer.puts)

-- the number of the first check that does not pass
abbrev pub first_planned : List MatrixData → List UserSpec → List (List ℕ) → BufferData → List PlannedCheck → Option ℕ
first_planned matrices users inputs buffer checks = position (λ c. not (planned_passes matrices users inputs buffer c)) checks

-- the first check of the task that the buffer fails
abbrev pub IsFirstFailingAt : PlanData → ℕ → List (List ℕ) → BufferData → Option ℕ → Type 0
IsFirstFailingAt plan v inputs buffer which = OfNode plan v (λ node. which ≡ first_failing plan inputs node.checks buffer)

-- attempt k of the task, where it passes all checks, or the number of the first that it fails
abbrev pub IsTriedAt : PlanData → List Strike → ℕ → List (List ℕ) → ℕ → Result BufferData ℕ → Type 0
IsTriedAt plan faults v inputs k (Ok b) = IsAttemptAt plan faults v inputs k b × IsFirstFailingAt plan v inputs b None
IsTriedAt plan faults v inputs k (Err which) = (b : BufferData) × IsAttemptAt plan faults v inputs k b × IsFirstFailingAt plan v inputs b (Some which)
