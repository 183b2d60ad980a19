-- The correction of a buffer by the checks of a task as a plan has them.
use Rattle.std.specs.Prelude.{ℕ, ◌≡◌, List, [], Option, Some, None, true, option_and_then}
use Rattle.std.specs.List.{find}
use Rattle.rh_sparse.specs.Matrix.{MatrixData}
use Rattle.rh_rules.specs.declared.checks.PlannedCheck.{PlannedCheck}
use Rattle.rh_rules.specs.Lawful.{is_product}
use Rattle.rh_plan.specs.Plans.{PlanData, OfNode}
use Rattle.rh_plan.specs.Buffers.{BufferData}
use Rattle.rh_plan.specs.Correcting.{restored_put, restored_buffer, if_passing, correction}
use Rattle.rh_plan.specs.Checking.{first_failing}
use Rattle.rh_plan.specs.Judging.{corrected_to}
use Rattle.rh_schemes.specs.declared.result.NodeResult.{NodeResult}
use Rattle.rh_schemes.specs.Checking.{CanBeMade}
use Rattle.rh_schemes.specs.Judges.{result_data}

-- the place of a word, where there is one, with what was made
abbrev pub placed : {X : Type 0} → Option ℕ → X → Option (ℕ × X)
placed None x = None
placed (Some at) x = Some (at, x)

-- where the check is one of a product, it can be made
abbrev pub CanBeRestored : List MatrixData → List (List ℕ) → BufferData → PlannedCheck → Type 0
CanBeRestored matrices inputs buffer check = is_product check.spec ≡ true → CanBeMade matrices [] inputs buffer check

-- the put that the first check of a product reads, with one word restored
abbrev pub restored_planned : List MatrixData → List PlannedCheck → List (List ℕ) → BufferData → Option (ℕ × BufferData)
restored_planned matrices checks inputs buffer = option_and_then (λ c. restored_put matrices inputs buffer c.promise c.spec) (find (λ c. is_product c.spec) checks)

-- the buffer with one word of its checked put restored, for the task v
abbrev pub IsRestoredAt : PlanData → ℕ → List (List ℕ) → BufferData → Option (ℕ × BufferData) → Type 0
IsRestoredAt plan v inputs buffer restored = OfNode plan v (λ node. restored ≡ restored_buffer plan.matrices node.checks inputs buffer)

-- the task v is accepted with this word restored where the buffer passes all checks then, and else fails
abbrev pub IsCheckedAgain : PlanData → ℕ → List (List ℕ) → ℕ → ℕ → BufferData → NodeResult → Type 0
IsCheckedAgain plan v inputs which word fixed r = OfNode plan v (λ node. result_data r ≡ corrected_to which (if_passing (first_failing plan inputs node.checks) (word, fixed)))

-- the task v, whose buffer fails the check `which`, is corrected or fails
abbrev pub CorrectsAs : PlanData → ℕ → List (List ℕ) → ℕ → BufferData → NodeResult → Type 0
CorrectsAs plan v inputs which buffer r = OfNode plan v (λ node. result_data r ≡ corrected_to which (correction plan node inputs buffer))
