-- The attempts of a task, and how it is judged by them.
use Rattle.std.specs.Prelude.{ℕ, List, map}
use Rattle.std.specs.List.{range_with_len}
use Rattle.rh_injector.specs.declared.faults.Strike.{Strike}
use Rattle.rh_rules.specs.declared.node.Node.{Node}
use Rattle.rh_plan.specs.Plans.{PlanData}
use Rattle.rh_injector.specs.Faults.{faults_in}
use Rattle.rh_plan.specs.Buffers.{BufferData, buffer_of}
use Rattle.rh_plan.specs.Checking.{first_failing}
use Rattle.rh_plan.specs.Correcting.{correction}
use Rattle.rh_plan.specs.Judging.{NodeResult, attempts_of, judged_by}

-- the buffer of attempt k of the task v on these awaited words
abbrev pub attempt_of : PlanData → List Strike → ℕ → Node → List (List ℕ) → ℕ → BufferData
attempt_of plan faults v node inputs k = buffer_of plan (faults_in faults v k) inputs node.body

-- the buffers of all attempts that it may make
abbrev pub attempts_made : PlanData → List Strike → ℕ → Node → List (List ℕ) → List BufferData
attempts_made plan faults v node inputs = map (attempt_of plan faults v node inputs) (range_with_len 0 (attempts_of node.scheme))

-- a task that is not skipped
abbrev pub judged : PlanData → List Strike → ℕ → Node → List (List ℕ) → NodeResult
judged plan faults v node inputs = judged_by (first_failing plan inputs node.checks) (correction plan node inputs) (attempts_made plan faults v node inputs) node.scheme
