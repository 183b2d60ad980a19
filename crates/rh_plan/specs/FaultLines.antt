-- What the lines of a fault text name in a plan, and why a line is refused.
use Rattle.std.specs.Prelude.{ℕ, ◌≡◌, ◌<◌, ◌==◌, ◌&&◌, List, Bool, Option, Some, None, is_none, map, take, cond, nat_le, unwrap_or, position, slice_get, slice_index, option_and_then, IsPermutation}
use Rattle.std.specs.List.{list_any}
use Rattle.std.specs.Option.{option_map}
use Rattle.std.specs.Str.{bytes_eq}
use Rattle.rh_words.specs.declared.reason.Reason.{Reason}
use Rattle.rh_words.specs.declared.reason.Reason.TheVariants as reasons
use Rattle.rh_injector.specs.declared.fault_text.FaultLine.{FaultLine}
use Rattle.rh_injector.specs.declared.faults.Strike.{Strike}
use Rattle.rh_injector.specs.Faults.{IsAscending}
use Rattle.rh_rules.specs.declared.node.Node.{Node}
use Rattle.rh_rules.specs.declared.node.PlannedPromise.{PlannedPromise}
use Rattle.rh_rules.specs.Lawful.{is_task, local_lens, local_names}
use Rattle.rh_rules.specs.Tables.{if_any}
use Rattle.rh_plan.specs.Plans.{PlanData, shapes_in}
use Rattle.rh_plan.specs.Judging.{attempts_of}

-- the number of the task of a name, among these nodes and in a plan
abbrev pub task_among : List Node → List ℕ → Option ℕ
task_among nodes name = position (λ node. is_task node.kind && bytes_eq node.name name) nodes

abbrev pub task_number : PlanData → List ℕ → Option ℕ
task_number plan name = task_among plan.nodes name

-- the task that a line names
abbrev pub task_of : PlanData → FaultLine → Option Node
task_of plan fault = option_and_then (λ v. slice_get plan.nodes v) (task_number plan fault.task)

-- the number of the local of a name
abbrev pub local_number : List PlannedPromise → List ℕ → Node → Option ℕ
local_number promises name node = position (λ n. bytes_eq n name) (local_names promises node)

-- the number of the local that a line names
abbrev pub local_of : PlanData → FaultLine → Option ℕ
local_of plan fault = option_and_then (local_number plan.promises fault.local) (task_of plan fault)

-- UnknownTask: no task has the name.
abbrev pub is_unknown_task : PlanData → FaultLine → Bool
is_unknown_task plan fault = is_none (task_number plan fault.task)

-- Attempt: the task never makes an attempt of this number.
abbrev pub is_bad_attempt : PlanData → FaultLine → Bool
is_bad_attempt plan fault = if_any (λ node. nat_le (attempts_of node.scheme) fault.attempt) (task_of plan fault)

-- Local: the task has no local of the name.
abbrev pub is_unknown_local : PlanData → FaultLine → Bool
is_unknown_local plan fault = is_none (local_of plan fault)

-- BadWord: the local has no word of this number.
abbrev pub is_bad_word : PlanData → FaultLine → Bool
is_bad_word plan fault =
    if_any (λ node. if_any (λ i. nat_le (slice_index (local_lens (shapes_in plan) plan.promises node) i) fault.word) (local_of plan fault)) (task_of plan fault)

-- ZeroMask: the mask turns no bit.
abbrev pub is_zero_mask : FaultLine → Bool
is_zero_mask fault = fault.mask == 0

-- both lines name one place
abbrev pub is_same_place : FaultLine → FaultLine → Bool
is_same_place fault other =
    bytes_eq fault.task other.task && (fault.attempt == other.attempt && (bytes_eq fault.local other.local && fault.word == other.word))

-- FaultTwice: a line above names the same place.
abbrev pub is_fault_twice : List FaultLine → FaultLine → Bool
is_fault_twice above fault = list_any (λ other. is_same_place other fault) above

-- The reason of a line below these: the first that holds.
abbrev pub fault_reason : PlanData → List FaultLine → FaultLine → Option Reason
fault_reason plan above fault =
    cond (is_unknown_task plan fault) (Some reasons.UnknownTask)
    (cond (is_bad_attempt plan fault) (Some reasons.Attempt)
    (cond (is_unknown_local plan fault) (Some reasons.Local)
    (cond (is_bad_word plan fault) (Some reasons.BadWord)
    (cond (is_zero_mask fault) (Some reasons.ZeroMask)
    (cond (is_fault_twice above fault) (Some reasons.FaultTwice) None)))))

-- the reason of the line at this place in the text, counted from 0
abbrev pub reason_at : PlanData → List FaultLine → ℕ → Option Reason
reason_at plan lines at = option_and_then (fault_reason plan (take at lines)) (slice_get lines at)

-- the fault of a line, by numbers
abbrev pub strike_of : PlanData → FaultLine → Strike
strike_of plan fault = record {
  node = unwrap_or (task_number plan fault.task) 0;
  attempt = fault.attempt;
  local = unwrap_or (local_of plan fault) 0;
  word = fault.word;
  mask = fault.mask;
}

-- No line has a reason, and these are the faults of the lines, in the order of their places.
pub record AreFaultsOfText (plan : PlanData) (lines : List FaultLine) (faults : List Strike) : Type 0 where
  pub kept : (at : ℕ) → reason_at plan lines at ≡ None
  pub ascending : IsAscending faults
  pub same : IsPermutation (map (strike_of plan) lines) faults

-- The first line that has a reason, with its first one. Its number is that which it has in the text.
pub record FirstBadFault (plan : PlanData) (lines : List FaultLine) (line : ℕ) (reason : Reason) : Type 0 where
  pub place : ℕ
  pub kept : (at : ℕ) → at < place → reason_at plan lines at ≡ None
  pub broken : reason_at plan lines place ≡ Some reason
  pub at : option_map (λ fault. fault.line) (slice_get lines place) ≡ Some line
