-- What a line says of the task that it names.
use Rattle.std.proofs.Common.{◌≡◌, ℕ, ◌<◌, ◌&&◌, true, cond, List, [], Option, Some, None, Result, Ok, Err, get_or, length, unwrap_or, refl, ap, sym, ◌∙◌, subst}
use Rattle.std.specs.Prelude.{IfOk, is_none, nat_le, slice_get, slice_index, option_and_then}
use Rattle.std.specs.Str.{bytes_eq}
use Rattle.std.proofs.lemmas.Bool.{false≢true, and_parts}
use Rattle.std.proofs.lemmas.Option.{slice_get_within, get_or_from_slice_get}
use Rattle.rh_words.specs.declared.reason.Reason.{Reason}
use Rattle.rh_words.specs.declared.reason.Reason.TheVariants as reasons
use Rattle.rh_words.specs.declared.reason.Fault.{Fault}
use Rattle.rh_words.specs.declared.reason.Fault.TheVariants.{Refused, OutOfMemory}
use Rattle.rh_words.specs.Refusals.{OnRefused}
use Rattle.rh_injector.specs.declared.fault_text.FaultLine.{FaultLine}
use Rattle.rh_injector.specs.declared.faults.Strike.{Strike}
use Rattle.rh_rules.specs.declared.node.Kind.{Kind}
use Rattle.rh_rules.specs.declared.node.Kind.TheVariants.{Task, Group, Scope}
use Rattle.rh_rules.specs.declared.node.Node.{Node}
use Rattle.rh_rules.specs.declared.node.PlannedPromise.{PlannedPromise}
use Rattle.rh_rules.specs.declared.shape.Shape.{Shape}
use Rattle.rh_rules.specs.Lawful.{is_task, local_lens, IsLawfulKind, IsLawfulTask}
use Rattle.rh_rules.specs.Tables.{if_any}
use Rattle.rh_plan.specs.Plans.{PlanData, shapes_in}
use Rattle.rh_plan.specs.Lawful.{IsLawfulPlan}
use Rattle.rh_plan.specs.Judging.{attempts_of}
use Rattle.rh_plan.specs.FaultLines.{task_number, task_of, local_number, local_of, fault_reason, is_zero_mask, strike_of}
use Rattle.rh_plan.specs.FaultTables.{reason_in_task, strike_in_task}
use Rattle.rh_plan.proofs.FaultPlaces.{found_there}

kind_is : (k : Kind) → is_task k ≡ true → k ≡ Task
kind_is Task e = refl
kind_is Group e = absurd (false≢true e)
kind_is Scope e = absurd (false≢true e)

-- The node v is a lawful task.
pub record IsTaskAt (plan : PlanData) (v : ℕ) (node : Node) : Type 0 where
  pub within : v < length plan.nodes
  pub there : slice_get plan.nodes v ≡ Some node
  pub kind : node.kind ≡ Task
  pub lawful : IsLawfulTask (shapes_in plan) plan.promises node

-- the task of a name
pub task_at : (plan : PlanData) (name : List ℕ) (v : ℕ) → IsLawfulPlan plan → task_number plan name ≡ Some v → (node : Node) × IsTaskAt plan v node
task_at plan name v lawful e =
    let (node, there, passes) = found_there (λ node. is_task node.kind && bytes_eq node.name name) plan.nodes v e in
    let kind = kind_is node.kind (and_parts (is_task node.kind) (bytes_eq node.name name) passes).0 in (
      node,
      record {
        within = slice_get_within plan.nodes v node there;
        there = there;
        kind = kind;
        lawful = subst (IsLawfulKind (shapes_in plan) plan.promises node) kind (lawful.parts.nodes v node there).kind;
      },
    )

-- the reason by what the names of a line find
by_finds : PlanData → FaultLine → Option ℕ → Option Node → Option ℕ → Option Reason
by_finds plan fault v task i =
    cond (is_none v) (Some reasons.UnknownTask)
    (cond (if_any (λ node. nat_le (attempts_of node.scheme) fault.attempt) task) (Some reasons.Attempt)
    (cond (is_none i) (Some reasons.Local)
    (cond (if_any (λ node. if_any (λ i. nat_le (slice_index (local_lens (shapes_in plan) plan.promises node) i) fault.word) i) task) (Some reasons.BadWord)
    (cond (is_zero_mask fault) (Some reasons.ZeroMask) None))))

-- a line that names no task
pub unknown_task : (plan : PlanData) (fault : FaultLine) → task_number plan fault.task ≡ None → fault_reason plan [] fault ≡ Some reasons.UnknownTask
unfolding by_finds
unknown_task plan fault none = ap (λ o. by_finds plan fault o (task_of plan fault) (local_of plan fault)) none

task_is : (plan : PlanData) (fault : FaultLine) (v : ℕ) (node : Node) → task_number plan fault.task ≡ Some v → slice_get plan.nodes v ≡ Some node → task_of plan fault ≡ Some node
task_is plan fault v node found there = ap (λ o. option_and_then (λ u. slice_get plan.nodes u) o) found ∙ there

local_is : (plan : PlanData) (fault : FaultLine) (v : ℕ) (node : Node) → task_number plan fault.task ≡ Some v → slice_get plan.nodes v ≡ Some node → local_of plan fault ≡ local_number plan.promises fault.local node
local_is plan fault v node found there = ap (λ o. option_and_then (local_number plan.promises fault.local) o) (task_is plan fault v node found there)

-- a line that names the task
pub reason_of_task : (plan : PlanData) (fault : FaultLine) (v : ℕ) (node : Node) → task_number plan fault.task ≡ Some v → slice_get plan.nodes v ≡ Some node → fault_reason plan [] fault ≡ reason_in_task (shapes_in plan) plan.promises node fault
unfolding by_finds
reason_of_task plan fault v node found there =
    ap (λ o. by_finds plan fault o (task_of plan fault) (local_of plan fault)) found
    ∙ ap (λ o. by_finds plan fault (Some v) o (local_of plan fault)) (task_is plan fault v node found there)
    ∙ ap (λ o. by_finds plan fault (Some v) (Some node) o) (local_is plan fault v node found there)

by_numbers : FaultLine → Option ℕ → Option ℕ → Strike
by_numbers fault v i = record { node = unwrap_or v 0; attempt = fault.attempt; local = unwrap_or i 0; word = fault.word; mask = fault.mask }

pub strike_of_task : (plan : PlanData) (fault : FaultLine) (v : ℕ) (node : Node) → task_number plan fault.task ≡ Some v → slice_get plan.nodes v ≡ Some node → strike_of plan fault ≡ strike_in_task plan.promises v node fault
unfolding by_numbers
strike_of_task plan fault v node found there =
    ap (λ o. by_numbers fault o (local_of plan fault)) found
    ∙ ap (λ o. by_numbers fault (Some v) o) (local_is plan fault v node found there)

-- a node that is read at the number of a task
pub task_read : (plan : PlanData) (name : List ℕ) (v : ℕ) (nodes : List Node) (node : Node) → IsLawfulPlan plan → nodes ≡ plan.nodes → task_number plan name ≡ Some v → node ≡ get_or nodes v node → IsTaskAt plan v node
task_read plan name v nodes node lawful same found is =
    let (there, task) = task_at plan name v lawful found in
    let at : get_or plan.nodes v node ≡ there = get_or_from_slice_get plan.nodes v there node task.there in
    let one : node ≡ there = is ∙ ap (λ (l : List Node). get_or l v node) same ∙ at in
    subst (IsTaskAt plan v) (sym one) task

-- what the fault of a line in its task is in the plan
pub unrefused_in : (plan : PlanData) (fault : FaultLine) (v : ℕ) (node : Node) (shapes : List Shape) (promises : List PlannedPromise) (answer : Result Strike (Fault Reason)) → shapes ≡ shapes_in plan → promises ≡ plan.promises → task_number plan fault.task ≡ Some v → slice_get plan.nodes v ≡ Some node → IfOk answer (λ s. reason_in_task shapes promises node fault ≡ None) → IfOk answer (λ s. fault_reason plan [] fault ≡ None)
unrefused_in plan fault v node shapes promises (Ok s) held same found there h = reason_of_task plan fault v node found there ∙ ap (λ (ps : List PlannedPromise). reason_in_task (shapes_in plan) ps node fault) (sym same) ∙ ap (λ (l : List Shape). reason_in_task l promises node fault) (sym held) ∙ h
unrefused_in plan fault v node shapes promises (Err e) held same found there h = tt

pub strike_there : (plan : PlanData) (fault : FaultLine) (v : ℕ) (node : Node) (promises : List PlannedPromise) (answer : Result Strike (Fault Reason)) → promises ≡ plan.promises → task_number plan fault.task ≡ Some v → slice_get plan.nodes v ≡ Some node → IfOk answer (λ s. s ≡ strike_in_task promises v node fault) → IfOk answer (λ s. s ≡ strike_of plan fault)
strike_there plan fault v node promises (Ok s) same found there h = h ∙ ap (λ (ps : List PlannedPromise). strike_in_task ps v node fault) same ∙ sym (strike_of_task plan fault v node found there)
strike_there plan fault v node promises (Err e) same found there h = tt

pub refused_in : (plan : PlanData) (fault : FaultLine) (v : ℕ) (node : Node) (shapes : List Shape) (promises : List PlannedPromise) (answer : Result Strike (Fault Reason)) → shapes ≡ shapes_in plan → promises ≡ plan.promises → task_number plan fault.task ≡ Some v → slice_get plan.nodes v ≡ Some node → OnRefused answer (λ r. reason_in_task shapes promises node fault ≡ Some r) → OnRefused answer (λ r. fault_reason plan [] fault ≡ Some r)
refused_in plan fault v node shapes promises (Ok s) held same found there h = tt
refused_in plan fault v node shapes promises (Err OutOfMemory) held same found there h = tt
refused_in plan fault v node shapes promises (Err (Refused r)) held same found there h = reason_of_task plan fault v node found there ∙ ap (λ (ps : List PlannedPromise). reason_in_task (shapes_in plan) ps node fault) (sym same) ∙ ap (λ (l : List Shape). reason_in_task l promises node fault) (sym held) ∙ h
