-- A text has one plan or a first break, never both.
use Rattle.std.proofs.Common.{◌≡◌, ◌⊎◌, ℕ, List, refl, sym, ap, ◌∙◌, inl, inr}
use Rattle.rh_words.specs.declared.reason.Reason.{Reason}
use Rattle.rh_task_text.specs.Program.{ProgramText, upward}
use Rattle.rh_check.specs.Users.{HandedChecks}
use Rattle.rh_rules.specs.declared.node.Node.{Node}
use Rattle.rh_rules.specs.declared.node.PlannedPromise.{PlannedPromise}
use Rattle.rh_sparse.specs.Matrix.{MatrixData}
use Rattle.rh_rules.specs.Above.{nodes_above, promises_above, closed_above}
use Rattle.rh_planner.specs.Planned.{look_above, FirstBreak}
use Rattle.rh_planner.proofs.Breaking.{kept_or_broken, kept_unbroken}
use Rattle.rh_plan.specs.Plans.{PlanData, plan_data, edges_from}
use Rattle.rh_plan.specs.Planned.{IsPlanOf}

-- the plan of the lines of a text
abbrev pub planned_data : HandedChecks → ProgramText → PlanData
planned_data handed text =
    let ns = nodes_above (look_above handed) (upward text.items) in
    let ps = promises_above (upward text.items) in
    plan_data ns ps (edges_from ps 0 ns) (closed_above (upward text.items))

pub planned_or_broken : (handed : HandedChecks) (text : ProgramText) → ((plan : PlanData) × IsPlanOf handed text plan) ⊎ ((line : ℕ) × (reason : Reason) × FirstBreak handed text line reason)
planned_or_broken handed text = elim (kept_or_broken handed text) [
  | inl kept ↦ inl (planned_data handed text, record { draft = record { kept = kept; nodes = refl; promises = refl; matrices = refl }; whole = refl })
  | inr broken ↦ inr broken
]

pub planned_unbroken : (handed : HandedChecks) (text : ProgramText) (plan : PlanData) (line : ℕ) (reason : Reason) → IsPlanOf handed text plan → FirstBreak handed text line reason → ⊥
planned_unbroken handed text plan line reason planned break = kept_unbroken handed text line reason planned.draft.kept break

planned_is : (handed : HandedChecks) (text : ProgramText) (plan : PlanData) → IsPlanOf handed text plan → plan ≡ planned_data handed text
planned_is handed text plan planned =
    let of : List Node → List PlannedPromise → List MatrixData → PlanData = λ ns ps ms. plan_data ns ps (edges_from ps 0 ns) ms in
    let ns = nodes_above (look_above handed) (upward text.items) in
    let ps = promises_above (upward text.items) in
    let nodes = ap (λ (l : List Node). of l plan.promises plan.matrices) planned.draft.nodes in
    let promises = ap (λ (l : List PlannedPromise). of ns l plan.matrices) planned.draft.promises in
    let matrices = ap (λ (l : List MatrixData). of ns ps l) planned.draft.matrices in
    planned.whole ∙ nodes ∙ promises ∙ matrices

pub planned_once : (handed : HandedChecks) (text : ProgramText) (plan other : PlanData) → IsPlanOf handed text plan → IsPlanOf handed text other → plan ≡ other
planned_once handed text plan other planned again = planned_is handed text plan planned ∙ sym (planned_is handed text other again)
