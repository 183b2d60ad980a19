-- The budget theorem, by induction over the node numbers.
use Rattle.std.proofs.Common.{◌≡◌, ℕ, zero, suc, ◌<◌, ◌≤◌, List, [], Option, Some, None, length, refl, arith, ap, sym, ◌∙◌, subst, inl, inr}
use Rattle.std.proofs.lemmas.Option.{slice_get_within, slice_get_cases}
use Rattle.std.proofs.lemmas.Bool.{false≢true}
use Rattle.std.specs.List.{AllByRecursion, slice_get}
use Rattle.std.specs.Option.{option_map}
use Rattle.rh_injector.specs.declared.faults.Strike.{Strike}
use Rattle.rh_rules.specs.declared.node.Kind.{Kind}
use Rattle.rh_rules.specs.declared.node.Kind.TheVariants.{Task, Group, Scope}
use Rattle.rh_rules.specs.declared.node.Node.{Node}
use Rattle.rh_plan.specs.declared.outcome.Cause.{Cause}
use Rattle.rh_plan.specs.Plans.{PlanData, edges_into_kind}
use Rattle.rh_plan.specs.Lawful.{IsLawfulPlan}
use Rattle.rh_plan.specs.Checking.{first_failing}
use Rattle.rh_plan.specs.Judging.{NodeResult}
use Rattle.rh_plan.specs.Correcting.{correction}
use Rattle.rh_plan.specs.Attempts.{attempts_made, judged}
use Rattle.rh_plan.specs.Results.{results, result_of_node, result_by_kind, task_result, group_result, cause_in, passes_by, is_skipped, ending_of}
use Rattle.rh_plan.specs.Budgets.{DependsOn, itself, through, fault_free_inputs, IsSkippedFaultFree, KeepsBudget, IsWithinBudget, BudgetsAreKept}
use Rattle.rh_plan.proofs.Dependencies.{IsEdgeOf, edges_there, forward_at}
use Rattle.rh_plan.proofs.Rows.{result_there, result_past, value_there, value_past}
use Rattle.rh_plan.proofs.Alike.{AreAlike, alike_same}
use Rattle.rh_plan.proofs.Judged.{judged_not_skipped, judged_alike}
use Rattle.rh_plan.proofs.Sources.{IsAlikeAt, AreSourcesAlike, ReadsSame, reads_same}
use Rattle.rh_plan.proofs.Scopes.{scope_same}

-- a task that has no cause without faults is not skipped without them
judged_there : (plan : PlanData) (v : ℕ) (node : Node) → slice_get plan.nodes v ≡ Some node → node.kind ≡ Task → cause_in plan (results plan [] v) node ≡ None → IsSkippedFaultFree plan v → ⊥
unfolding result_of_node
judged_there plan v node is kind none skipped =
    let within = slice_get_within plan.nodes v node is in
    let inputs = fault_free_inputs plan v node in
    let at = ap (passes_by is_skipped) (result_there plan [] (length plan.nodes) v node is within) in
    let as_task = ap (λ (k : Kind). is_skipped (result_by_kind plan [] (results plan [] v) v node k).verdict) kind in
    let as_judged = ap (λ (c : Option Cause). is_skipped (task_result plan [] (results plan [] v) v node c).verdict) none in
    let never = judged_not_skipped (first_failing plan inputs node.checks) (correction plan node inputs) (attempts_made plan [] v node inputs) node.scheme in
    false≢true (sym never ∙ sym as_judged ∙ sym as_task ∙ sym at ∙ skipped)

task_alike : (plan : PlanData) (faults : List Strike) (v : ℕ) (node : Node) → slice_get plan.nodes v ≡ Some node → node.kind ≡ Task → ReadsSame plan faults v node → KeepsBudget plan faults v node Task → (c : Option Cause) → cause_in plan (results plan [] v) node ≡ c → AreAlike (task_result plan faults (results plan faults v) v node c) (task_result plan [] (results plan [] v) v node c)
task_alike plan faults v node is kind reads (inl skipped) None cause = absurd (judged_there plan v node is kind cause skipped)
task_alike plan faults v node is kind reads (inr keeps) None cause =
    subst (λ (inputs : List (List ℕ)). AreAlike (judged plan faults v node inputs) (judged plan [] v node (fault_free_inputs plan v node))) (sym reads.inputs) (judged_alike plan faults v node keeps)
task_alike plan faults v node is kind reads keeps (Some c) cause = alike_same (task_result plan faults (results plan faults v) v node (Some c)) (task_result plan [] (results plan [] v) v node (Some c)) refl

-- a node within its budget is alike, where its sources are
kind_alike : (plan : PlanData) → IsLawfulPlan plan → (faults : List Strike) (v : ℕ) (node : Node) → slice_get plan.nodes v ≡ Some node → AreSourcesAlike plan faults v → (k : Kind) → node.kind ≡ k → KeepsBudget plan faults v node k → AllByRecursion (IsEdgeOf plan.edges) (edges_into_kind plan.promises v node k) → AreAlike (result_by_kind plan faults (results plan faults v) v node k) (result_by_kind plan [] (results plan [] v) v node k)
kind_alike plan lawful faults v node is alike Task kind keeps edges =
    let reads = reads_same plan lawful faults v node is alike edges in
    subst (λ (c : Option Cause). AreAlike (task_result plan faults (results plan faults v) v node c) (task_result plan [] (results plan [] v) v node (cause_in plan (results plan [] v) node))) (sym reads.cause)
    (task_alike plan faults v node is kind reads keeps (cause_in plan (results plan [] v) node) refl)
kind_alike plan lawful faults v node is alike Group kind keeps edges =
    let reads = reads_same plan lawful faults v node is alike edges in
    alike_same (group_result (cause_in plan (results plan faults v) node)) (group_result (cause_in plan (results plan [] v) node)) (ap group_result reads.cause)
kind_alike plan lawful faults v node is alike Scope kind keeps edges =
    alike_same (result_by_kind plan faults (results plan faults v) v node Scope) (result_by_kind plan [] (results plan [] v) v node Scope) (scope_same plan lawful faults v alike node.members edges)

node_alike : (plan : PlanData) → IsLawfulPlan plan → (faults : List Strike) (v : ℕ) → AreSourcesAlike plan faults v → IsWithinBudget plan faults v → IsAlikeAt plan faults v
unfolding result_of_node
node_alike plan lawful faults v alike within node is =
    kind_alike plan lawful faults v node is alike node.kind refl (within node is) (edges_there plan lawful v node is)

alike_below : (plan : PlanData) → IsLawfulPlan plan → (faults : List Strike) (n v : ℕ) → v < n → ((u : ℕ) → DependsOn plan v u → IsWithinBudget plan faults u) → IsAlikeAt plan faults v
alike_below plan lawful faults zero v below within = absurd (omega arith)
alike_below plan lawful faults (suc n) v below within =
    node_alike plan lawful faults v
    (λ e edge at to.
    let forward = forward_at plan lawful e edge at in
    let earlier : edge.from < edge.to = forward.rises in
    alike_below plan lawful faults n edge.from (omega arith) (λ u depends. within u (through e v u edge at to depends)))
    (within v (itself v))

pub budgets_are_kept : BudgetsAreKept
budgets_are_kept plan lawful faults v within = elim (slice_get_cases plan.nodes v).1 [
  | inl there ↦
      let node = there.0 in
      let is : slice_get plan.nodes v ≡ Some node = there.2 in
      let inside : v < length plan.nodes = there.1 in
      let alike = alike_below plan lawful faults (suc v) v (omega arith) within node is in
      let ending_at = λ (o : Option NodeResult). option_map (λ r. ending_of r.verdict) o in
      record {
        ending = ap ending_at (result_there plan faults (length plan.nodes) v node is inside) ∙ ap Some alike.ending ∙ sym (ap ending_at (result_there plan [] (length plan.nodes) v node is inside));
        values = λ q by. value_there plan faults (length plan.nodes) q v node by is inside ∙ alike.values q ∙ sym (value_there plan [] (length plan.nodes) q v node by is inside);
      }
  | inr past ↦
      let beyond : length plan.nodes ≤ v = past.0 in
      let ending_at = λ (o : Option NodeResult). option_map (λ r. ending_of r.verdict) o in
      record {
        ending = ap ending_at (result_past plan faults (length plan.nodes) v beyond) ∙ sym (ap ending_at (result_past plan [] (length plan.nodes) v beyond));
        values = λ q by. value_past plan faults (length plan.nodes) q v by beyond ∙ sym (value_past plan [] (length plan.nodes) q v by beyond);
      }
]
