-- A scope whose members end as without faults has the counts that it has without them.
use Rattle.std.proofs.Common.{◌≡◌, ℕ, List, [], Bool, None, length, map, ap, ◌∙◌}
use Rattle.std.specs.List.{AllByRecursion, slice_get}
use Rattle.rh_injector.specs.declared.faults.Strike.{Strike}
use Rattle.rh_plan.specs.declared.outcome.Verdict.{Verdict}
use Rattle.rh_plan.specs.declared.outcome.Verdict.TheVariants.{Ended}
use Rattle.rh_plan.specs.Plans.{PlanData, order_edge}
use Rattle.rh_plan.specs.Lawful.{IsLawfulPlan}
use Rattle.rh_plan.specs.Judging.{NodeResult}
use Rattle.rh_plan.specs.Results.{results, passes_by, is_accepted, is_failed, is_skipped, ending_of, count_ended, scope_result}
use Rattle.rh_plan.proofs.Lists.{all_by, all_map, filter_agree_on}
use Rattle.rh_plan.proofs.Dependencies.{IsEdgeOf}
use Rattle.rh_plan.proofs.Alike.{is_accepted-ending, is_failed-ending, is_skipped-ending}
use Rattle.rh_plan.proofs.Sources.{AreSourcesAlike, source_same}

count_same : (plan : PlanData) → IsLawfulPlan plan → (faults : List Strike) (v : ℕ) → AreSourcesAlike plan faults v → (members : List ℕ) → AllByRecursion (λ u. IsEdgeOf plan.edges (order_edge v u)) members → (test : Verdict → Bool) → ((w : Verdict) → test w ≡ test (ending_of w)) → count_ended test (results plan faults v) members ≡ count_ended test (results plan [] v) members
count_same plan lawful faults v alike members edges test looks =
    ap length (filter_agree_on (λ u. passes_by test (slice_get (results plan faults v) u)) (λ u. passes_by test (slice_get (results plan [] v) u)) members
    (all_by (λ u. IsEdgeOf plan.edges (order_edge v u)) (λ u. passes_by test (slice_get (results plan faults v) u) ≡ passes_by test (slice_get (results plan [] v) u)) members (λ u edge. source_same plan lawful faults v u alike edge test looks) edges))

abbrev ended : ℕ → ℕ → ℕ → NodeResult
ended a f s = record { verdict = Ended a f s; trials = []; accepted = None }

pub scope_same : (plan : PlanData) → IsLawfulPlan plan → (faults : List Strike) (v : ℕ) → AreSourcesAlike plan faults v → (members : List ℕ) → AllByRecursion (IsEdgeOf plan.edges) (map (order_edge v) members) → scope_result (results plan faults v) members ≡ scope_result (results plan [] v) members
scope_same plan lawful faults v alike members edges =
    let each = all_map (IsEdgeOf plan.edges) (order_edge v) members edges in
    let count = λ (f : List Strike) (test : Verdict → Bool). count_ended test (results plan f v) members in
    ap (λ (n : ℕ). ended n (count faults is_failed) (count faults is_skipped)) (count_same plan lawful faults v alike members each is_accepted is_accepted-ending)
    ∙ ap (λ (n : ℕ). ended (count [] is_accepted) n (count faults is_skipped)) (count_same plan lawful faults v alike members each is_failed is_failed-ending)
    ∙ ap (λ (n : ℕ). ended (count [] is_accepted) (count [] is_failed) n) (count_same plan lawful faults v alike members each is_skipped is_skipped-ending)
