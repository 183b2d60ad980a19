-- The results of a plan, node by node.
use Rattle.std.proofs.Common.{◌≡◌, ℕ, zero, suc, ◌<◌, ◌≤◌, min, List, [], ◌∷◌, ◌++◌, Option, Some, None, length, refl, arith, ap, ◌∙◌, inl, inr, length-append}
use Rattle.std.proofs.lemmas.Option.{slice_get_within, slice_get_cases, slice_get_past}
use Rattle.std.proofs.lemmas.Bool.{cases_lt}
use Rattle.std.specs.List.{slice_get}
use Rattle.std.specs.Option.{option_and_then}
use Rattle.rh_injector.specs.declared.faults.Strike.{Strike}
use Rattle.rh_rules.specs.declared.node.Node.{Node}
use Rattle.rh_rules.specs.Lawful.{putter_of}
use Rattle.rh_plan.specs.Plans.{PlanData}
use Rattle.rh_plan.specs.Judging.{NodeResult}
use Rattle.rh_plan.specs.Results.{results, result_at, result_of_node, value_in, value_by}
use Rattle.rh_plan.proofs.Lists.{slice_get_left, slice_get_last}

pub results-suc : (plan : PlanData) (faults : List Strike) (n : ℕ) → results plan faults (suc n) ≡ results plan faults n ++ result_at plan faults (results plan faults n) n (slice_get plan.nodes n)
unfolding results
results-suc plan faults n = refl

pub results-zero : (plan : PlanData) (faults : List Strike) → results plan faults zero ≡ []
unfolding results
results-zero plan faults = refl

-- the results after one more node
pub results_next : (plan : PlanData) (faults : List Strike) (n : ℕ) (node : Node) → slice_get plan.nodes n ≡ Some node → results plan faults (suc n) ≡ results plan faults n ++ result_of_node plan faults (results plan faults n) n node ∷ []
results_next plan faults n node is =
    results-suc plan faults n ∙ ap (λ (o : Option Node). results plan faults n ++ result_at plan faults (results plan faults n) n o) is

-- each of the first nodes has a result
pub length-results : (plan : PlanData) (faults : List Strike) (n : ℕ) → length (results plan faults n) ≡ min n (length plan.nodes)
length-results plan faults zero = ap length (results-zero plan faults) ∙ omega arith
length-results plan faults (suc n) =
    let rest = length-results plan faults n in
    let next = ap length (results-suc plan faults n) ∙ length-append (results plan faults n) (result_at plan faults (results plan faults n) n (slice_get plan.nodes n)) in
    elim (slice_get_cases plan.nodes n).1 [
      | inl there ↦
          let more : length (result_at plan faults (results plan faults n) n (slice_get plan.nodes n)) ≡ 1 = ap (λ (o : Option Node). length (result_at plan faults (results plan faults n) n o)) there.2 in
          let within : n < length plan.nodes = there.1 in
          omega arith
      | inr past ↦
          let more : length (result_at plan faults (results plan faults n) n (slice_get plan.nodes n)) ≡ 0 = ap (λ (o : Option Node). length (result_at plan faults (results plan faults n) n o)) past.1 in
          let beyond : length plan.nodes ≤ n = past.0 in
          omega arith
    ]

-- The result of a node is that which the results of the lower nodes give it, whatever higher nodes there are.
pub result_there : (plan : PlanData) (faults : List Strike) (n v : ℕ) (node : Node) → slice_get plan.nodes v ≡ Some node → v < n → slice_get (results plan faults n) v ≡ Some (result_of_node plan faults (results plan faults v) v node)
result_there plan faults zero v node is below = absurd (omega arith)
result_there plan faults (suc n) v node is below = elim (cases_lt v n) [
  | inl earlier ↦
      ap (λ (l : List NodeResult). slice_get l v) (results-suc plan faults n)
      ∙ slice_get_left (results plan faults n) (result_at plan faults (results plan faults n) n (slice_get plan.nodes n)) v (result_of_node plan faults (results plan faults v) v node) (result_there plan faults n v node is earlier)
  | inr last ↦
      let same : n ≡ v = omega arith in
      let within = slice_get_within plan.nodes v node is in
      let long = length-results plan faults v in
      let next : slice_get (results plan faults (suc v)) v ≡ Some (result_of_node plan faults (results plan faults v) v node) =
      ap (λ (l : List NodeResult). slice_get l v) (results_next plan faults v node is) ∙ slice_get_last (results plan faults v) (result_of_node plan faults (results plan faults v) v node) v (omega arith) in
      ap (λ (k : ℕ). slice_get (results plan faults (suc k)) v) same ∙ next
]

-- there is no result where there is no node
pub result_past : (plan : PlanData) (faults : List Strike) (n v : ℕ) → length plan.nodes ≤ v → slice_get (results plan faults n) v ≡ None
result_past plan faults n v beyond = let long = length-results plan faults n in slice_get_past (results plan faults n) v (omega arith)

-- the value of a promise is what the result of its putter gives it
pub value_there : (plan : PlanData) (faults : List Strike) (n q u : ℕ) (node : Node) → putter_of plan.promises q ≡ Some u → slice_get plan.nodes u ≡ Some node → u < n → value_in plan (results plan faults n) q ≡ value_by q (result_of_node plan faults (results plan faults u) u node)
value_there plan faults n q u node by is below =
    ap (λ (o : Option ℕ). option_and_then (λ v. option_and_then (value_by q) (slice_get (results plan faults n) v)) o) by
    ∙ ap (λ (o : Option NodeResult). option_and_then (value_by q) o) (result_there plan faults n u node is below)

pub value_past : (plan : PlanData) (faults : List Strike) (n q u : ℕ) → putter_of plan.promises q ≡ Some u → length plan.nodes ≤ u → value_in plan (results plan faults n) q ≡ None
value_past plan faults n q u by beyond =
    ap (λ (o : Option ℕ). option_and_then (λ v. option_and_then (value_by q) (slice_get (results plan faults n) v)) o) by
    ∙ ap (λ (o : Option NodeResult). option_and_then (value_by q) o) (result_past plan faults n u beyond)
