-- What a node reads of its sources is as without faults, where they are.
use Rattle.std.proofs.Common.{◌≡◌, ℕ, ◌<◌, ◌≤◌, List, [], ◌∷◌, Bool, Option, Some, None, length, map, unwrap_or, option_to_list, refl, arith, ap, sym, ◌∙◌, subst, inl, inr}
use Rattle.std.proofs.lemmas.Option.{slice_get_cases}
use Rattle.std.specs.List.{AllByRecursion, slice_get}
use Rattle.std.specs.Option.{IsSomeAnd, is_some}
use Rattle.rh_injector.specs.declared.faults.Strike.{Strike}
use Rattle.rh_rules.specs.declared.node.Node.{Node}
use Rattle.rh_plan.specs.declared.edge.Edge.{Edge}
use Rattle.rh_plan.specs.declared.outcome.Verdict.{Verdict}
use Rattle.rh_rules.specs.Lawful.{putter_of}
use Rattle.rh_plan.specs.Plans.{PlanData, await_edge, order_edge, start_edges}
use Rattle.rh_plan.specs.Lawful.{IsLawfulPlan}
use Rattle.rh_plan.specs.Judging.{NodeResult}
use Rattle.rh_plan.specs.Results.{results, result_of_node, value_in, inputs_in, present_in, group_opened, passes_by, is_opened, ending_of, blamed, cause_in}
use Rattle.rh_plan.proofs.Lists.{all_by, all_map, all_left, all_right, map_agree_on}
use Rattle.rh_plan.proofs.Dependencies.{IsEdgeOf, forward_at}
use Rattle.rh_plan.proofs.Rows.{result_there, value_there}
use Rattle.rh_plan.proofs.Alike.{AreAlike, passes_alike, is_opened-ending}

-- the result of a node by those of the lower nodes
abbrev pub row : PlanData → List Strike → ℕ → Node → NodeResult
row plan faults v node = result_of_node plan faults (results plan faults v) v node

-- the node of this number has a result alike that without faults
abbrev pub IsAlikeAt : PlanData → List Strike → ℕ → Type 0
IsAlikeAt plan faults u = (node : Node) → slice_get plan.nodes u ≡ Some node → AreAlike (row plan faults u node) (row plan [] u node)

-- each source of an edge into v has one
abbrev pub AreSourcesAlike : PlanData → List Strike → ℕ → Type 0
AreSourcesAlike plan faults v = (e : ℕ) (edge : Edge) → slice_get plan.edges e ≡ Some edge → edge.to ≡ v → IsAlikeAt plan faults edge.from

pub node_there : (plan : PlanData) (n : ℕ) → n < length plan.nodes → (node : Node) × (slice_get plan.nodes n ≡ Some node)
node_there plan n within = elim (slice_get_cases plan.nodes n).1 [
  | inl there ↦ (there.0, there.2)
  | inr past ↦ let h : length plan.nodes ≤ n = past.0 in absurd (omega arith)
]

some_parts : {X : Type 0} (P : X → Type 0) (a : Option X) → IsSomeAnd a P → (x : X) × (a ≡ Some x) × P x
some_parts P None h = absurd h
some_parts P (Some x) h = (x, refl, h)

-- the value of an awaited promise
await_same : (plan : PlanData) → IsLawfulPlan plan → (faults : List Strike) (v q : ℕ) → AreSourcesAlike plan faults v → IsEdgeOf plan.edges (await_edge plan.promises v q) → IsSomeAnd (putter_of plan.promises q) (λ u. u < v) → value_in plan (results plan faults v) q ≡ value_in plan (results plan [] v) q
await_same plan lawful faults v q alike edge awaited =
    let (u, by, below) = some_parts (λ u. u < v) (putter_of plan.promises q) awaited in
    let from : unwrap_or (putter_of plan.promises q) 0 ≡ u = ap (λ (o : Option ℕ). unwrap_or o 0) by in
    let forward = forward_at plan lawful edge.0 (await_edge plan.promises v q) edge.1 in
    let inside : v < length plan.nodes = forward.within in
    let (node, is) = node_there plan u (omega arith) in
    let source = subst (λ (w : ℕ). IsAlikeAt plan faults w) from (alike edge.0 (await_edge plan.promises v q) edge.1 refl) in
    value_there plan faults v q u node by is below ∙ (source node is).values q ∙ sym (value_there plan [] v q u node by is below)

awaits_same : (plan : PlanData) → IsLawfulPlan plan → (faults : List Strike) (v : ℕ) → AreSourcesAlike plan faults v → (awaits : List ℕ) → AllByRecursion (λ q. IsEdgeOf plan.edges (await_edge plan.promises v q)) awaits → AllByRecursion (λ q. IsSomeAnd (putter_of plan.promises q) (λ u. u < v)) awaits → AllByRecursion (λ q. value_in plan (results plan faults v) q ≡ value_in plan (results plan [] v) q) awaits
awaits_same plan lawful faults v alike [] edges awaited = tt
awaits_same plan lawful faults v alike (q ∷ awaits) edges awaited =
    (await_same plan lawful faults v q alike edges.0 awaited.0, awaits_same plan lawful faults v alike awaits edges.1 awaited.1)

-- a test of how a source ended
pub source_same : (plan : PlanData) → IsLawfulPlan plan → (faults : List Strike) (v u : ℕ) → AreSourcesAlike plan faults v → IsEdgeOf plan.edges (order_edge v u) → (test : Verdict → Bool) → ((w : Verdict) → test w ≡ test (ending_of w)) → passes_by test (slice_get (results plan faults v) u) ≡ passes_by test (slice_get (results plan [] v) u)
source_same plan lawful faults v u alike edge test looks =
    let forward = forward_at plan lawful edge.0 (order_edge v u) edge.1 in
    let below : u < v = forward.rises in
    let inside : v < length plan.nodes = forward.within in
    let (node, is) = node_there plan u (omega arith) in
    passes_alike test looks (slice_get (results plan faults v) u) (slice_get (results plan [] v) u) (row plan faults u node) (row plan [] u node)
    (result_there plan faults v u node is below) (result_there plan [] v u node is below)
    (alike edge.0 (order_edge v u) edge.1 refl node is)

-- whether the enclosing group opened
group_same : (plan : PlanData) → IsLawfulPlan plan → (faults : List Strike) (v : ℕ) → AreSourcesAlike plan faults v → (g : Option ℕ) → AllByRecursion (IsEdgeOf plan.edges) (map (order_edge v) (option_to_list g)) → group_opened (results plan faults v) g ≡ group_opened (results plan [] v) g
group_same plan lawful faults v alike None edges = refl
group_same plan lawful faults v alike (Some g) edges = source_same plan lawful faults v g alike edges.0 is_opened is_opened-ending

-- what a task or a group reads: whether its group opened, and the values that it awaits
pub record ReadsSame (plan : PlanData) (faults : List Strike) (v : ℕ) (node : Node) : Type 0 where
  pub cause : cause_in plan (results plan faults v) node ≡ cause_in plan (results plan [] v) node
  pub inputs : inputs_in plan (results plan faults v) node.awaits ≡ inputs_in plan (results plan [] v) node.awaits

pub reads_same : (plan : PlanData) → IsLawfulPlan plan → (faults : List Strike) (v : ℕ) (node : Node) → slice_get plan.nodes v ≡ Some node → AreSourcesAlike plan faults v → AllByRecursion (IsEdgeOf plan.edges) (start_edges plan.promises v node) → ReadsSame plan faults v node
reads_same plan lawful faults v node is alike edges =
    let await_edges = all_left (IsEdgeOf plan.edges) (map (await_edge plan.promises v) node.awaits) (map (order_edge v) (option_to_list node.group)) edges in
    let group_edges = all_right (IsEdgeOf plan.edges) (map (await_edge plan.promises v) node.awaits) (map (order_edge v) (option_to_list node.group)) edges in
    let values = awaits_same plan lawful faults v alike node.awaits (all_map (IsEdgeOf plan.edges) (await_edge plan.promises v) node.awaits await_edges) (lawful.parts.nodes v node is).awaited in
    let opened = group_same plan lawful faults v alike node.group group_edges in
    let value = λ (f : List Strike) (q : ℕ). value_in plan (results plan f v) q in
    let present : present_in plan (results plan faults v) node.awaits ≡ present_in plan (results plan [] v) node.awaits =
    map_agree_on (λ q. is_some (value faults q)) (λ q. is_some (value [] q)) node.awaits
    (all_by (λ q. value faults q ≡ value [] q) (λ q. is_some (value faults q) ≡ is_some (value [] q)) node.awaits (λ q e. ap is_some e) values) in
    record {
      cause =
          ap (λ (b : Bool). blamed node.group b node.awaits (present_in plan (results plan faults v) node.awaits)) opened
          ∙ ap (λ (l : List Bool). blamed node.group (group_opened (results plan [] v) node.group) node.awaits l) present;
      inputs = map_agree_on (λ q. unwrap_or (value faults q) []) (λ q. unwrap_or (value [] q) []) node.awaits
          (all_by (λ q. value faults q ≡ value [] q) (λ q. unwrap_or (value faults q) [] ≡ unwrap_or (value [] q) []) node.awaits (λ q e. ap (λ (o : Option (List ℕ)). unwrap_or o []) e) values);
    }
