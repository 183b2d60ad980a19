-- The edges into a node are among those of the plan, and what its sources depend on, it depends on.
use Rattle.std.proofs.Common.{◌≡◌, ℕ, zero, suc, ◌+◌, List, [], ◌∷◌, ◌++◌, Some, length, refl, arith, sym, subst}
use Rattle.std.proofs.lemmas.Option.{none-some, same_Some}
use Rattle.std.specs.List.{AllByRecursion, slice_get}
use Rattle.rh_rules.specs.declared.node.Node.{Node}
use Rattle.rh_plan.specs.declared.edge.Edge.{Edge}
use Rattle.rh_rules.specs.declared.node.PlannedPromise.{PlannedPromise}
use Rattle.rh_plan.specs.Plans.{PlanData, edges_into, edges_from}
use Rattle.rh_plan.specs.Lawful.{IsForward, IsLawfulPlan}
use Rattle.rh_plan.proofs.Lists.{all_by, all_get}

abbrev pub IsEdgeOf : List Edge → Edge → Type 0
IsEdgeOf edges edge = (e : ℕ) × (slice_get edges e ≡ Some edge)

edge_right : (xs ys : List Edge) (edge : Edge) → IsEdgeOf ys edge → IsEdgeOf (xs ++ ys) edge
edge_right [] ys edge is = is
edge_right (x ∷ xs) ys edge is = let (e, at) = edge_right xs ys edge is in (suc e, at)

edges_left : (xs ys : List Edge) → AllByRecursion (IsEdgeOf (xs ++ ys)) xs
edges_left [] ys = tt
edges_left (x ∷ xs) ys = ((0, refl), all_by (IsEdgeOf (xs ++ ys)) (IsEdgeOf (x ∷ (xs ++ ys))) xs (λ edge is. (suc is.0, is.1)) (edges_left xs ys))

edges_of_node : (ps : List PlannedPromise) (v : ℕ) (nodes : List Node) (k : ℕ) (node : Node) → slice_get nodes k ≡ Some node → AllByRecursion (IsEdgeOf (edges_from ps v nodes)) (edges_into ps (v + k) node)
edges_of_node ps v [] k node is = absurd (none-some node is)
edges_of_node ps v (x ∷ nodes) zero node is =
    let same : v ≡ v + 0 = omega arith in
    subst (λ (w : ℕ). AllByRecursion (IsEdgeOf (edges_from ps v (x ∷ nodes))) (edges_into ps w node)) same
    (subst (λ (y : Node). AllByRecursion (IsEdgeOf (edges_from ps v (x ∷ nodes))) (edges_into ps v y)) (same_Some x node is) (edges_left (edges_into ps v x) (edges_from ps (v + 1) nodes)))
edges_of_node ps v (x ∷ nodes) (suc k) node is =
    let same : v + 1 + k ≡ v + suc k = omega arith in
    let rest = subst (λ (w : ℕ). AllByRecursion (IsEdgeOf (edges_from ps (v + 1) nodes)) (edges_into ps w node)) same (edges_of_node ps (v + 1) nodes k node is) in
    all_by (IsEdgeOf (edges_from ps (v + 1) nodes)) (IsEdgeOf (edges_from ps v (x ∷ nodes))) (edges_into ps (v + suc k) node) (λ edge at. edge_right (edges_into ps v x) (edges_from ps (v + 1) nodes) edge at) rest

-- the edges into a node of a lawful plan are edges of the plan
pub edges_there : (plan : PlanData) → IsLawfulPlan plan → (v : ℕ) (node : Node) → slice_get plan.nodes v ≡ Some node → AllByRecursion (IsEdgeOf plan.edges) (edges_into plan.promises v node)
edges_there plan lawful v node is =
    let same : 0 + v ≡ v = omega arith in
    subst (λ (w : ℕ). AllByRecursion (IsEdgeOf plan.edges) (edges_into plan.promises w node)) same
    (subst (λ (l : List Edge). AllByRecursion (IsEdgeOf l) (edges_into plan.promises (0 + v) node)) (sym lawful.edges) (edges_of_node plan.promises 0 plan.nodes v node is))

-- an edge of a lawful plan goes from a lower number to a higher one
pub forward_at : (plan : PlanData) → IsLawfulPlan plan → (e : ℕ) (edge : Edge) → slice_get plan.edges e ≡ Some edge → IsForward (length plan.nodes) edge
forward_at plan lawful e edge is = all_get (IsForward (length plan.nodes)) plan.edges e edge lawful.forward is
