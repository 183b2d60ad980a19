-- A plan as data: lists of nodes, promises, edges and matrices, each by its number.
use Rattle.std.specs.Prelude.{ℕ, ◌≡◌, ◌+◌, List, [], ◌∷◌, ◌++◌, Some, None, map, unwrap_or, slice_get, option_to_list}
use Rattle.rh_rules.specs.declared.node.Kind.{Kind}
use Rattle.rh_rules.specs.declared.node.Kind.TheVariants.{Task, Group, Scope}
use Rattle.rh_rules.specs.declared.node.Node.{Node}
use Rattle.rh_rules.specs.declared.node.PlannedPromise.{PlannedPromise}
use Rattle.rh_sparse.specs.Matrix.{MatrixData}
use Rattle.rh_rules.specs.declared.shape.Shape.{Shape}
use Rattle.rh_rules.specs.Bodies.{shapes_of}
use Rattle.rh_rules.specs.Lawful.{putter_of}
use Rattle.rh_plan.specs.declared.edge.Edge.{Edge}

-- All else that is said of a plan follows from these lists.
pub record PlanData : Type 0 where
  pub nodes : List Node
  pub promises : List PlannedPromise
  pub edges : List Edge
  pub matrices : List MatrixData

-- how many rows and columns the matrices have
abbrev pub shapes_in : PlanData → List Shape
shapes_in plan = shapes_of plan.matrices

-- P holds of the node of this number, where there is one
abbrev pub OfNode : PlanData → ℕ → (Node → Type 0) → Type 0
OfNode plan v P = (node : Node) → slice_get plan.nodes v ≡ Some node → P node

-- P holds of the promise of this number, where there is one
abbrev pub OfPromise : PlanData → ℕ → (PlannedPromise → Type 0) → Type 0
OfPromise plan q P = (promise : PlannedPromise) → slice_get plan.promises q ≡ Some promise → P promise

-- the edge on which the node v takes a promise that it awaits
abbrev pub await_edge : List PlannedPromise → ℕ → ℕ → Edge
await_edge promises v q = record { from = unwrap_or (putter_of promises q) 0; to = v; promise = Some q }

-- the edge on which the node v learns how the node u ended
abbrev pub order_edge : ℕ → ℕ → Edge
order_edge v u = record { from = u; to = v; promise = None }

-- the edges into a task or a group: those of its awaits, then that of its innermost enclosing group
abbrev pub start_edges : List PlannedPromise → ℕ → Node → List Edge
start_edges promises v node = map (await_edge promises v) node.awaits ++ map (order_edge v) (option_to_list node.group)

-- The edges into a node, by its kind. Those into a scope come from its members.
abbrev pub edges_into_kind : List PlannedPromise → ℕ → Node → Kind → List Edge
edges_into_kind promises v node Task = start_edges promises v node
edges_into_kind promises v node Group = start_edges promises v node
edges_into_kind promises v node Scope = map (order_edge v) node.members

abbrev pub edges_into : List PlannedPromise → ℕ → Node → List Edge
edges_into promises v node = edges_into_kind promises v node node.kind

-- The edges into the nodes of a list, the first of which has this number, node by node.
abbrev pub edges_from : List PlannedPromise → ℕ → List Node → List Edge
edges_from promises v [] = []
edges_from promises v (node ∷ nodes) = edges_into promises v node ++ edges_from promises (v + 1) nodes

-- the plan of these parts
abbrev pub plan_data : List Node → List PlannedPromise → List Edge → List MatrixData → PlanData
plan_data nodes promises edges matrices = record { nodes = nodes; promises = promises; edges = edges; matrices = matrices }
