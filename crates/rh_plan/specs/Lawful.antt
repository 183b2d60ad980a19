-- What holds of every plan.
use Rattle.std.specs.Prelude.{ℕ, ◌≡◌, ◌<◌, ◌^◌, length}
use Rattle.std.specs.List.{AllByRecursion}
use Rattle.rh_rules.specs.Lawful.{AreLawful}
use Rattle.rh_plan.specs.declared.edge.Edge.{Edge}
use Rattle.rh_plan.specs.Plans.{PlanData, shapes_in, edges_from}

-- the edge goes from a lower number to a higher one, and there are n nodes
pub record IsForward (n : ℕ) (edge : Edge) : Type 0 where
  pub rises : edge.from < edge.to
  pub within : edge.to < n

-- The nodes and promises are lawful, and the edges are those of the awaits, the enclosing groups and the members. Each edge goes from a
-- lower number to a higher one.
pub record IsLawfulPlan (plan : PlanData) : Type 0 where
  pub parts : AreLawful (shapes_in plan) plan.nodes plan.promises
  pub edges : plan.edges ≡ edges_from plan.promises 0 plan.nodes
  pub forward : AllByRecursion (IsForward (length plan.nodes)) plan.edges
  pub few_edges : length plan.edges < 2 ^ 32
