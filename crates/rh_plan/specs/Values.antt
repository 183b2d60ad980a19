-- What the values of a lawful plan are like.
use Rattle.std.specs.Prelude.{ℕ, ◌≡◌, ◌<◌, List, Some, None, length, map, slice_get, slice_index, IsSomeAnd}
use Rattle.std.specs.List.{AllByRecursion}
use Rattle.rh_injector.specs.declared.faults.Strike.{Strike}
use Rattle.rh_rules.specs.declared.node.Node.{Node}
use Rattle.rh_rules.specs.declared.node.Kind.TheVariants.{Task}
use Rattle.rh_rules.specs.Lawful.{promise_lens}
use Rattle.rh_plan.specs.Plans.{PlanData, shapes_in}
use Rattle.rh_rules.specs.Lawful.{input_lens}
use Rattle.rh_plan.specs.Lawful.{IsLawfulPlan}
use Rattle.rh_rules.specs.Bodies.{AreSoundSteps}
use Rattle.rh_plan.specs.Results.{results, result_of_node, cause_in, value_in, inputs_in}

-- A task that is not skipped awaits values that are there, as many words as their promises have, and its body is sound on them.
pub record IsReady (plan : PlanData) (faults : List Strike) (v : ℕ) (node : Node) : Type 0 where
  pub present : AllByRecursion (λ q. IsSomeAnd (value_in plan (results plan faults v) q) (λ w. length w ≡ slice_index (promise_lens plan.promises) q)) node.awaits
  pub lens : map length (inputs_in plan (results plan faults v) node.awaits) ≡ input_lens plan.promises node
  pub sound : AreSoundSteps (shapes_in plan) (promise_lens plan.promises) (map length (inputs_in plan (results plan faults v) node.awaits)) node.body

abbrev pub UnskippedTasksAreReady : Type 0
UnskippedTasksAreReady = (plan : PlanData) → IsLawfulPlan plan → (faults : List Strike) (v : ℕ) (node : Node)
    → slice_get plan.nodes v ≡ Some node → node.kind ≡ Task → cause_in plan (results plan faults v) node ≡ None → IsReady plan faults v node

-- The result of a node is what the results of the lower nodes give it, whatever higher nodes there are.
abbrev pub ResultsRestOnLower : Type 0
ResultsRestOnLower = (plan : PlanData) (faults : List Strike) (n v : ℕ) (node : Node)
    → slice_get plan.nodes v ≡ Some node → v < n → slice_get (results plan faults n) v ≡ Some (result_of_node plan faults (results plan faults v) v node)
