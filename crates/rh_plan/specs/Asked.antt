-- What a task that is to be judged is given.
use Rattle.std.specs.Prelude.{ℕ, ◌≡◌, List, Some, length, map, slice_get}
use Rattle.rh_rules.specs.declared.node.Node.{Node}
use Rattle.rh_rules.specs.declared.node.Kind.TheVariants.{Task}
use Rattle.rh_plan.specs.Plans.{PlanData}
use Rattle.rh_rules.specs.Lawful.{input_lens}

-- the node v is a task, and there are as many lists as it awaits promises, each as long as its promise
pub record IsTaskOn (plan : PlanData) (v : ℕ) (inputs : List (List ℕ)) : Type 0 where
  pub node : Node
  pub there : slice_get plan.nodes v ≡ Some node
  pub kind : node.kind ≡ Task
  pub lens : map length inputs ≡ input_lens plan.promises node
