-- Which faults are a plan's.
use Rattle.std.specs.Prelude.{◌≡◌, ◌<◌, List, Some, slice_get, IsSomeAnd}
use Rattle.std.specs.List.{AllByRecursion}
use Rattle.rh_injector.specs.declared.faults.Strike.{Strike}
use Rattle.rh_rules.specs.declared.node.Kind.TheVariants.{Task}
use Rattle.rh_rules.specs.declared.node.Node.{Node}
use Rattle.rh_rules.specs.Lawful.{local_lens}
use Rattle.rh_plan.specs.Plans.{PlanData, shapes_in}
use Rattle.rh_plan.specs.Judging.{attempts_of}

-- The fault names a task of the plan, an attempt that it may make, a local of the task, and a word of that.
pub record IsFaultOf (plan : PlanData) (fault : Strike) : Type 0 where
  pub node : Node
  pub there : slice_get plan.nodes fault.node ≡ Some node
  pub kind : node.kind ≡ Task
  pub attempt : fault.attempt < attempts_of node.scheme
  pub word : IsSomeAnd (slice_get (local_lens (shapes_in plan) plan.promises node) fault.local) (λ len. fault.word < len)

-- The faults are those of the plan.
abbrev pub AreFaultsOf : PlanData → List Strike → Type 0
AreFaultsOf plan faults = AllByRecursion (IsFaultOf plan) faults
