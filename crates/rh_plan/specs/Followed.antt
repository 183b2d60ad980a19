-- What an accepted buffer has of its task's body.
use Rattle.std.specs.Prelude.{ℕ, ◌≡◌, ◌≤◌, ◌==◌, List, Some, map}
use Rattle.std.specs.List.{count_by}
use Rattle.rh_injector.specs.declared.faults.Strike.{Strike}
use Rattle.rh_rules.specs.declared.body.Step.{Step}
use Rattle.rh_rules.specs.declared.node.Node.{Node}
use Rattle.rh_plan.specs.Plans.{PlanData}
use Rattle.rh_rules.specs.Bodies.{promises_put, drops_of}
use Rattle.rh_plan.specs.Buffers.{BufferData}
use Rattle.rh_plan.specs.Results.{results, result_of_node}

-- how often a number stands in a list
abbrev pub often : ℕ → List ℕ → ℕ
often q numbers = count_by (λ p. p == q) numbers

-- The buffer drops what the steps drop, and puts to no promise more often than they do.
pub record FollowsSteps (steps : List Step) (b : BufferData) : Type 0 where
  pub drops : b.drops ≡ drops_of steps
  pub puts : (q : ℕ) → often q (map (λ p. p.promise) b.puts) ≤ often q (promises_put steps)

-- Every accepted buffer follows the body of its task.
abbrev pub AcceptedBuffersFollowBodies : Type 0
AcceptedBuffersFollowBodies = (plan : PlanData) (faults : List Strike) (v : ℕ) (node : Node) (b : BufferData)
    → (result_of_node plan faults (results plan faults v) v node).accepted ≡ Some b → FollowsSteps node.body b
