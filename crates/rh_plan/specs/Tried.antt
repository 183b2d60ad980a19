-- How many attempts of a task are told.
use Rattle.std.specs.Prelude.{ℕ, ◌≡◌, ◌≤◌, Some, length, slice_get, List}
use Rattle.rh_words.specs.declared.limits.TheConstants.{MAX_REPLAYS}
use Rattle.rh_injector.specs.declared.faults.Strike.{Strike}
use Rattle.rh_rules.specs.declared.node.Node.{Node}
use Rattle.rh_plan.specs.Plans.{PlanData}
use Rattle.rh_plan.specs.Lawful.{IsLawfulPlan}
use Rattle.rh_plan.specs.Results.{results, result_of_node}

-- No node has more trials than a task may have replays.
abbrev pub FewTrials : Type 0
FewTrials = (plan : PlanData) → IsLawfulPlan plan → (faults : List Strike) (v : ℕ) (node : Node) → slice_get plan.nodes v ≡ Some node
    → length (result_of_node plan faults (results plan faults v) v node).trials ≤ MAX_REPLAYS
