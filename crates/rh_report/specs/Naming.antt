-- The names that a report tells.
use Rattle.std.specs.Prelude.{ℕ, List, [], Option, Some, None, slice_get}
use Rattle.rh_rules.specs.declared.node.Node.{Node}
use Rattle.rh_rules.specs.declared.node.PlannedPromise.{PlannedPromise}
use Rattle.rh_plan.specs.declared.outcome.Cause.{Cause}
use Rattle.rh_plan.specs.declared.outcome.Cause.TheVariants.{Group, Promise}
use Rattle.rh_plan.specs.Plans.{PlanData}

abbrev pub name_of : Option Node → List ℕ
name_of None = []
name_of (Some node) = node.name

abbrev pub promise_name_of : Option PlannedPromise → List ℕ
promise_name_of None = []
promise_name_of (Some promise) = promise.name

-- the name of the node of this number
abbrev pub node_name : PlanData → ℕ → List ℕ
node_name plan v = name_of (slice_get plan.nodes v)

-- the name of the promise of this number
abbrev pub promise_name : PlanData → ℕ → List ℕ
promise_name plan q = promise_name_of (slice_get plan.promises q)

-- the name of the group or the promise for which a node did not run
abbrev pub cause_name : PlanData → Cause → List ℕ
cause_name plan (Group g) = node_name plan g
cause_name plan (Promise q) = promise_name plan q
