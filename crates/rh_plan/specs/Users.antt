-- When handed-in checks are those that a plan was made with.
use Rattle.std.specs.Prelude.{ℕ, ◌≡◌, List}
use Rattle.std.specs.List.{AllByRecursion}
use Rattle.rh_check.specs.declared.spec.UserSpec.{UserSpec}
use Rattle.rh_check.specs.Users.{user_named}
use Rattle.rh_plan.specs.Plans.{PlanData, OfNode}

-- at each place that the plan names, the handed-in checks, by what they ask, have what the plan keeps
abbrev pub AreChecksOf : PlanData → List UserSpec → Type 0
AreChecksOf plan users = (v : ℕ) → OfNode plan v (λ node. AllByRecursion (λ c. c.user ≡ user_named users c.spec) node.checks)
