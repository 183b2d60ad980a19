-- The checks of a task, each with the spec of the handed-in check that it names.
use Rattle.std.specs.Prelude.{ℕ, List, [], ◌∷◌, Option, map}
use Rattle.rh_check.specs.declared.spec.Spec.{Spec}
use Rattle.rh_check.specs.declared.spec.UserSpec.{UserSpec}
use Rattle.rh_rules.specs.declared.checks.PlannedCheck.{PlannedCheck}

-- a check of a task: the promise whose put it reads, what it asks, and the kept spec of a handed-in check
pub record KeptCheck : Type 0 where
  pub promise : ℕ
  pub spec : Spec
  pub user : Option UserSpec

abbrev pub kept_check : PlannedCheck → Option UserSpec → KeptCheck
kept_check c u = record { promise = c.promise; spec = c.spec; user = u }

-- checks and kept specs, place by place
abbrev pub kept_checks : List PlannedCheck → List (Option UserSpec) → List KeptCheck
kept_checks [] users = []
kept_checks (c ∷ checks) [] = []
kept_checks (c ∷ checks) (u ∷ users) = kept_check c u ∷ kept_checks checks users

abbrev pub planned_check : KeptCheck → PlannedCheck
planned_check c = record { promise = c.promise; spec = c.spec }

-- the checks without the kept specs
abbrev pub planned_checks : List KeptCheck → List PlannedCheck
planned_checks checks = map planned_check checks

-- the kept specs
abbrev pub kept_users : List KeptCheck → List (Option UserSpec)
kept_users checks = map (λ c. c.user) checks
