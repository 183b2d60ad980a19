-- The checks of a list of kept checks.
use Rattle.std.proofs.Common.{◌≡◌, List, [], ◌∷◌, ◌++◌, Option, length, refl, arith, ap}
use Rattle.rh_check.specs.declared.spec.UserSpec.{UserSpec}
use Rattle.rh_rules.specs.declared.checks.PlannedCheck.{PlannedCheck}
use Rattle.rh_rules.specs.Kept.{KeptCheck, kept_check, kept_checks, planned_checks, kept_users}

pub planned_checks-kept_checks : (checks : List PlannedCheck) (users : List (Option UserSpec)) → length checks ≡ length users → checks ≡ planned_checks (kept_checks checks users)
planned_checks-kept_checks [] users same = refl
planned_checks-kept_checks (c ∷ checks) [] same = absurd (omega arith)
planned_checks-kept_checks (c ∷ checks) (u ∷ users) same = ap (λ (l : List PlannedCheck). c ∷ l) (planned_checks-kept_checks checks users (omega arith))

pub kept_users-kept_checks : (checks : List PlannedCheck) (users : List (Option UserSpec)) → length checks ≡ length users → users ≡ kept_users (kept_checks checks users)
kept_users-kept_checks [] [] same = refl
kept_users-kept_checks [] (u ∷ users) same = absurd (omega arith)
kept_users-kept_checks (c ∷ checks) [] same = absurd (omega arith)
kept_users-kept_checks (c ∷ checks) (u ∷ users) same = ap (λ (l : List (Option UserSpec)). u ∷ l) (kept_users-kept_checks checks users (omega arith))

pub kept_checks-append : (checks : List PlannedCheck) (users : List (Option UserSpec)) (c : PlannedCheck) (u : Option UserSpec) → length checks ≡ length users → kept_checks (checks ++ c ∷ []) (users ++ u ∷ []) ≡ kept_checks checks users ++ kept_check c u ∷ []
kept_checks-append [] [] c u same = refl
kept_checks-append [] (v ∷ users) c u same = absurd (omega arith)
kept_checks-append (d ∷ checks) [] c u same = absurd (omega arith)
kept_checks-append (d ∷ checks) (v ∷ users) c u same = ap (λ (l : List KeptCheck). kept_check d v ∷ l) (kept_checks-append checks users c u (omega arith))
