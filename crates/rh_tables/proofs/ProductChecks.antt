-- The check of a product among the checks of a task.
use Rattle.std.proofs.Common.{◌≡◌, List, [], ◌∷◌, Bool, refl, ap}
use Rattle.std.specs.Prelude.{◌||◌}
use Rattle.std.specs.List.{list_any}
use Rattle.rh_rules.specs.Kept.{KeptCheck, planned_checks}
use Rattle.rh_rules.specs.Lawful.{is_product, has_product}

-- what a check asks tells it, whatever spec is kept for it
pub has_planned_product : (checks : List KeptCheck) → list_any (λ c. is_product c.spec) (planned_checks checks) ≡ has_product checks
has_planned_product [] = refl
has_planned_product (c ∷ checks) = ap (λ (b : Bool). is_product c.spec || b) (has_planned_product checks)
