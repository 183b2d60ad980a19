-- How many levels there are.
use Rattle.std.proofs.Common.{◌≡◌, ◌∷◌, [], ◌∙◌, ℕ, zero, suc, List, length, arith, length-append}
use Rattle.rh_plan.specs.Derived.{levels_by, level_after, places_of}

pub length-levels_by : (sources targets : List ℕ) (n : ℕ) → length (levels_by sources targets n) ≡ n
unfolding levels_by
length-levels_by sources targets zero = omega arith
length-levels_by sources targets (suc n) =
    let rest = length-levels_by sources targets n in
    length-append (levels_by sources targets n) (level_after sources (levels_by sources targets n) (places_of n targets) ∷ []) ∙ omega arith
