-- The references that the putter of a promise and the report have.
use Rattle.std.proofs.Common.{◌≡◌, ◌≤◌, ◌+◌, ◌∙◌, ℕ, suc, zero, List, [], ◌∷◌, Bool, true, false, Some, map, ap, arith}
use Rattle.std.specs.Prelude.{slice_get, slice_index, if◌then◌else◌}
use Rattle.std.proofs.lemmas.List.{get_or-map}
use Rattle.std.proofs.lemmas.Option.{slice_get_within, get_or_from_slice_get}
use Rattle.rh_rules.specs.declared.node.PlannedPromise.{PlannedPromise}
use Rattle.rh_plan.specs.Derived.{is_shown}

abbrev pub own_count : PlannedPromise → ℕ
own_count p = 1 + (if is_shown p then 1 else 0)

-- the count of a promise that is there
pub own_there : (promises : List PlannedPromise) (counts : List ℕ) (q : ℕ) (p : PlannedPromise) → counts ≡ map own_count promises → slice_get promises q ≡ Some p → slice_index counts q ≡ own_count p
own_there promises counts q p are there =
    let within = slice_get_within promises q p there in
    ap (λ (l : List ℕ). slice_index l q) are ∙ get_or-map own_count promises q p 0 within ∙ ap own_count (get_or_from_slice_get promises q p p there)

two_at_most : (shown : Bool) → 1 + (if shown then 1 else 0) ≤ 2
two_at_most true = omega arith
two_at_most false = omega arith

-- no count is above two
pub own_low : (promises : List PlannedPromise) (q : ℕ) → slice_index (map own_count promises) q ≤ 2
own_low [] q = omega arith
own_low (p ∷ promises) zero = two_at_most (is_shown p)
own_low (p ∷ promises) (suc q) = own_low promises q
