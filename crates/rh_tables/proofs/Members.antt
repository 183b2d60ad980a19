-- The numbers of the members of a scope.
use Rattle.std.proofs.Common.{◌≡◌, ℕ, zero, suc, ◌+◌, ◌-◌, ◌<◌, ◌≤◌, List, [], ◌∷◌, ◌++◌, refl, arith, ap, ◌∙◌, inl, inr}
use Rattle.std.specs.Prelude.{nat_eq}
use Rattle.std.specs.List.{AllByRecursion, IsDistinct}
use Rattle.std.proofs.lemmas.Bool.Decides.{eqb_tells}
use Rattle.std.specs.List.{range_with_len}
use Rattle.rh_tables.proofs.SoundTasks.{all_map}

pub range_with_len_push : (first n : ℕ) → range_with_len first (suc n) ≡ range_with_len first n ++ (first + n) ∷ []
range_with_len_push first zero = let e : first ≡ first + 0 = omega arith in ap (λ (k : ℕ). k ∷ []) e
range_with_len_push first (suc n) =
    let e : first + 1 + n ≡ first + suc n = omega arith in
    ap (λ (l : List ℕ). first ∷ l) (range_with_len_push (first + 1) n ∙ ap (λ (k : ℕ). range_with_len (first + 1) n ++ k ∷ []) e)

-- one more number below the last
pub numbers_more : (first k : ℕ) → first ≤ k → range_with_len first (k + 1 - first) ≡ range_with_len first (k - first) ++ k ∷ []
numbers_more first k h =
    let n : k + 1 - first ≡ suc (k - first) = omega arith in
    let last : first + (k - first) ≡ k = omega arith in
    ap (range_with_len first) n ∙ range_with_len_push first (k - first) ∙ ap (λ (m : ℕ). range_with_len first (k - first) ++ m ∷ []) last

numbers_within : (first n : ℕ) → AllByRecursion (λ u. (first ≤ u) × (u < first + n)) (range_with_len first n)
numbers_within first zero = tt
numbers_within first (suc n) = (
  (omega arith, omega arith),
  all_map (range_with_len (first + 1) n) (λ u h. let low : first + 1 ≤ u = h.0 in let high : u < first + 1 + n = h.1 in (omega arith, omega arith)) (numbers_within (first + 1) n),
)

-- members stand below their scope
pub members_below : (first count : ℕ) → AllByRecursion (λ u. u < count) (range_with_len first (count - first))
members_below first count = below (count - first) refl
  where
    below : (n : ℕ) → count - first ≡ n → AllByRecursion (λ u. u < count) (range_with_len first n)
    below zero e = tt
    below (suc n) e = all_map (range_with_len first (suc n)) (λ u h. let high : u < first + suc n = h.1 in omega arith) (numbers_within first (suc n))

-- and each stands once
pub members_once : (first n : ℕ) → IsDistinct nat_eq (range_with_len first n)
unfolding IsDistinct
members_once first zero = tt
members_once first (suc n) = (
  all_map (range_with_len (first + 1) n) (λ u h. let low : first + 1 ≤ u = h.0 in elim (eqb_tells first u) [ inl same ↦ absurd (let e : first ≡ u = same.1 in omega arith) | inr other ↦ other.0 ]) (numbers_within (first + 1) n),
  members_once (first + 1) n,
)
