-- Whole multiples of a whole number other than 0.
use Rattle.std.proofs.Common.{◌≡◌, ℕ, zero, suc, ◌*◌, ◌/◌, ◌%◌, ◌<◌, ℤ, pos, negsuc, neg_ℤ, ◌*ℤ◌, refl, arith, ap, sym, ◌∙◌}
use Rattle.std.proofs.lemmas.Int.{unsigned_abs-mul}
use Rattle.std.proofs.Math.Nat.{mul-pos, mul-mod_left, mul-div_cancel}
use lib.IntN.{pos-ne-negsuc}
use Rattle.std.specs.Int.RustNames.{int_rem, unsigned_abs}

abs_neg : (r : ℕ) → unsigned_abs (neg_ℤ (pos r)) ≡ r
abs_neg zero = refl
abs_neg (suc r) = refl

abs_rem : (z d : ℤ) → unsigned_abs (int_rem z d) ≡ unsigned_abs z % unsigned_abs d
abs_rem (pos a) d = refl
abs_rem (negsuc a) d = abs_neg (suc a % unsigned_abs d)

pub zero_from_abs : (z : ℤ) → unsigned_abs z ≡ 0 → z ≡ pos 0
zero_from_abs (pos n) none = ap pos none
zero_from_abs (negsuc n) none = absurd (omega arith)

pub rem_of_multiple : (q d z : ℤ) → q *ℤ d ≡ z → int_rem z d ≡ pos 0
rem_of_multiple q d z is =
    zero_from_abs (int_rem z d) (abs_rem z d ∙ ap (λ (w : ℤ). unsigned_abs w % unsigned_abs d) (sym is) ∙ ap (λ (n : ℕ). n % unsigned_abs d) (unsigned_abs-mul q d) ∙ mul-mod_left (unsigned_abs q) (unsigned_abs d))

-- a number other than 0 has one size at most above 0
some_abs : (n : ℕ) → (n ≡ 0 → ⊥) → 0 < n
some_abs zero some = absurd (some refl)
some_abs (suc n) some = omega arith

-- a number and a number below 0 have different multiples
not_both : (j k : ℕ) → pos j ≡ neg_ℤ (pos k) → 0 < k → ⊥
not_both j zero same some = omega arith
not_both j (suc k) same some = pos-ne-negsuc j k same

opposite_signs : (m n : ℕ) (d : ℤ) → (d ≡ pos 0 → ⊥) → 0 < m → pos m *ℤ d ≡ negsuc n *ℤ d → ⊥
opposite_signs m n (pos k) some positive same = not_both (m * k) (suc n * k) same (mul-pos (omega arith) (some_abs k (λ none. some (ap pos none))))
opposite_signs m n (negsuc k) some positive same = not_both (suc n * suc k) (m * suc k) (sym same) (mul-pos positive (omega arith))

same_by_size : (a b d : ℤ) → (d ≡ pos 0 → ⊥) → unsigned_abs a ≡ unsigned_abs b → a *ℤ d ≡ b *ℤ d → a ≡ b
same_by_size (pos m) (pos n) d some size same = ap pos size
same_by_size (pos m) (negsuc n) d some size same = absurd (opposite_signs m n d some (omega arith) same)
same_by_size (negsuc m) (pos n) d some size same = absurd (opposite_signs n m d some (omega arith) (sym same))
same_by_size (negsuc m) (negsuc n) d some size same = let even : m ≡ n = omega arith in ap negsuc even

-- a multiple of a number other than 0 has one multiplier
pub same_multiplier : (a b d : ℤ) → (d ≡ pos 0 → ⊥) → a *ℤ d ≡ b *ℤ d → a ≡ b
same_multiplier a b d some same =
    let n = unsigned_abs d in
    let positive : 0 < n = some_abs n (λ none. some (zero_from_abs d none)) in
    let sizes : unsigned_abs a * n ≡ unsigned_abs b * n = sym (unsigned_abs-mul a d) ∙ ap unsigned_abs same ∙ unsigned_abs-mul b d in
    let size = sym (mul-div_cancel (unsigned_abs a) positive) ∙ ap (λ (m : ℕ). m / n) sizes ∙ mul-div_cancel (unsigned_abs b) positive in
    same_by_size a b d some size same
