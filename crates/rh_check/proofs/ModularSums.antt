-- What the code of a check answers, and what its spec says.
use Rattle.std.proofs.Common.{◌≡◌, ℕ, zero, suc, ◌+◌, ◌*◌, ◌%◌, ◌^◌, ◌<◌, List, [], ◌∷◌, Bool, Some, length, refl, arith, ap, sym, ◌∙◌}
use Rattle.std.proofs.lemmas.Nat.{mul-mod_first}
use Rattle.std.specs.List.{slice_get}
use Rattle.rh_check.specs.declared.spec.UserSpec.{UserSpec}
use Rattle.rh_check.specs.Checks.{user_passes, user_passes_if_kept}

-- where there is a check at a place, what it answers is what the kept spec says
pub kept_answer : (users : List UserSpec) (at : ℕ) (words : List ℕ) (answer : Bool) → at < length users → ((u : UserSpec) → slice_get users at ≡ Some u → answer ≡ user_passes u words) → answer ≡ user_passes_if_kept (slice_get users at) words
kept_answer [] at words answer within is = absurd (omega arith)
kept_answer (u ∷ users) zero words answer within is = is u refl
kept_answer (u ∷ users) (suc at) words answer within is = kept_answer users at words answer (omega arith) is

pub reduced_sum : (base sums reduced : ℕ) → reduced ≡ sums % 2 ^ 64 → (base + reduced) % 2 ^ 64 ≡ (base + sums) % 2 ^ 64
reduced_sum base sums reduced is = omega arith

pub one_more : (sums product : ℕ) → (sums % 2 ^ 64 + product % 2 ^ 64) % 2 ^ 64 ≡ (sums + product) % 2 ^ 64
one_more sums product = omega arith

pub factor_reduced : (factor s : ℕ) → (factor * (s % 2 ^ 64)) % 2 ^ 64 ≡ (factor * s) % 2 ^ 64
factor_reduced factor s =
    let left : factor * (s % 2 ^ 64) ≡ s % 2 ^ 64 * factor = omega arith in
    let right : factor * s ≡ s * factor = omega arith in
    ap (λ (n : ℕ). n % 2 ^ 64) left ∙ mul-mod_first s factor (2 ^ 64) ∙ sym (ap (λ (n : ℕ). n % 2 ^ 64) right)

-- one more product joins a sum modulo 2 ^ 64
pub product_joins : (before factor s sums fold product after more : ℕ) → sums ≡ before % 2 ^ 64 → fold ≡ s % 2 ^ 64 → product ≡ (factor * fold) % 2 ^ 64 → after ≡ (sums + product) % 2 ^ 64 → more ≡ before + factor * s → after ≡ more % 2 ^ 64
product_joins before factor s sums fold product after more is_sums is_fold is_product is_after is_more =
    let reduced : product ≡ (factor * s) % 2 ^ 64 = is_product ∙ ap (λ (n : ℕ). (factor * n) % 2 ^ 64) is_fold ∙ factor_reduced factor s in
    is_after ∙ ap (λ (n : ℕ). (n + product) % 2 ^ 64) is_sums ∙ ap (λ (n : ℕ). (before % 2 ^ 64 + n) % 2 ^ 64) reduced ∙ one_more before (factor * s) ∙ ap (λ (n : ℕ). n % 2 ^ 64) (sym is_more)
