-- Sums over places: equal terms, bounds, one place changed, multiples, and the exchange of two sums.
use Rattle.std.proofs.Common.{◌≡◌, ℕ, zero, suc, ◌+◌, ◌*◌, ◌<◌, ◌≤◌, List, [], ◌∷◌, ◌++◌, length, get_or, refl, arith, ap, sym, ◌∙◌, inl, inr}
use Rattle.std.proofs.lemmas.List.{length_push, get_or_append_left, get_or_push}
use Rattle.std.proofs.lemmas.Bool.{cases_eq}
use Rattle.rh_words.specs.Sums.{sum_below}
use Rattle.rh_sparse.specs.Sums.{weighted_sum}

pub sum_below_same : (n : ℕ) (f g : ℕ → ℕ) → ((i : ℕ) → i < n → f i ≡ g i) → sum_below n f ≡ sum_below n g
sum_below_same zero f g same = refl
sum_below_same (suc n) f g same = omega (arith, sum_below_same n f g (λ i below. same i (omega arith)), same n (omega arith))

pub sum_below_le : (n m : ℕ) (f : ℕ → ℕ) → ((i : ℕ) → i < n → f i ≤ m) → sum_below n f ≤ n * m
sum_below_le zero m f small = omega arith
sum_below_le (suc n) m f small = omega (arith, sum_below_le n m f (λ i below. small i (omega arith)), small n (omega arith))

pub sum_below_more : (n : ℕ) (f : ℕ → ℕ) → sum_below (n + 1) f ≡ sum_below n f + f n
sum_below_more n f = let next : n + 1 ≡ suc n = omega arith in ap (λ (k : ℕ). sum_below k f) next

pub sum_below_zero : (n : ℕ) (f : ℕ → ℕ) → ((i : ℕ) → i < n → f i ≡ 0) → sum_below n f ≡ 0
sum_below_zero zero f none = refl
sum_below_zero (suc n) f none = omega (arith, sum_below_zero n f (λ i below. none i (omega arith)), none n (omega arith))

-- two sums that differ at one place differ by its terms
pub sum_below_changed : (n : ℕ) (f g : ℕ → ℕ) (at : ℕ) → at < n → ((i : ℕ) → i < n → (i ≡ at → ⊥) → f i ≡ g i) → sum_below n f + g at ≡ sum_below n g + f at
sum_below_changed zero f g at within same = absurd (omega arith)
sum_below_changed (suc n) f g at within same = elim (cases_eq n at) [
  | inl here ↦
      let rest = sum_below_same n f g (λ i below. same i (omega arith) (λ e. omega arith)) in
      omega (arith, ap f here, ap g here)
  | inr other ↦
      let rest = sum_below_changed n f g at (omega (arith, other)) (λ i below. same i (omega arith)) in
      omega (arith, same n (omega arith) other)
]

pub sum_below_add : (n : ℕ) (f g : ℕ → ℕ) → sum_below n (λ i. f i + g i) ≡ sum_below n f + sum_below n g
sum_below_add zero f g = omega arith
sum_below_add (suc n) f g = omega (arith, sum_below_add n f g)

pub sum_below_times : (n k : ℕ) (f : ℕ → ℕ) → sum_below n (λ i. k * f i) ≡ k * sum_below n f
sum_below_times zero k f = omega arith
sum_below_times (suc n) k f = omega (arith, sum_below_times n k f)

pub sum_below_exchanged : (n m : ℕ) (f : ℕ → ℕ → ℕ) → sum_below n (λ i. sum_below m (λ j. f i j)) ≡ sum_below m (λ j. sum_below n (λ i. f i j))
sum_below_exchanged zero m f = sym (sum_below_zero m (λ j. 0) (λ i below. refl))
sum_below_exchanged (suc n) m f =
    ap (λ (k : ℕ). k + sum_below m (f n)) (sum_below_exchanged n m f) ∙ sym (sum_below_add m (λ j. sum_below n (λ i. f i j)) (f n))

-- a weighted sum with one word more
pub weighted_sum_push : (ys : List ℕ) (y : ℕ) → weighted_sum (ys ++ y ∷ []) ≡ weighted_sum ys + (length ys + 1) * y
weighted_sum_push ys y =
    let term : ℕ → ℕ = λ i. (i + 1) * get_or (ys ++ y ∷ []) i 0 in
    let longer = ap (λ (n : ℕ). sum_below n term) (length_push ys y) ∙ sum_below_more (length ys) term in
    let same = sum_below_same (length ys) term (λ i. (i + 1) * get_or ys i 0) (λ i below. ap (λ (w : ℕ). (i + 1) * w) (get_or_append_left ys (y ∷ []) 0 i below)) in
    let last = ap (λ (w : ℕ). (length ys + 1) * w) (get_or_push ys y 0 (length ys) refl) in
    omega arith
