-- An arithmetic shift is a quotient rounded down.
use Rattle.std.proofs.Common.{◌≡◌, ℕ, ◌+◌, ◌-◌, ◌*◌, ◌/◌, ◌<◌, ◌≤◌, ◌^◌, true, false, nat_lt, arith, lt-ltb, le-ltb, ap, sym, subst, ◌∙◌, refl, inl, inr}
use Rattle.std.proofs.lemmas.Int.{ints}
use Rattle.std.proofs.lemmas.Bool.{cases_lt}
use Rattle.std.proofs.lemmas.Nat.{pow-add, le-div}
use Rattle.std.proofs.Math.Nat.{div-le_self}
use borrow.Author.Differences.{up, down, product_is}
use Rattle.std.proofs.Math.Pow.{pow_mono}
use Rattle.std.specs.Prelude.{ℤ, pos, ◌+ℤ◌, ◌-ℤ◌}
use Rattle.rh_words.specs.Modular.{asr_word, signed_of, IsFloorOfQuotient}

-- a floor by natural numbers: a whole number is what is above 0 in it less what is below
floor_from : (z q : ℤ) (d : ℕ) → d * up q + down z ≤ up z + d * down q → up z + d * down q < d * up q + down z + d → IsFloorOfQuotient z d q
floor_from z q d low high =
    let next : up (q +ℤ pos 1) + down q ≡ down (q +ℤ pos 1) + (up q + 1) = omega (arith, ints) in
    let times : d * up (q +ℤ pos 1) + d * down q ≡ d * down (q +ℤ pos 1) + (d * up q + d) = omega (arith, ap (λ (k : ℕ). d * k) next) in
    record {
      within = omega (arith, ints, product_is (pos d) q);
      greatest = omega (arith, ints, product_is (pos d) (q +ℤ pos 1));
    }

-- of a number that is not negative
floor_of : (x d : ℕ) → 0 < d → IsFloorOfQuotient (pos x) d (pos (x / d))
floor_of x d some = floor_from (pos x) (pos (x / d)) d (omega arith) (omega arith)

-- of a number less a multiple of the divisor
floor_of_less : (x d k : ℕ) → 0 < d → IsFloorOfQuotient (pos x -ℤ pos (k * d)) d (pos (x / d) -ℤ pos k)
floor_of_less x d k some =
    let z : up (pos x -ℤ pos (k * d)) + k * d ≡ down (pos x -ℤ pos (k * d)) + x = omega (arith, ints) in
    let q : up (pos (x / d) -ℤ pos k) + k ≡ down (pos (x / d) -ℤ pos k) + x / d = omega (arith, ints) in
    let times : d * up (pos (x / d) -ℤ pos k) + k * d ≡ d * down (pos (x / d) -ℤ pos k) + d * (x / d) = omega (arith, ap (λ (n : ℕ). d * n) q) in
    floor_from (pos x -ℤ pos (k * d)) (pos (x / d) -ℤ pos k) d (omega arith) (omega arith)

signed_of-small : (w : ℕ) → w < 2 ^ 63 → signed_of w ≡ pos w
signed_of-small w small = let is : nat_lt w (2 ^ 63) ≡ true = lt-ltb _ _ small in rw is refl

signed_of-great : (w : ℕ) → 2 ^ 63 ≤ w → signed_of w ≡ (pos w -ℤ pos (2 ^ 64))
signed_of-great w great = let is : nat_lt w (2 ^ 63) ≡ false = le-ltb _ _ great in rw is refl

asr_word-small : (w s : ℕ) → w < 2 ^ 63 → asr_word w s ≡ w / 2 ^ s
asr_word-small w s small = let is : nat_lt w (2 ^ 63) ≡ true = lt-ltb _ _ small in rw is (omega arith)

asr_word-great : (w s : ℕ) → 2 ^ 63 ≤ w → asr_word w s ≡ w / 2 ^ s + (2 ^ 64 - 2 ^ (64 - s))
asr_word-great w s great = let is : nat_lt w (2 ^ 63) ≡ false = le-ltb _ _ great in rw is refl

-- 2 ^ n of n from s on
power_split : (n s : ℕ) → s ≤ n → 2 ^ n ≡ 2 ^ (n - s) * 2 ^ s
power_split n s few = let e : (n - s) + s ≡ n = omega arith in ap (λ (k : ℕ). 2 ^ k) (sym e) ∙ pow-add 2 (n - s) s

floor_same : {z z' q q' : ℤ} {d : ℕ} → z ≡ z' → q ≡ q' → IsFloorOfQuotient z d q → IsFloorOfQuotient z' d q'
floor_same {z' = z'} {q = q} {d = d} e f h =
    let P : ℤ → Type 0 = λ z. IsFloorOfQuotient z d q in
    let Q : ℤ → Type 0 = λ q. IsFloorOfQuotient z' d q in
    subst Q f (subst P e h)

asr_floor-small : (w s : ℕ) → w < 2 ^ 63 → IsFloorOfQuotient (signed_of w) (2 ^ s) (signed_of (asr_word w s))
asr_floor-small w s small =
    let low : 1 ≤ 2 ^ s = pow_mono {i = 0} {j = s} (omega arith) in
    let below : w / 2 ^ s < 2 ^ 63 = omega (arith, div-le_self w (2 ^ s)) in
    rw (signed_of-small w small, asr_word-small w s small, signed_of-small (w / 2 ^ s) below) (floor_of w (2 ^ s) low)

asr_floor-great : (w s : ℕ) → w < 2 ^ 64 → 2 ^ 63 ≤ w → s ≤ 63 → IsFloorOfQuotient (signed_of w) (2 ^ s) (signed_of (asr_word w s))
asr_floor-great w s small great few =
    let low : 1 ≤ 2 ^ s = pow_mono {i = 0} {j = s} (omega arith) in
    let split = power_split 63 s few in
    let half : 2 ^ (63 - s) ≤ w / 2 ^ s = le-div (2 ^ (63 - s)) w (2 ^ s) (omega arith) (omega arith) in
    let next : 64 - s ≡ (63 - s) + 1 = omega arith in
    let double : 2 ^ (64 - s) ≡ 2 ^ (63 - s) * 2 = rw next (pow-add 2 (63 - s) 1) in
    let most : 2 ^ (63 - s) ≤ 2 ^ 63 = pow_mono {i = 63 - s} {j = 63} (omega arith) in
    let top : 2 ^ 63 ≤ w / 2 ^ s + (2 ^ 64 - 2 ^ (64 - s)) = omega arith in
    let q : (pos (w / 2 ^ s + (2 ^ 64 - 2 ^ (64 - s))) -ℤ pos (2 ^ 64)) ≡ (pos (w / 2 ^ s) -ℤ pos (2 ^ (64 - s))) = omega (arith, ints) in
    let z : (pos w -ℤ pos (2 ^ 64)) ≡ (pos w -ℤ pos (2 ^ (64 - s) * 2 ^ s)) = ap (λ (n : ℕ). pos w -ℤ pos n) (power_split 64 s (omega arith)) in
    rw (signed_of-great w great, asr_word-great w s great, signed_of-great (w / 2 ^ s + (2 ^ 64 - 2 ^ (64 - s))) top) (floor_same (sym z) (sym q) (floor_of_less w (2 ^ s) (2 ^ (64 - s)) low))

pub asr_floor : (w s : ℕ) → w < 2 ^ 64 → s ≤ 63 → IsFloorOfQuotient (signed_of w) (2 ^ s) (signed_of (asr_word w s))
asr_floor w s small few = elim (cases_lt w (2 ^ 63)) [ inl h ↦ asr_floor-small w s h | inr h ↦ asr_floor-great w s small h few ]
