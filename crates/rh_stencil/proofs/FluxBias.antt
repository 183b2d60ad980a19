-- A flux, and the flux with its sign bit turned.
use Rattle.std.proofs.Common.{◌≡◌, ℕ, ◌+◌, ◌-◌, ◌*◌, ◌/◌, ◌%◌, ◌≤◌, ◌<◌, ◌^◌, false, true, nat_lt, ap, sym, ◌∙◌, arith, le-ltb, lt-ltb, inl, inr}
use Rattle.std.proofs.lemmas.Nat.{pow-add, shl-shr, shr_below, shr_le}
use Rattle.std.proofs.lemmas.Bool.{cases_lt}
use Rattle.std.proofs.Math.Nat.{add-mul-div_right, mod-lt}
use Rattle.std.proofs.Math.Pow.{pow_mono}
use Rattle.rh_words.specs.Modular.{asr_word, mul_word, sub_word}
use Rattle.rh_stencil.specs.Flux.{flux_value, balance_value}
use Rattle.rh_stencil.specs.Biased.{biased_flux}

halves : (s : ℕ) → s ≤ 63 → (9223372036854775808 ≡ 2 ^ (63 - s) * 2 ^ s) × (2 ^ (64 - s) ≡ 2 ^ (63 - s) + 2 ^ (63 - s)) × (1 ≤ 2 ^ (63 - s)) × (2 ^ (63 - s) ≤ 2 ^ 63) × (9223372036854775808 / 2 ^ s ≡ 2 ^ (63 - s))
halves s small =
    let e : (63 - s) + s ≡ 63 = omega arith in
    let whole : 9223372036854775808 ≡ 2 ^ (63 - s) * 2 ^ s = ap (λ (k : ℕ). 2 ^ k) (sym e) ∙ pow-add 2 (63 - s) s in
    let h : 64 - s ≡ (63 - s) + 1 = omega arith in
    let twice : 2 ^ (64 - s) ≡ 2 ^ (63 - s) * 2 = ap (λ (k : ℕ). 2 ^ k) h ∙ pow-add 2 (63 - s) 1 in (
      whole,
      omega arith,
      pow_mono {i = 0} {j = 63 - s} (omega arith),
      pow_mono {i = 63 - s} {j = 63} (omega arith),
      ap (λ (n : ℕ). n / 2 ^ s) whole ∙ shl-shr (2 ^ (63 - s)) s,
    )

-- a word and 2 ^ 63, shifted
pub shifted_up : (v s : ℕ) → s ≤ 63 → (v + 9223372036854775808) / 2 ^ s ≡ v / 2 ^ s + 2 ^ (63 - s)
shifted_up v s small =
    let low : 1 ≤ 2 ^ s = pow_mono {i = 0} {j = s} (omega arith) in
    ap (λ (n : ℕ). (v + n) / 2 ^ s) (halves s small).0 ∙ add-mul-div_right v (2 ^ (63 - s)) {z = 2 ^ s} low

shifted_below : (v s : ℕ) → s ≤ 63 → v < 2 ^ 63 → v / 2 ^ s < 2 ^ (63 - s)
shifted_below v s small h =
    let e : (63 - s) + s ≡ 63 = omega arith in
    let h' : v < 2 ^ ((63 - s) + s) = rw e h in
    shr_below v (63 - s) s h'

-- the sign bit turned, shifted and turned back
pub unturned : (v s : ℕ) → s ≤ 63 → v < 2 ^ 64 → ((v + 9223372036854775808) % 18446744073709551616 / 2 ^ s + (18446744073709551616 - 9223372036854775808 / 2 ^ s)) % 18446744073709551616 ≡ asr_word v s
unturned v s small word = elim (cases_lt v (2 ^ 63)) [
  | inl h ↦
      let f = halves s small in
      let is : nat_lt v (2 ^ 63) ≡ true = lt-ltb _ _ h in
      let same : (v + 9223372036854775808) % 18446744073709551616 ≡ v + 9223372036854775808 = omega arith in
      let below = shifted_below v s small h in
      let half = f.4 in
      let bound = f.3 in
      rw (same, shifted_up v s small, half, is) (omega arith)
  | inr h ↦
      let f = halves s small in
      let is : nat_lt v (2 ^ 63) ≡ false = le-ltb _ _ h in
      let u : ℕ = v - 9223372036854775808 in
      let v-is : v ≡ u + 9223372036854775808 = omega arith in
      let same : (v + 9223372036854775808) % 18446744073709551616 ≡ u = omega arith in
      let below = shifted_below u s small (omega arith) in
      let half = f.4 in
      let twice = f.1 in
      let top = f.2 in
      let bound = f.3 in
      let up : v / 2 ^ s ≡ u / 2 ^ s + 2 ^ (63 - s) = ap (λ (n : ℕ). n / 2 ^ s) v-is ∙ shifted_up u s small in
      rw (same, half, is, up) (omega arith)
]

pub flux_unturned : (x y k s : ℕ) → s ≤ 63 → (biased_flux x y k s + (18446744073709551616 - 9223372036854775808 / 2 ^ s)) % 18446744073709551616 ≡ flux_value x y k s
unfolding biased_flux flux_value
flux_unturned x y k s small = unturned (mul_word k (sub_word x y)) s small (mod-lt (k * sub_word x y) (omega arith))

pub biased_below : (x y k s : ℕ) → biased_flux x y k s < 2 ^ 64
unfolding biased_flux
biased_below x y k s =
    let word : (mul_word k (sub_word x y) + 2 ^ 63) % 2 ^ 64 < 2 ^ 64 = mod-lt (mul_word k (sub_word x y) + 2 ^ 63) (omega arith) in
    let less = shr_le ((mul_word k (sub_word x y) + 2 ^ 63) % 2 ^ 64) s in
    omega arith

wrapped_balance : (w b c t f g : ℕ) → b < 2 ^ 64 → c < 2 ^ 64 → t ≤ 9223372036854775808 → (b + (18446744073709551616 - t)) % 18446744073709551616 ≡ f → (c + (18446744073709551616 - t)) % 18446744073709551616 ≡ g
    → ((w + b) % 18446744073709551616 + (18446744073709551616 - c)) % 18446744073709551616 ≡ balance_value w f g
wrapped_balance w b c t f g hb hc ht hf hg = omega arith

-- the biases of the two fluxes cancel
pub balance_of_wrapped : (w x y x' y' k s : ℕ) → s ≤ 63
    → ((w + biased_flux x y k s) % 18446744073709551616 + (18446744073709551616 - biased_flux x' y' k s)) % 18446744073709551616 ≡ balance_value w (flux_value x y k s) (flux_value x' y' k s)
balance_of_wrapped w x y x' y' k s small =
    wrapped_balance w (biased_flux x y k s) (biased_flux x' y' k s) (9223372036854775808 / 2 ^ s) _ _ (biased_below x y k s) (biased_below x' y' k s) (shr_le 9223372036854775808 s) (flux_unturned x y k s small) (flux_unturned x' y' k s small)
