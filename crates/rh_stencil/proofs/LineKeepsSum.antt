-- A step of a line keeps the sum of its words, but for what flows over its ends.
use Rattle.std.proofs.Common.{◌≡◌, ℕ, suc, ◌+◌, ◌-◌, ◌/◌, ◌%◌, ◌≤◌, ◌<◌, ◌^◌, List, length, get_or, ap, sym, ◌∙◌, arith}
use Rattle.std.proofs.Math.Nat.{mod-lt}
use Rattle.rh_words.specs.Kernels.{sum_value}
use Rattle.rh_stencil.specs.Flux.{flux_value, balance_value}
use Rattle.rh_stencil.specs.Steps.{line_word, line_value, word_left, word_right, step1_value, last_word, first_word}
use Rattle.rh_stencil.specs.Biased.{biased_flux}
use Rattle.rh_words.specs.Sums.{sum_below}
use Rattle.rh_stencil.specs.Conserved.{Conserves1}
use Rattle.rh_stencil.proofs.FluxBias.{flux_unturned}
use Rattle.rh_stencil.proofs.LineWords.{left_later, right_inner, right_last}
use Rattle.rh_stencil.proofs.RangeSums.{sum_plus, sum_alike, sum_made, sum_words}
use Rattle.rh_stencil.proofs.TelescopingSums.{telescope}

pub flux_below : (x y k s : ℕ) → s ≤ 63 → flux_value x y k s < 2 ^ 64
flux_below x y k s small =
    let e = flux_unturned x y k s small in
    let below : (biased_flux x y k s + (18446744073709551616 - 9223372036854775808 / 2 ^ s)) % 18446744073709551616 < 18446744073709551616 = mod-lt (biased_flux x y k s + (18446744073709551616 - 9223372036854775808 / 2 ^ s)) (omega arith) in
    omega arith

pub moved_alike : (w f g : ℕ) → g < 2 ^ 64 → (balance_value w f g + g) % 18446744073709551616 ≡ (w + f) % 18446744073709551616
moved_alike w f g h = omega arith

-- what flows out of a word flows into the next
pub flow_on : (before after k s : ℕ) (m : List ℕ) (c : ℕ) → suc c < length m
    → flux_value (word_left before m (suc c)) (get_or m (suc c) 0) k s ≡ flux_value (get_or m c 0) (word_right m after c) k s
flow_on before after k s m c h =
    let one : suc c ≡ c + 1 = omega arith in
    ap (λ (i : ℕ). flux_value (word_left before m i) (get_or m i 0) k s) one
    ∙ ap (λ (w : ℕ). flux_value w (get_or m (c + 1) 0) k s) (left_later before m c)
    ∙ ap (λ (w : ℕ). flux_value (get_or m c 0) w k s) (sym (right_inner m after c (omega arith)))

-- from sums alike and a sum of flows that telescopes
pub kept : (new old into from first last : ℕ) → last < 2 ^ 64 → (new + from) % 18446744073709551616 ≡ (old + into) % 18446744073709551616 → into + last ≡ first + from
    → new % 18446744073709551616 ≡ balance_value (old % 18446744073709551616) first last
kept new old into from first last h alike crossed = omega arith

pub line_keeps : (before after k s : ℕ) (m : List ℕ) → s ≤ 63 → 0 < length m
    → sum_value (line_value before m after k s) ≡ balance_value (sum_value m) (flux_value before (get_or m 0 0) k s) (flux_value (get_or m (length m - 1) 0) after k s)
line_keeps before after k s m small some =
    let last = length m - 1 in
    let long : suc last ≡ length m = omega arith in
    let into : ℕ → ℕ = λ i. flux_value (word_left before m i) (get_or m i 0) k s in
    let from : ℕ → ℕ = λ i. flux_value (get_or m i 0) (word_right m after i) k s in
    let alike = sum_alike (length m) (λ i. line_word before m after k s i + from i) (λ i. get_or m i 0 + into i) (λ i h. moved_alike (get_or m i 0) (into i) (from i) (flux_below (get_or m i 0) (word_right m after i) k s small)) in
    let new = sum_plus (length m) (line_word before m after k s) from in
    let old = sum_plus (length m) (λ i. get_or m i 0) into in
    let both : (sum_below (length m) (line_word before m after k s) + sum_below (length m) from) % 18446744073709551616 ≡ (sum_below (length m) (λ i. get_or m i 0) + sum_below (length m) into) % 18446744073709551616
    = ap (λ (n : ℕ). n % 18446744073709551616) (sym new) ∙ alike ∙ ap (λ (n : ℕ). n % 18446744073709551616) old in
    let crossed : sum_below (length m) into + from last ≡ into 0 + sum_below (length m) from
    = ap (λ (n : ℕ). sum_below n into + from last) (sym long) ∙ telescope last into from (λ c h. flow_on before after k s m c (omega arith)) ∙ ap (λ (n : ℕ). into 0 + sum_below n from) long in
    let end : from last ≡ flux_value (get_or m last 0) after k s = ap (λ (w : ℕ). flux_value (get_or m last 0) w k s) (right_last m after last (omega arith)) in
    ap (λ (n : ℕ). n % 18446744073709551616) (sum_made (length m) (line_word before m after k s))
    ∙ kept (sum_below (length m) (line_word before m after k s)) (sum_below (length m) (λ i. get_or m i 0)) (sum_below (length m) into) (sum_below (length m) from) (into 0) (from last) (flux_below (get_or m last 0) (word_right m after last) k s small) both crossed
    ∙ ap (λ (n : ℕ). balance_value (n % 18446744073709551616) (into 0) (from last)) (sym (sum_words m))
    ∙ ap (λ (w : ℕ). balance_value (sum_value m) (into 0) w) end

pub step1_keeps : (l m r : List ℕ) (k s : ℕ) → 0 < length m → s ≤ 63 → Conserves1 (step1_value l m r k s) l m r k s
step1_keeps l m r k s some small = line_keeps (last_word l) (first_word r) k s m small some
