-- Words of a row, after what flows in from the row above it and out to the row below it.
use Rattle.std.proofs.Common.{◌≡◌, ℕ, ◌+◌, ◌-◌, ◌%◌, ◌≤◌, ◌<◌, List, length, ◌^◌, get_or, ap, sym, ◌∙◌, arith}
use Rattle.std.specs.Simd.Lanes.{zip2}
use lib.Lanes.{chunk}
use Rattle.std.proofs.lemmas.Simd.{get_or-chunk, length-chunk}
use Rattle.rh_stencil.specs.Flux.{balance_value, flux_value}
use Rattle.rh_stencil.specs.Biased.{biased_flux, biased_flux_at, biased_balance_at}
use Rattle.rh_stencil.proofs.FluxBias.{balance_of_wrapped, biased_below}
use Rattle.rh_stencil.proofs.LaneBalance.{lane_balance, get_or-lane_balance, length-zip_chunks, get_or-zip_chunks}

wrapped : (w b c : ℕ) → c < 2 ^ 64 → ((w + b) % 18446744073709551616 + (18446744073709551616 - c)) % 18446744073709551616 ≡ balance_value w b c
wrapped w b c h = omega arith

-- with both fluxes biased alike the word comes out the same
pub balance_of_biased : (w x y z k s : ℕ) → s ≤ 63 → balance_value w (biased_flux x y k s) (biased_flux y z k s) ≡ balance_value w (flux_value x y k s) (flux_value y z k s)
balance_of_biased w x y z k s small = sym (wrapped w (biased_flux x y k s) (biased_flux y z k s) (biased_below y z k s)) ∙ balance_of_wrapped w x y y z k s small

-- the fluxes from a row to the row below it, four columns at a time
abbrev pub row_fluxes : List ℕ → List ℕ → ℕ → ℕ → ℕ → List ℕ
row_fluxes here below at k s = zip2 (λ x y. biased_flux x y k s) (chunk at 4 here) (chunk at 4 below)

pub length-row_fluxes : (here below : List ℕ) (at k s : ℕ) → at + 4 ≤ length here → at + 4 ≤ length below → length (row_fluxes here below at k s) ≡ 4
length-row_fluxes here below at k s = length-zip_chunks (λ x y. biased_flux x y k s) here below at at

pub row_flux : (here below : List ℕ) (at j k s : ℕ) → at + 4 ≤ length here → at + 4 ≤ length below → j < 4 → get_or (row_fluxes here below at k s) j 0 ≡ biased_flux_at here below k s (at + j)
row_flux here below at j k s = get_or-zip_chunks (λ x y. biased_flux x y k s) here below at at j

-- a word of four
pub row_balance : (out fluxes here below : List ℕ) (at j k s : ℕ) → at + 4 ≤ length out → at + 4 ≤ length fluxes → at + 4 ≤ length here → at + 4 ≤ length below → j < 4
    → get_or (lane_balance (chunk at 4 out) (chunk at 4 fluxes) (row_fluxes here below at k s)) j 0 ≡ biased_balance_at out fluxes here below k s (at + j)
row_balance out fluxes here below at j k s ho hf hh hb h =
    get_or-lane_balance (chunk at 4 out) (chunk at 4 fluxes) (row_fluxes here below at k s) j (length-chunk at 4 out ho) (length-chunk at 4 fluxes hf) (length-row_fluxes here below at k s hh hb) h
    ∙ ap (λ (w : ℕ). ((w + get_or (chunk at 4 fluxes) j 0) % 18446744073709551616 + (18446744073709551616 - get_or (row_fluxes here below at k s) j 0)) % 18446744073709551616) (get_or-chunk at 4 out j 0 h)
    ∙ ap (λ (w : ℕ). ((get_or out (at + j) 0 + w) % 18446744073709551616 + (18446744073709551616 - get_or (row_fluxes here below at k s) j 0)) % 18446744073709551616) (get_or-chunk at 4 fluxes j 0 h)
    ∙ ap (λ (w : ℕ). ((get_or out (at + j) 0 + get_or fluxes (at + j) 0) % 18446744073709551616 + (18446744073709551616 - w)) % 18446744073709551616) (row_flux here below at j k s hh hb h)
    ∙ wrapped (get_or out (at + j) 0) (get_or fluxes (at + j) 0) (biased_flux_at here below k s (at + j)) (biased_below (get_or here (at + j) 0) (get_or below (at + j) 0) k s)
