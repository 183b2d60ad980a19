-- Fluxes as lanes compute them, where a logical shift is all there is. The bias is 2 ^ 63 shifted to the right by S: it turns the
-- sign bit, so that the shift need not copy it. A balance of two fluxes with the bias is that of the two without it.
use Rattle.std.specs.Prelude.{ℕ, ◌+◌, ◌/◌, ◌%◌, ◌^◌, List, slice_index}
use Rattle.rh_words.specs.Modular.{sub_word, mul_word}
use Rattle.rh_stencil.specs.Flux.{balance_value}

-- a flux, more by the bias
unfoldable pub biased_flux : ℕ → ℕ → ℕ → ℕ → ℕ
biased_flux l r k s = (mul_word k (sub_word l r) + 2 ^ 63) % 2 ^ 64 / 2 ^ s

-- what flows from a row to the row below it in column i, more by the bias
abbrev pub biased_flux_at : List ℕ → List ℕ → ℕ → ℕ → ℕ → ℕ
biased_flux_at here below k s i = biased_flux (slice_index here i) (slice_index below i) k s

-- the word in column i of `out` after `fluxes` came in from the row above, and what flows from the row `here` to the row below went out
abbrev pub biased_balance_at : List ℕ → List ℕ → List ℕ → List ℕ → ℕ → ℕ → ℕ → ℕ
biased_balance_at out fluxes here below k s i = balance_value (slice_index out i) (slice_index fluxes i) (biased_flux_at here below k s i)
