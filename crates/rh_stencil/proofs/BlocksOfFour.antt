-- A block of four words of a line, one step on.
use Rattle.std.proofs.Common.{◌≡◌, ℕ, zero, suc, ◌+◌, ◌-◌, ◌%◌, ◌≤◌, ◌<◌, List, [], ◌∷◌, ◌++◌, length, get_or, refl, ap, sym, ◌∙◌, arith, inl, inr}
use Rattle.std.specs.Simd.Lanes.{zip2}
use Rattle.std.proofs.lemmas.Bool.{cases_lt}
use lib.Lanes.{chunk, put_chunk}
use Rattle.std.proofs.lemmas.Simd.{get_or-chunk, length-chunk, get_or-put_chunk_below, get_or-put_chunk_at}
use Rattle.rh_stencil.specs.Flux.{flux_value, balance_value}
use Rattle.rh_stencil.specs.Biased.{biased_flux}
use Rattle.rh_stencil.specs.Steps.{line_word, word_left}
use Rattle.rh_stencil.proofs.FluxBias.{balance_of_wrapped}
use Rattle.rh_stencil.proofs.LaneBalance.{lane_balance, get_or-lane_balance, length-zip_chunks, get_or-zip_chunks}
use Rattle.rh_stencil.proofs.LanesOfFluxes.{four_lanes}
use Rattle.rh_stencil.proofs.LineWords.{left_later, right_inner}

-- the fluxes out of the words of the block at a position
abbrev pub block_fluxes : List ℕ → ℕ → ℕ → ℕ → List ℕ
block_fluxes m at k s = zip2 (λ x y. biased_flux x y k s) (chunk at 4 m) (chunk (at + 1) 4 m)

pub length-block_fluxes : (m : List ℕ) (at k s : ℕ) → at + 4 < length m → length (block_fluxes m at k s) ≡ 4
length-block_fluxes m at k s room = length-zip_chunks (λ x y. biased_flux x y k s) m m at (at + 1) (omega arith) (omega arith)

block_flux : (m : List ℕ) (at j k s : ℕ) → at + 4 < length m → j < 4 → get_or (block_fluxes m at k s) j 0 ≡ biased_flux (get_or m (at + j) 0) (get_or m (at + j + 1) 0) k s
block_flux m at j k s room h =
    let e : at + 1 + j ≡ at + j + 1 = omega arith in
    get_or-zip_chunks (λ x y. biased_flux x y k s) m m at (at + 1) j (omega arith) (omega arith) h
    ∙ ap (λ (n : ℕ). biased_flux (get_or m (at + j) 0) (get_or m n 0) k s) e

abbrev pub shifted_by_one : List ℕ → List ℕ → List ℕ
shifted_by_one into from = get_or (into ++ from) 3 0 ∷ get_or (into ++ from) 4 0 ∷ get_or (into ++ from) 5 0 ∷ get_or (into ++ from) 6 0 ∷ []

-- the lanes of the block before the last but its last, then those of this block
shifted_first : (into from : List ℕ) → length into ≡ 4 → get_or (shifted_by_one into from) 0 0 ≡ get_or into 3 0
shifted_first into from four = let x = four_lanes into four in rw x.4 refl

shifted_later : (into from : List ℕ) (j : ℕ) → length into ≡ 4 → j < 3 → get_or (shifted_by_one into from) (j + 1) 0 ≡ get_or from j 0
shifted_later into from zero four h = let x = four_lanes into four in rw x.4 refl
shifted_later into from (suc zero) four h = let x = four_lanes into four in rw x.4 refl
shifted_later into from (suc (suc zero)) four h = let x = four_lanes into four in rw x.4 refl
shifted_later into from (suc (suc (suc j))) four h = absurd (omega arith)

-- what flows into a word of the block
inflow : (before : ℕ) (m into : List ℕ) (at j k s : ℕ) → at + 4 < length m → length into ≡ 4 → get_or into 3 0 ≡ biased_flux (word_left before m at) (get_or m at 0) k s → j < 4
    → get_or (shifted_by_one into (block_fluxes m at k s)) j 0 ≡ biased_flux (word_left before m (at + j)) (get_or m (at + j) 0) k s
inflow before m into at zero k s room four e h =
    let none : at + zero ≡ at = omega arith in
    shifted_first into (block_fluxes m at k s) four ∙ e ∙ ap (λ (i : ℕ). biased_flux (word_left before m i) (get_or m i 0) k s) (sym none)
inflow before m into at (suc j) k s room four e h =
    let same : suc j ≡ j + 1 = omega arith in
    let there : at + suc j ≡ at + j + 1 = omega arith in
    ap (λ (i : ℕ). get_or (shifted_by_one into (block_fluxes m at k s)) i 0) same
    ∙ shifted_later into (block_fluxes m at k s) j four (omega arith)
    ∙ block_flux m at j k s room (omega arith)
    ∙ ap (λ (w : ℕ). biased_flux w (get_or m (at + j + 1) 0) k s) (sym (left_later before m (at + j)))
    ∙ ap (λ (i : ℕ). biased_flux (word_left before m i) (get_or m i 0) k s) (sym there)

-- a word of the block, one step on
pub block_word : (before after : ℕ) (m into : List ℕ) (at j k s : ℕ) → s ≤ 63 → at + 4 < length m → length into ≡ 4 → get_or into 3 0 ≡ biased_flux (word_left before m at) (get_or m at 0) k s → j < 4
    → get_or (lane_balance (chunk at 4 m) (shifted_by_one into (block_fluxes m at k s)) (block_fluxes m at k s)) j 0 ≡ line_word before m after k s (at + j)
block_word before after m into at j k s small room four e h =
    let here = get_or m (at + j) 0 in
    get_or-lane_balance (chunk at 4 m) (shifted_by_one into (block_fluxes m at k s)) (block_fluxes m at k s) j (length-chunk at 4 m (omega arith)) refl (length-block_fluxes m at k s room) h
    ∙ ap (λ (w : ℕ). ((w + get_or (shifted_by_one into (block_fluxes m at k s)) j 0) % 18446744073709551616 + (18446744073709551616 - get_or (block_fluxes m at k s) j 0)) % 18446744073709551616) (get_or-chunk at 4 m j 0 h)
    ∙ ap (λ (w : ℕ). ((here + w) % 18446744073709551616 + (18446744073709551616 - get_or (block_fluxes m at k s) j 0)) % 18446744073709551616) (inflow before m into at j k s room four e h)
    ∙ ap (λ (w : ℕ). ((here + biased_flux (word_left before m (at + j)) here k s) % 18446744073709551616 + (18446744073709551616 - w)) % 18446744073709551616) (block_flux m at j k s room h)
    ∙ balance_of_wrapped here (word_left before m (at + j)) here here (get_or m (at + j + 1) 0) k s small
    ∙ ap (λ (w : ℕ). balance_value here (flux_value (word_left before m (at + j)) here k s) (flux_value here w k s)) (sym (right_inner m after (at + j) (omega arith)))

-- a block written behind the words before it
pub block_written : (f : ℕ → ℕ) (out w : List ℕ) (at i : ℕ) → length w ≡ 4 → at + 4 ≤ length out → i < at + 4 → ((n : ℕ) → n < at → get_or out n 0 ≡ f n) → ((j : ℕ) → j < 4 → get_or w j 0 ≡ f (at + j)) → get_or (put_chunk at out w) i 0 ≡ f i
block_written f out w at i four room h below here = elim (cases_lt i at) [
  | inl less ↦ get_or-put_chunk_below at out w i 0 less ∙ below i less
  | inr more ↦
      let there : at + (i - at) ≡ i = omega arith in
      ap (λ (n : ℕ). get_or (put_chunk at out w) n 0) (sym there)
      ∙ get_or-put_chunk_at at out w (i - at) 0 (omega arith) (omega arith)
      ∙ here (i - at) (omega arith)
      ∙ ap f there
]

-- the last flux of a block flows into the word after it
pub last_flux : (before : ℕ) (m : List ℕ) (at next k s : ℕ) → at + 4 < length m → next ≡ at + 3 + 1 → get_or (block_fluxes m at k s) 3 0 ≡ biased_flux (word_left before m next) (get_or m next 0) k s
last_flux before m at next k s room e =
    block_flux m at 3 k s room (omega arith)
    ∙ ap (λ (w : ℕ). biased_flux w (get_or m (at + 3 + 1) 0) k s) (sym (left_later before m (at + 3)))
    ∙ ap (λ (i : ℕ). biased_flux (word_left before m i) (get_or m i 0) k s) (sym e)
