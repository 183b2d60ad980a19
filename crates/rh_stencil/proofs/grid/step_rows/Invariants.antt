use Rattle.std.proofs.Common.{◌≡◌, ℕ, ◌+◌, ◌*◌, ◌<◌, length, get_or}
use Rattle.rh_stencil.specs.Biased.{biased_flux}
use Rattle.rh_stencil.specs.Grids.{grid_word, word_north}
use Rattle.rh_stencil.proofs.grid.step_rows.Given as goal

abbrev pub invariant-loop-row : goal.invariant-loop-row
invariant-loop-row l = record {
  same : length l.out ≡ length l.m;
  wide : length l.fluxes ≡ l.cols;
  words : (i : ℕ) → i < l.row * l.cols → get_or l.out i 0 ≡ grid_word l.north l.south l.west l.east l.m l.cols l.k l.s i;
  into : l.row < length l.west → (c : ℕ) → c < l.cols → get_or l.fluxes c 0 ≡ biased_flux (word_north l.north l.m l.cols (l.row * l.cols + c)) (get_or l.m (l.row * l.cols + c) 0) l.k l.s;
}
