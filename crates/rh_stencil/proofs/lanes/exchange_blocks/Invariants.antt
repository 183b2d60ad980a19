use Rattle.std.proofs.Common.{◌≡◌, ℕ, ◌*◌, ◌<◌, ◌≤◌, length, get_or}
use Rattle.rh_stencil.specs.Biased.{biased_balance_at, biased_flux_at}
use Rattle.rh_stencil.proofs.lanes.exchange_blocks.Given as goal

abbrev pub invariant-loop-block : goal.invariant-loop-block
invariant-loop-block l = record {
  same : length l.out ≡ length l.here;
  long : length l.fluxes ≡ length l.here;
  words : (i : ℕ) → i < 4 * l.block → get_or l.out i 0 ≡ biased_balance_at l.fn.out l.fn.fluxes l.here l.below l.k l.s i;
  fluxes : (i : ℕ) → i < 4 * l.block → get_or l.fluxes i 0 ≡ biased_flux_at l.here l.below l.k l.s i;
  rest : (i : ℕ) → 4 * l.block ≤ i → (get_or l.out i 0 ≡ get_or l.fn.out i 0) × (get_or l.fluxes i 0 ≡ get_or l.fn.fluxes i 0);
}
