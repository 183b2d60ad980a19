use Rattle.std.proofs.Common.{◌≡◌, ℕ, ◌<◌, ◌≤◌, get_or}
use Rattle.rh_stencil.specs.Biased.{biased_balance_at, biased_flux_at}
use Rattle.rh_stencil.proofs.grid.exchange_rest.Given as goal

abbrev pub invariant-loop-at : goal.invariant-loop-at
invariant-loop-at l = record {
  words : (i : ℕ) → l.start ≤ i → i < l.at → get_or l.out i 0 ≡ biased_balance_at l.fn.out l.fn.fluxes l.here l.below l.k l.s i;
  fluxes : (i : ℕ) → l.start ≤ i → i < l.at → get_or l.fluxes i 0 ≡ biased_flux_at l.here l.below l.k l.s i;
  below : (i : ℕ) → i < l.start → (get_or l.out i 0 ≡ get_or l.fn.out i 0) × (get_or l.fluxes i 0 ≡ get_or l.fn.fluxes i 0);
  above : (i : ℕ) → l.at ≤ i → (get_or l.out i 0 ≡ get_or l.fn.out i 0) × (get_or l.fluxes i 0 ≡ get_or l.fn.fluxes i 0);
}
