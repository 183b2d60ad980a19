use Rattle.std.proofs.Common.{◌≡◌, ◌+◌, ◌*◌, ◌%◌, ◌^◌, get_or}
use Rattle.rh_stencil.specs.Flux.{flux_value}
use Rattle.rh_words.specs.Sums.{sum_below}
use Rattle.rh_stencil.proofs.conservation.sum_inflow.Given as goal

abbrev pub invariant-loop-i : goal.invariant-loop-i
invariant-loop-i l = l.sum ≡ sum_below l.i (λ j. flux_value (get_or l.halo j 0) (get_or l.m (l.start + j * l.step) 0) l.k l.s) % 2 ^ 64
