use Rattle.std.proofs.Common.{◌≡◌, ℕ, ◌<◌, ◌≤◌, get_or}
use Rattle.rh_stencil.specs.Steps.{line_inflow, line_word}
use Rattle.rh_stencil.proofs.line.step_rest.Given as goal

abbrev pub invariant-loop-at : goal.invariant-loop-at
invariant-loop-at l = record {
  into : (before : ℕ) → l.fn.into ≡ line_inflow before l.m l.k l.s l.start → l.into ≡ line_inflow before l.m l.k l.s l.at;
  words : (before i : ℕ) → l.fn.into ≡ line_inflow before l.m l.k l.s l.start → l.start ≤ i → i < l.at → get_or l.out i 0 ≡ line_word before l.m l.after l.k l.s i;
  rest : (i : ℕ) → i < l.start → get_or l.out i 0 ≡ get_or l.fn.out i 0;
}
