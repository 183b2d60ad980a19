use Rattle.std.proofs.Common.{◌≡◌, ◌≤◌, ◌++◌, length, take}
use Rattle.rh_words.specs.Values.{rest_text}
use Rattle.rh_words.proofs.printing.print_rest.Given as goal

abbrev pub invariant-loop-value : goal.invariant-loop-value
invariant-loop-value l = record {
  text : l.into ++ rest_text l.left ≡ l.fn.into ++ rest_text l.fn.values;
  front : take (length l.fn.into) l.into ≡ l.fn.into;
  longer : length l.fn.into ≤ length l.into;
}

abbrev pub decreases-loop-value : goal.decreases-loop-value
decreases-loop-value l = length l.left
