use Rattle.std.proofs.Common.{◌≡◌, length}
use Rattle.rh_plain.specs.Telling.{pairs_from}
use Rattle.rh_plain.proofs.showing.shown_pairs.Given as goal

abbrev pub invariant-loop-words : goal.invariant-loop-words
invariant-loop-words l = record {
  pairs : l.pairs.items ≡ pairs_from l.plan 0 l.yielded;
  number : l.promise ≡ length l.yielded;
}
