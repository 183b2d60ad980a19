use Rattle.std.proofs.Common.{◌≡◌, take}
use Rattle.rh_rules.proofs.facets.words_of.Given as goal

abbrev pub invariant-loop-number : goal.invariant-loop-number
invariant-loop-number l = l.words ≡ take l.number-index l.numbers
