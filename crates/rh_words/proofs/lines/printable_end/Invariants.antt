use Rattle.std.proofs.Common.{◌≡◌, take, true}
use Rattle.rh_words.specs.Text.{is_printable}
use Rattle.rh_words.proofs.lines.printable_end.Given as goal

abbrev pub invariant-loop-at : goal.invariant-loop-at
invariant-loop-at l = is_printable (take l.at l.bytes) ≡ true
