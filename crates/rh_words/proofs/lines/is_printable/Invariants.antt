use Rattle.std.proofs.Common.{◌≡◌, take}
use Rattle.rh_words.specs.Text.{is_printable}
use Rattle.rh_words.proofs.lines.is_printable.Given as goal

abbrev pub invariant-loop-byte : goal.invariant-loop-byte
invariant-loop-byte l = l.all ≡ is_printable (take l.byte-index l.bytes)
