use Rattle.std.proofs.Common.{length}
use Rattle.rh_injector.specs.ReaderStates.{IsBegun}
use Rattle.rh_injector.proofs.reading.read_lines.Given as goal

abbrev pub invariant-loop-line : goal.invariant-loop-line
invariant-loop-line l = IsBegun l.bytes l.number l.lines l.reader

abbrev pub decreases-loop-line : goal.decreases-loop-line
decreases-loop-line l = length l.lines
