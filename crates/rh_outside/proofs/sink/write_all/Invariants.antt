use Rattle.std.proofs.Common.{◌≤◌, ◌-◌, length, take}
use Rattle.std.specs.Io.KnownBytes.{Appends}
use Rattle.rh_outside.proofs.sink.write_all.Given as goal

abbrev pub invariant-loop-at : goal.invariant-loop-at
invariant-loop-at g l = record {
  within : l.at ≤ length l.bytes;
  taken : Appends ((g.O.Sink.state l.fn.out).taken) ((g.O.Sink.state l.out).taken) (take l.at l.bytes);
  count : (g.O.Sink.state l.fn.out).failed_writes ≤ (g.O.Sink.state l.out).failed_writes;
}

abbrev pub decreases-loop-at : goal.decreases-loop-at
decreases-loop-at g l = length l.bytes - l.at
