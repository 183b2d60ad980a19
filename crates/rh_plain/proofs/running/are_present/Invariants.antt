use Rattle.std.proofs.Common.{◌≡◌, length, map, take}
use Rattle.rh_plain.specs.Values.{has_words}
use Rattle.rh_plain.proofs.running.are_present.Given as goal

abbrev pub invariant-loop-at : goal.invariant-loop-at
invariant-loop-at l = record {
  size : length l.present ≡ 16;
  flags : take l.at l.present ≡ map (has_words l.values) (take l.at l.awaits);
}
