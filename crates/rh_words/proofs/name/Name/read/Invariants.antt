use Rattle.std.proofs.Common.{◌≡◌, ◌-◌, length, take, drop, replicate, true}
use Rattle.std.specs.List.{list_all}
use Rattle.rh_words.specs.Naming.{continues_name}
use Rattle.rh_words.proofs.name.Name.read.Given as goal

abbrev pub invariant-loop-at : goal.invariant-loop-at
invariant-loop-at l = record {
  whole : length l.whole ≡ 32;
  copied : take l.at l.whole ≡ take l.at l.bytes;
  blank : drop l.at l.whole ≡ replicate (32 - l.at) 0;
  continues : list_all continues_name (take l.at l.bytes) ≡ true;
}
