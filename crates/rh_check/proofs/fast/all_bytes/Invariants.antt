use Rattle.std.proofs.Common.{◌≡◌, nat_le, take}
use Rattle.rh_check.specs.Checks.{are_within}
use Rattle.rh_check.proofs.fast.all_bytes.Given as goal

abbrev pub invariant-loop-word : goal.invariant-loop-word
invariant-loop-word l = nat_le l.united 255 ≡ are_within 0 255 (take l.word-index l.words)
