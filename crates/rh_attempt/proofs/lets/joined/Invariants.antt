use Rattle.std.proofs.Common.{◌≡◌, map, take}
use Rattle.rh_words.specs.Kernels.{join_value}
use Rattle.rh_check.specs.Checks.{words_at}
use Rattle.rh_attempt.proofs.lets.joined.Given as goal

abbrev pub invariant-loop-part : goal.invariant-loop-part
invariant-loop-part l = l.words ≡ join_value (map (words_at l.locals) (take l.part-index l.parts))
