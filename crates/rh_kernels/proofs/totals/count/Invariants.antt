use Rattle.std.proofs.Common.{◌≡◌, take}
use Rattle.rh_words.specs.Kernels.{count_value}
use Rattle.rh_kernels.proofs.totals.count.Given as goal

abbrev pub invariant-loop-word : goal.invariant-loop-word
invariant-loop-word l = l.found ≡ count_value (take l.word-index l.a)
