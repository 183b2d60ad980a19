use Rattle.std.proofs.Common.{◌≡◌, ◌*◌, ◌^◌, ◌≤◌, take, sum}
use Rattle.rh_sparse.proofs.checksums.total.Given as goal

abbrev pub invariant-loop-word : goal.invariant-loop-word
invariant-loop-word l = (l.sum ≡ sum (take l.word-index l.words)) × (l.sum ≤ l.word-index * 2 ^ 64)
