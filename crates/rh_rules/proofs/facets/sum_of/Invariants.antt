use Rattle.std.proofs.Common.{◌≡◌, ◌≤◌, ◌*◌, ◌^◌, take, sum}
use Rattle.rh_rules.proofs.facets.sum_of.Given as goal

abbrev pub invariant-loop-len : goal.invariant-loop-len
invariant-loop-len l = (l.total ≡ sum (take l.len-index l.lens)) × (l.total ≤ l.len-index * 2 ^ 32)
