use Rattle.std.proofs.Common.{◌≡◌, length, reverse}
use Rattle.rh_rules.specs.Above.{group_in}
use Rattle.rh_tables.proofs.blocks.Blocks.group.Given as goal

abbrev pub invariant-loop-block : goal.invariant-loop-block
invariant-loop-block l = group_in (reverse l.rest) ≡ group_in l.self

abbrev pub decreases-loop-block : goal.decreases-loop-block
decreases-loop-block l = length l.rest
