use Rattle.std.proofs.Common.{arith}
use Rattle.std.proofs.lemmas.Grind.{common_steps}
use Rattle.rh_tables.proofs.blocks.Blocks.group.Goals as goal

pub returns : goal.returns
returns = grind (arith, common_steps)

pub loop-block-preserved : goal.loop-block-preserved
loop-block-preserved = grind (arith, common_steps)

pub returns-in-GroupBlock : goal.returns-in-GroupBlock
returns-in-GroupBlock = grind (arith, common_steps)
