use Rattle.rh_task_text.proofs.CountsOfLines.{lets_small, checks_small}
use Rattle.rh_task_text.proofs.NestingOfBlocks.{depth_small}
use Rattle.rh_task_text.proofs.laws.lawful_texts_keep_their_limits.Goals as goal

pub returns-clause-lets : goal.returns-clause-lets
returns-clause-lets c = lets_small

pub returns-clause-checks : goal.returns-clause-checks
returns-clause-checks c = checks_small

pub returns-clause-blocks : goal.returns-clause-blocks
returns-clause-blocks c = depth_small
