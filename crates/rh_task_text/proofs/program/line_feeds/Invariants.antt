use Rattle.std.proofs.Common.{length}
use Rattle.rh_task_text.proofs.program.line_feeds.Given as goal

abbrev pub decreases-loop-left : goal.decreases-loop-left
decreases-loop-left l = length l.left
