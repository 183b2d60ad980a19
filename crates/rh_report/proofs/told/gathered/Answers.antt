use Rattle.std.proofs.Common.{length}
use Rattle.rh_report.proofs.Gathered.{gathered_next}
use Rattle.rh_report.proofs.told.gathered.Goals as goal

pub loop-entry-preserved : goal.loop-entry-preserved
loop-entry-preserved c =
    gathered_next (length c.args.plan.now.nodes) (length c.args.plan.now.promises) c.loop-entry.entry-index c.args.entries.now _ c.loop-entry.told c.tell.new.self c.loop-entry-test.true c.loop-entry.invariant c.in_ok-tell.ensures
