use Rattle.std.proofs.Common.{length, take}
use Rattle.rh_journal.specs.Events.{events}
use Rattle.rh_report.specs.Gathering.{HasGathered}
use Rattle.rh_report.proofs.told.gathered.Given as goal

abbrev pub invariant-loop-entry : goal.invariant-loop-entry
invariant-loop-entry l = HasGathered (length l.plan.nodes) (length l.plan.promises) (events (take l.entry-index l.entries)) l.told
