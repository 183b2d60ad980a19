use Rattle.rh_report.proofs.AnyFailed.{any_failed}
use Rattle.rh_report.proofs.Gathered.{reported}
use Rattle.rh_report.proofs.report.composed.Goals as goal

pub returns-clause-text : goal.returns-clause-text
returns-clause-text c =
    reported c.args.plan.now c.args.faults.now c.args.outcome.now.journal c.entries.result.now c.args.outcome.now.shown c.in_ok-told.told c.new-text.result c.print_all.new.into
    c.nodes-known.ensures.lawful c.requires c.entries.ensures c.in_ok-told.ensures c.new-text.ensures c.in_ok-print_all.ensures

pub returns-clause-failed : goal.returns-clause-failed
returns-clause-failed c =
    any_failed c.args.plan.now c.args.faults.now c.args.outcome.now.journal c.entries.result.now c.args.outcome.now.shown c.in_ok-told.told c.verdicts.result.now c.is_any_failed-failed.result
    c.nodes-known.ensures.lawful c.requires c.entries.ensures c.in_ok-told.ensures c.verdicts.ensures c.is_any_failed-failed.ensures
