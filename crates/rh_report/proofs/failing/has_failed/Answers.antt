use Rattle.rh_report.proofs.AnyFailed.{any_failed}
use Rattle.rh_report.proofs.failing.has_failed.Goals as goal

pub returns : goal.returns
returns c =
    any_failed c.args.plan.now c.args.faults.now c.args.outcome.now.journal c.entries.result.now c.args.outcome.now.shown c.in_ok-told.told c.verdicts.result.now c.is_any_failed-failed.result
    c.nodes-known.ensures.lawful c.requires c.entries.ensures c.in_ok-told.ensures c.verdicts.ensures c.is_any_failed-failed.ensures
