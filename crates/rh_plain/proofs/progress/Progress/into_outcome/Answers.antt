use Rattle.std.proofs.Common.{◌∙◌}
use Rattle.std.proofs.lemmas.Result.{IfOk-weaker}
use Rattle.rh_plain.proofs.ShownPairs.{at_end}
use Rattle.rh_plain.proofs.progress.Progress.into_outcome.Goals as goal

pub report-requires-clause-known : goal.report-requires-clause-known
report-requires-clause-known c = (at_end c.args.plan.now c.args.faults.now c.args.self c.self.inside.verdicts.items c.self.inside.values c.self.inside.history c.in_ok-pairs.pairs.items c.nodes-known.ensures.lawful c.self.view_is c.requires c.in_ok-pairs.ensures).known

pub report-requires-clause-ascending : goal.report-requires-clause-ascending
report-requires-clause-ascending c = (at_end c.args.plan.now c.args.faults.now c.args.self c.self.inside.verdicts.items c.self.inside.values c.self.inside.history c.in_ok-pairs.pairs.items c.nodes-known.ensures.lawful c.self.view_is c.requires c.in_ok-pairs.ensures).ascending

pub returns-clause-journal : goal.returns-clause-journal
returns-clause-journal c =
    let end = at_end c.args.plan.now c.args.faults.now c.args.self c.self.inside.verdicts.items c.self.inside.values c.self.inside.history c.in_ok-pairs.pairs.items c.nodes-known.ensures.lawful c.self.view_is c.requires c.in_ok-pairs.ensures in
    IfOk-weaker c.report.result _ _ (λ o told. told.2 ∙ end.journal told.0 told.1) c.report.ensures.journal

pub returns-clause-shown : goal.returns-clause-shown
returns-clause-shown c =
    let end = at_end c.args.plan.now c.args.faults.now c.args.self c.self.inside.verdicts.items c.self.inside.values c.self.inside.history c.in_ok-pairs.pairs.items c.nodes-known.ensures.lawful c.self.view_is c.requires c.in_ok-pairs.ensures in
    IfOk-weaker c.report.result _ _ (λ o told. told ∙ end.shown) c.report.ensures.shown
