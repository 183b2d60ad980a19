use Rattle.std.proofs.Common.{◌≡◌, ◌∙◌, ap, subst, List}
use Rattle.rh_task_text.specs.Program.{ProgramText, upward}
use Rattle.rh_sparse.specs.Matrix.{MatrixData}
use Rattle.rh_check.specs.Users.{HandedChecks}
use Rattle.rh_rules.specs.declared.node.Node.{Node}
use Rattle.rh_rules.specs.declared.node.PlannedPromise.{PlannedPromise}
use Rattle.rh_rules.specs.Above.{facts_above}
use Rattle.rh_rules.specs.Rules.{AllKeep}
use Rattle.rh_planner.specs.Planned.{look_above, IsDraftOf}
use Rattle.rh_planner.specs.States.{HasFacts}
use Rattle.rh_planner.specs.declared.planner.Planner.{Planner}
use Rattle.rh_planner.proofs.LawfulDrafts.{planned_lawful}
use Rattle.rh_planner.proofs.planning.plan_text.Goals as goal

-- what is planned of a whole text is its drafts
whole_text : (handed : HandedChecks) (text : ProgramText) (p : Planner) (ns : List Node) (ps : List PlannedPromise) (ms : List MatrixData) → AllKeep (look_above handed) (upward text.items) → HasFacts p (facts_above (look_above handed) (upward text.items)) → ns ≡ p.nodes.items → ps ≡ p.declared.promises → ms ≡ p.closed → IsDraftOf handed text ns ps ms
whole_text handed text p ns ps ms kept tables nodes promises matrices = record {
  kept = kept;
  nodes = nodes ∙ tables.nodes;
  promises = promises ∙ tables.promises;
  matrices = matrices ∙ tables.closed;
}

pub returns-in-Ok-clause-planned : goal.returns-in-Ok-clause-planned
returns-in-Ok-clause-planned c =
    let d = c.into_drafts-drafts.result in
    let e = c.into_drafts-drafts.ensures in
    subst (λ (h : HandedChecks). IsDraftOf h c.args.text.now d.nodes.items d.promises.items d.matrices) c.new-planner.ensures.handed (whole_text c.new-planner.result.handed c.args.text.now c.plan_items-answer.new.planner d.nodes.items d.promises.items d.matrices c.in-Ok.ensures.kept c.in-Ok.ensures.tables (ap (λ v. v.items) e.nodes) e.promises e.matrices)

pub returns-in-Ok-clause-lawful : goal.returns-in-Ok-clause-lawful
returns-in-Ok-clause-lawful c =
    let d = c.into_drafts-drafts.result in
    planned_lawful c.args.handed c.args.text.now d.nodes.items d.promises.items d.matrices c.requires c.in-Ok.ensures.lawful (returns-in-Ok-clause-planned c)
