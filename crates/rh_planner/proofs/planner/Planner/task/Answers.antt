use Rattle.std.proofs.Common.{◌≡◌, ◌∙◌, ap, sym, rules, map, refl, subst, length, List}
use Rattle.rh_rules.specs.declared.node.PlannedPromise.{PlannedPromise}
use Rattle.rh_rules.specs.Above.{await_local}
use Rattle.rh_tables.specs.Declarations.{Declarations}
use Rattle.rh_rules.specs.Tables.{promise_number}
use Rattle.rh_planner.specs.States.{HasFacts, facts_of}
use Rattle.rh_planner.proofs.After.{after_task}
use Rattle.rh_planner.proofs.Tasks.{task_judged}
use Rattle.rh_planner.proofs.Refusing.{judges_refused}
use Rattle.rh_planner.proofs.planner.Planner.task.Goals as goal

pub returns-in-Some : goal.returns-in-Some
returns-in-Some c =
    let count : c.len-count.result ≡ length c.args.self.now.nodes.items = search rules in
    judges_refused _ _ _ c.in-Some.reason refl (sym (task_judged (facts_of c.args.self.now) c.args.self.now.handed c.args.name c.args.scheme c.args.awaits.now _ _ _ count c.as_slice-names.ensures.value c.in_ok-reason.ensures.reason) ∙ c.in-Some.is)

pub returns : goal.returns
returns c =
    let count : c.len-count.result ≡ length c.args.self.now.nodes.items = search rules in
    let e = c.in_ok-reason.ensures in
    let declared = e.declared c.in_default.is in
    record {
      reason = sym c.in_default.is ∙ task_judged (facts_of c.args.self.now) c.args.self.now.handed c.args.name c.args.scheme c.args.awaits.now _ _ _ count c.as_slice-names.ensures.value e.reason;
      tables = λ none. subst (HasFacts _) (sym (after_task c.args.self.now.handed (facts_of c.args.self.now) c.args.name c.args.scheme c.args.awaits.now)) (record {
        names = ap (λ (t : Declarations). t.names) declared;
        promises = ap (λ (t : Declarations). t.promises) declared;
        matrices = refl;
        closed = refl;
        begun = refl;
        blocks = search rules;
        count = refl;
        nodes = refl;
        inputs = e.inputs c.in_default.is ∙ ap (λ l. map (promise_number c.args.self.now.declared.promises) l) c.as_slice-names.ensures.value;
        locals = c.in_ok-await_locals.ensures
            ∙ ap (λ (ps : List PlannedPromise). map (await_local ps) c.as_slice-names.result.now) (c.promises-promises.ensures ∙ ap (λ (t : Declarations). t.promises) declared)
            ∙ ap (λ l. map (await_local c.args.self.now.declared.promises) l) c.as_slice-names.ensures.value;
        drops = c.clear.ensures.drops;
        steps = c.clear.ensures.body;
        scheme = search rules;
        checks = c.clear.ensures.checks;
      });
      handed = refl;
    }
