use Rattle.std.proofs.Common.{◌≡◌, ◌∙◌, ◌∷◌, ℕ, ap, sym, refl, rules, subst, length}
use Rattle.rh_rules.specs.declared.block.OpenBlock.TheVariants.{ScopeBlock}
use Rattle.rh_tables.specs.Declarations.{Declarations}
use Rattle.rh_planner.specs.Planned.{look_above}
use Rattle.rh_planner.specs.States.{HasFacts, facts_of}
use Rattle.rh_planner.proofs.After.{after_finish}
use Rattle.rh_planner.proofs.Declaring.{reason_finish}
use Rattle.rh_planner.proofs.Refusing.{judges_refused}
use Rattle.rh_planner.proofs.planner.Planner.finish.Goals as goal

pub returns-in-Some : goal.returns-in-Some
returns-in-Some c = judges_refused _ _ _ c.in-Some.reason refl (reason_finish (look_above c.args.self.now.handed) (facts_of c.args.self.now) c.args.name ∙ sym c.in_ok-reason.ensures.reason ∙ c.in-Some.is)

pub returns : goal.returns
returns c =
    let old = c.args.self.now in
    let f = facts_of old in
    let e = c.in_ok-reason.ensures in
    let clear = c.clear.ensures in
    let declared = e.added c.in_default.is in
    let count : c.len-first.result ≡ length old.nodes.items = search rules in
    record {
      reason = sym c.in_default.is ∙ e.reason ∙ sym (reason_finish (look_above old.handed) f c.args.name);
      tables = λ none. subst (HasFacts _) (sym (after_finish (look_above old.handed) f c.args.name)) (record {
        names = ap (λ (t : Declarations). t.names) declared;
        promises = ap (λ (t : Declarations). t.promises) declared;
        matrices = refl;
        closed = refl;
        begun = refl;
        blocks = c.in_ok-push.ensures ∙ ap (λ (n : ℕ). ScopeBlock c.args.name n ∷ old.blocks) count;
        count = refl;
        nodes = refl;
        inputs = clear.inputs;
        locals = clear.locals;
        drops = clear.drops;
        steps = clear.body;
        scheme = clear.scheme;
        checks = clear.checks;
      });
      handed = refl;
    }
