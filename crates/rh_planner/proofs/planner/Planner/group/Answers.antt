use Rattle.std.proofs.Common.{◌≡◌, ◌∙◌, ◌++◌, ◌∷◌, [], List, ℕ, ap, sym, refl, rules, subst, map, length, length-append}
use Rattle.rh_rules.specs.declared.node.Node.{Node}
use Rattle.rh_rules.specs.Tables.{promise_number}
use Rattle.rh_rules.specs.Above.{group_in, group_node}
use Rattle.rh_tables.specs.Declarations.{Declarations}
use Rattle.rh_planner.specs.States.{HasFacts, facts_of}
use Rattle.rh_planner.proofs.After.{after_group, group_in_facts}
use Rattle.rh_planner.proofs.Tasks.{group_judged}
use Rattle.rh_planner.proofs.Refusing.{judges_refused}
use Rattle.rh_planner.proofs.planner.Planner.group.Goals as goal

pub returns-in-Some : goal.returns-in-Some
returns-in-Some c =
    let count : c.len-count.result ≡ length c.args.self.now.nodes.items = search rules in
    judges_refused _ _ _ c.in-Some.reason refl (sym (group_judged (facts_of c.args.self.now) c.args.self.now.handed c.args.name c.args.awaits.now _ _ _ count c.as_slice-names.ensures.value c.in_ok-reason.ensures.reason) ∙ c.in-Some.is)

pub returns : goal.returns
returns c =
    let old = c.args.self.now in
    let f = facts_of old in
    let count : c.len-count.result ≡ length old.nodes.items = search rules in
    let e = c.in_ok-reason.ensures in
    let o = c.in_ok-open_group.ensures in
    let clear = c.clear.ensures in
    let declared = e.declared c.in_default.is in
    let awaits = e.inputs c.in_default.is ∙ ap (λ (l : List (List ℕ)). map (promise_number old.declared.promises) l) c.as_slice-names.ensures.value in
    let nodes = o.nodes ∙ ap (λ (l : List ℕ). old.nodes.items ++ group_node c.args.name l (group_in old.blocks) ∷ []) awaits in
    record {
      reason = sym c.in_default.is ∙ group_judged f old.handed c.args.name c.args.awaits.now _ _ _ count c.as_slice-names.ensures.value e.reason;
      tables = λ none. subst (HasFacts _) (sym (after_group old.handed f c.args.name c.args.awaits.now)) (record {
        names = ap (λ (t : Declarations). t.names) declared;
        promises = ap (λ (t : Declarations). t.promises) declared;
        matrices = refl;
        closed = refl;
        begun = refl;
        blocks = o.blocks;
        count = ap (λ (l : List Node). length l) nodes ∙ length-append old.nodes.items (group_in_facts f c.args.name c.args.awaits.now ∷ []);
        nodes = nodes;
        inputs = c.open_group.ensures.inputs;
        locals = clear.locals;
        drops = clear.drops;
        steps = clear.body;
        scheme = clear.scheme;
        checks = clear.checks;
      });
      handed = refl;
    }
