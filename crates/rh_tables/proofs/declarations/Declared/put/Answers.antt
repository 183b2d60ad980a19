use Rattle.std.proofs.Common.{◌≡◌, ap, subst, ◌∙◌, sym, List, Some, false, map}
use Rattle.rh_rules.specs.declared.node.PlannedPromise.{PlannedPromise}
use Rattle.rh_rules.specs.Tables.{promise_at, is_put, putting}
use Rattle.rh_tables.specs.Declarations.{Declarations, declarations}
use Rattle.rh_rules.specs.Tables.{given}
use Rattle.rh_tables.proofs.Declaring.{put_found, put_named}
use Rattle.rh_tables.proofs.declarations.Declared.put.Goals as goal

pub invariant_of-self : goal.invariant_of-self
invariant_of-self c =
    let d : PlannedPromise = c.index_mut-promise.result.now in
    let is = c.index_mut-promise.ensures.value in
    put_found c.self.inside.known c.self.inside.names.items c.self.inside.promises.items c.self.inside.words c.self.inside.shown c.args.promise _ d c.self.invariant (ap (λ (p : PlannedPromise). p.name) is) (ap (λ (p : PlannedPromise). p.len) is) (ap (λ (p : PlannedPromise). p.temp) is) (ap (λ (p : PlannedPromise). p.scope) is)

pub returns : goal.returns
returns c = λ name found unput.
    let d : PlannedPromise = c.index_mut-promise.result.now in
    let view : declarations c.self.inside.names.items c.self.inside.promises.items ≡ c.args.self.now = c.self.view_is in
    let promises = ap (λ (t : Declarations). t.promises) view in
    ap (declarations c.self.inside.names.items) (put_named c.self.inside.promises.items name c.args.node c.args.promise _ d c.self.invariant.distinct
    (ap (λ (p : PlannedPromise). record p { putter = Some c.args.node }) c.index_mut-promise.ensures.value)
    (subst (λ (ps : List PlannedPromise). promise_at name ps ≡ Some c.args.promise) (sym promises) found)
    (subst (λ (ps : List PlannedPromise). is_put ps name ≡ false) (sym promises) unput))
    ∙ ap (λ (t : Declarations). declarations t.names (map (given (putting name c.args.node)) t.promises)) view
