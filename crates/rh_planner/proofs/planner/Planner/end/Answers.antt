use Rattle.std.proofs.Common.{◌∙◌, ◌++◌, Option, ℕ, sym, ap, refl, length}
use Rattle.std.specs.Prelude.{option_to_list}
use Rattle.rh_sparse.specs.Matrix.{MatrixData}
use Rattle.rh_planner.specs.Planned.{look_above}
use Rattle.rh_planner.specs.States.{facts_of, nodes_ended}
use Rattle.rh_planner.proofs.Closing.{judges_closed, reason_closed, reason_uncorrected}
use Rattle.rh_planner.proofs.Refusing.{judges_refused}
use Rattle.rh_planner.proofs.planner.Planner.end.Goals as goal

pub returns-then-lacks_product_check : goal.returns-then-lacks_product_check
returns-then-lacks_product_check c = judges_refused _ _ _ _ refl (reason_uncorrected (look_above c.args.self.now.handed) (facts_of c.args.self.now) (sym c.lacks_product_check.ensures ∙ c.if-lacks_product_check.true))

pub returns-in-Some : goal.returns-in-Some
returns-in-Some c =
    let old = c.args.self.now in
    judges_refused _ _ _ c.in-Some.reason refl (reason_closed (look_above old.handed) (facts_of old) c.pop-block.result c.pop-block.new.self c.pop-block.ensures (sym c.lacks_product_check.ensures ∙ c.if-lacks_product_check.false) ∙ sym c.in_ok-reason.ensures.reason ∙ c.in-Some.is)

pub returns : goal.returns
returns c =
    let old = c.args.self.now in
    let e = c.in_ok-reason.ensures in
    let clear = c.clear.ensures in
    let closed = c.in_ok-close_matrix.ensures ∙ ap (λ (b : Option MatrixData). old.closed ++ option_to_list b) c.take.ensures.value in
    let nodes = e.nodes c.in_default.is ∙ ap (λ (g : Option ℕ). old.nodes.items ++ nodes_ended old.task old.declared.promises (length old.nodes.items) g c.pop-block.result) c.group-group.ensures in
    judges_closed old _ c.pop-block.result c.pop-block.new.self c.pop-block.ensures (sym c.lacks_product_check.ensures ∙ c.if-lacks_product_check.false) (sym c.in_default.is ∙ e.reason) refl (e.declared c.in_default.is) refl closed c.take.ensures.after refl nodes
    (record { inputs = clear.inputs; locals = clear.locals; drops = clear.drops; body = clear.body; scheme = clear.scheme; checks = clear.checks })
