use Rattle.std.proofs.Common.{◌∙◌, sym}
use Rattle.rh_planner.proofs.laws.a_text_is_planned_in_one_way.Goals as goal

pub returns : goal.returns
returns c = λ handed text ns ms ps qs xs ys a b. (a.nodes ∙ sym b.nodes, a.promises ∙ sym b.promises, a.matrices ∙ sym b.matrices)
