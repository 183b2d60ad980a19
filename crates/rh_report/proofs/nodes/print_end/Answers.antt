use Rattle.std.proofs.Common.{◌++◌, ◌∙◌, ℕ, List, ap}
use Rattle.std.proofs.lemmas.Result.{on_ok_weaker}
use Rattle.rh_report.proofs.Pieces.{one_accepted}
use Rattle.rh_report.proofs.nodes.print_end.Goals as goal

pub returns-then-is_one_accepted : goal.returns-then-is_one_accepted
returns-then-is_one_accepted c =
    let whole = one_accepted c.args.plan.now c.args.verdict c.args.trials.now (c.is_first_accepted.ensures c.if-is_first_accepted.true) (c.is_one_accepted.ensures c.if-is_one_accepted.true) in
    on_ok_weaker c.append.result (λ is. is ∙ ap (λ (l : List ℕ). c.args.into.now ++ l) whole) c.append.ensures.ok
