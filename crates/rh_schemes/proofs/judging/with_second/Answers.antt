use Rattle.std.proofs.Common.{◌∙◌, sym}
use Rattle.std.proofs.lemmas.Result.{IfOk-weaker}
use Rattle.rh_schemes.proofs.Replicas.{two_agree}
use Rattle.rh_schemes.proofs.Tasks.{two_judge}
use Rattle.rh_schemes.proofs.judging.with_second.Goals as goal

pub returns-then-same : goal.returns-then-same
returns-then-same g c =
    let a = c.args.first in
    let b = c.in_ok-second.second in
    IfOk-weaker c.first_and_second.result _ _
    (λ r is. two_judge c.args.plan.now c.args.faults.now c.args.node (g.I.Inputs.lists c.args.inputs.now) a b r c.requires.scheme c.requires.made c.in_ok-second.ensures.made
    (λ third. is ∙ sym (two_agree a b third (sym c.same.ensures.value ∙ c.if-same.true))))
    c.first_and_second.ensures
