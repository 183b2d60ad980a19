use Rattle.std.proofs.lemmas.Result.{IfOk-weaker}
use Rattle.rh_schemes.proofs.Tasks.{replicate_judges}
use Rattle.rh_schemes.proofs.judging.with_third.Goals as goal

pub returns : goal.returns
returns g c =
    IfOk-weaker c.third_decides.result _ _
    (λ r is. replicate_judges c.args.plan.now c.args.faults.now c.args.node (g.I.Inputs.lists c.args.inputs.now) c.args.first c.args.second c.in_ok-third.third r c.requires.scheme c.requires.made c.requires.made_again c.in_ok-third.ensures.made is)
    c.third_decides.ensures
