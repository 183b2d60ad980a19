use Rattle.std.proofs.lemmas.Result.{IfOk-weaker}
use Rattle.rh_schemes.proofs.Tasks.{plain_judges}
use Rattle.rh_schemes.proofs.judging.plainly.Goals as goal

pub returns : goal.returns
returns g c =
    IfOk-weaker c.accepted.result _ _
    (λ r told. plain_judges c.args.plan.now c.args.faults.now c.args.node (g.I.Inputs.lists c.args.inputs.now) c.in_ok-buffer.buffer r c.requires.scheme c.in_ok-buffer.ensures.made told) c.accepted.ensures
