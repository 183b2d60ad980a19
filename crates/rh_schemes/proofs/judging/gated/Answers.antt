use Rattle.std.proofs.lemmas.Result.{IfOk-weaker}
use Rattle.rh_schemes.proofs.Checkings.{attempt_fits}
use Rattle.rh_schemes.proofs.judging.gated.Goals as goal

pub returns-clause-fits : goal.returns-clause-fits
returns-clause-fits g c =
    IfOk-weaker c.attempt-buffer.result _ _
    (λ b is. attempt_fits c.args.plan.now c.args.faults.now c.args.node c.args.k (g.I.Inputs.lists c.args.inputs.now) b c.nodes-known.ensures.lawful c.requires is) c.attempt-buffer.ensures
