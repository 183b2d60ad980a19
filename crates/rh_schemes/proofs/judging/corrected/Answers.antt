use Rattle.std.proofs.lemmas.Result.{IfOk-weaker}
use Rattle.rh_schemes.proofs.Correctings.{restored_fits, none_corrected, some_corrected}
use Rattle.rh_schemes.proofs.judging.corrected.Goals as goal

pub returns-in-None : goal.returns-in-None
returns-in-None g c =
    IfOk-weaker c.failed.result _ _
    (λ r told. none_corrected c.args.plan.now c.args.node (g.I.Inputs.lists c.args.inputs.now) c.args.which c.args.buffer _ c.in_ok-word.word r c.in_ok-word.ensures c.in-None.is told) c.failed.ensures

pub checked_again-requires-clause-fits : goal.checked_again-requires-clause-fits
checked_again-requires-clause-fits g c =
    restored_fits c.args.plan.now c.args.node (g.I.Inputs.lists c.args.inputs.now) c.args.buffer _ c.in_ok-word.word c.in-Some.at c.requires.task c.requires.fits c.in_ok-word.ensures c.in-Some.is

pub returns-in-Some : goal.returns-in-Some
returns-in-Some g c =
    IfOk-weaker c.checked_again.result _ _
    (λ r told. some_corrected c.args.plan.now c.args.node (g.I.Inputs.lists c.args.inputs.now) c.args.which c.in-Some.at c.args.buffer _ c.in_ok-word.word r c.in_ok-word.ensures c.in-Some.is told) c.checked_again.ensures
