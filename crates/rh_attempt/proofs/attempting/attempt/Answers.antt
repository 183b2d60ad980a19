use Rattle.std.proofs.Common.{◌∙◌}
use Rattle.std.proofs.lemmas.Result.{IfOk-weaker}
use Rattle.rh_attempt.proofs.Faults.{read_apart}
use Rattle.rh_attempt.proofs.Locals.{puts_read}
use Rattle.rh_attempt.proofs.Attempts.{sound_here, attempted}
use Rattle.rh_attempt.proofs.attempting.attempt.Goals as goal

pub awaited_locals-requires : goal.awaited_locals-requires
awaited_locals-requires g c = record { apart = read_apart c.args.faults.now c.in_attempt-strikes.result.now c.args.node c.args.k c.as_slice-in_order.ensures.lawful c.in_attempt-strikes.ensures }

pub make_locals-requires-clause-apart : goal.make_locals-requires-clause-apart
make_locals-requires-clause-apart g c = read_apart c.args.faults.now c.in_attempt-strikes.result.now c.args.node c.args.k c.as_slice-in_order.ensures.lawful c.in_attempt-strikes.ensures

pub make_locals-requires-clause-sound : goal.make_locals-requires-clause-sound
make_locals-requires-clause-sound g c =
    sound_here c.args.plan.now c.in_attempt-strikes.result.now c.args.node (g.I.Inputs.lists c.args.inputs.now) c.in_ok-locals.locals.items c.steps-steps.result.now c.nodes-known.ensures.lawful c.requires
    (λ node at. c.steps-steps.ensures ∙ c.body.ensures node at) c.in_ok-locals.ensures

pub fill_buffer-requires : goal.fill_buffer-requires
fill_buffer-requires g c =
    let sound = sound_here c.args.plan.now c.in_attempt-strikes.result.now c.args.node (g.I.Inputs.lists c.args.inputs.now) c.in_ok-locals.locals.items c.steps-steps.result.now c.nodes-known.ensures.lawful c.requires
    (λ node at. c.steps-steps.ensures ∙ c.body.ensures node at) c.in_ok-locals.ensures in
    puts_read c.args.plan.now c.in_attempt-strikes.result.now c.in_ok-locals.locals.items c.make_locals.new.locals.items c.steps-steps.result.now sound c.in_ok-make_locals.ensures

pub returns : goal.returns
returns g c =
    IfOk-weaker c.fill_buffer.result _ _
    (λ buffer is. attempted c.args.plan.now c.args.faults.now c.in_attempt-strikes.result.now c.args.node c.args.k (g.I.Inputs.lists c.args.inputs.now) c.in_ok-locals.locals.items c.make_locals.new.locals.items c.steps-steps.result.now buffer
    (λ node at. c.steps-steps.ensures ∙ c.body.ensures node at) c.in_attempt-strikes.ensures c.in_ok-locals.ensures c.in_ok-make_locals.ensures is)
    c.fill_buffer.ensures
