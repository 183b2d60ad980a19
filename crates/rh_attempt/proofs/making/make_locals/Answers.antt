use Rattle.std.proofs.Common.{◌+◌, ◌∙◌, ◌∷◌, ap, sym, drop}
use Rattle.std.proofs.lemmas.List.{drop_more}
use Rattle.rh_rules.specs.declared.body.Step.{Step}
use Rattle.rh_plan.specs.Buffers.{locals_from}
use Rattle.rh_attempt.proofs.Locals.{made_more}
use Rattle.rh_attempt.proofs.making.make_locals.Goals as goal

pub loop-step-preserved : goal.loop-step-preserved
loop-step-preserved c =
    let steps = c.args.steps.now in
    let i = c.loop-step.step-index in
    let step = c.step-item.result in
    made_more c.args.plan.now c.args.strikes.now c.loop-step.locals.items c.make_local.new.locals.items step (drop i steps) (drop (i + 1) steps)
    (locals_from c.args.plan.now c.args.strikes.now c.args.locals.now.items steps)
    (drop_more steps i step c.loop-step-test.true ∙ ap (λ (s : Step). s ∷ drop (i + 1) steps) (sym c.step-item.is)) c.loop-step.invariant c.in_ok-make_local.ensures
