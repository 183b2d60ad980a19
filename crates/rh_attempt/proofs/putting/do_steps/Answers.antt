use Rattle.std.proofs.Common.{◌+◌, ◌∙◌, ◌∷◌, ◌++◌, List, ap, sym, drop, subst}
use Rattle.std.proofs.lemmas.List.{drop_more}
use Rattle.rh_rules.specs.declared.body.Step.{Step}
use Rattle.rh_rules.specs.Bodies.{drops_of}
use Rattle.rh_plan.specs.Buffers.{puts_of}
use Rattle.rh_attempt.specs.Attempting.{AreAsBefore}
use Rattle.rh_attempt.proofs.Puts.{filled_more, rest_is}
use Rattle.rh_attempt.proofs.putting.do_steps.Goals as goal

pub loop-at-preserved : goal.loop-at-preserved
loop-at-preserved c =
    let steps = c.args.steps.now in
    let i = c.loop-at.at in
    let step = c.index-steps-at.result in
    let rest = subst (λ (l : List Step). AreAsBefore l c.loop-at.locals.items c.do_step.new.locals.items) (rest_is steps i) c.in_ok-do_step.ensures.locals in
    filled_more c.loop-at.locals.items c.do_step.new.locals.items c.loop-at.buffer c.do_step.new.buffer step (drop i steps) (drop (i + 1) steps) (c.args.buffer.now.puts ++ puts_of c.args.locals.now.items steps) (c.args.buffer.now.drops ++ drops_of steps)
    (drop_more steps i step c.loop-at-test.true ∙ ap (λ (s : Step). s ∷ drop (i + 1) steps) (sym c.index-steps-at.is)) c.loop-at.invariant c.in_ok-do_step.ensures.buffer rest
