use Rattle.std.proofs.Common.{ℕ, Option, subst}
use Rattle.rh_schemes.specs.Checking.{IsFirstFailingAt}
use Rattle.rh_schemes.proofs.judging.tried.Goals as goal

-- the checks are asked on the awaited words as they are
pub failing-requires-clause-task : goal.failing-requires-clause-task
failing-requires-clause-task g c = c.requires.task

pub returns-in-None : goal.returns-in-None
returns-in-None g c = (
  c.in_ok-buffer.ensures.made,
  subst (λ (o : Option ℕ). IsFirstFailingAt c.args.plan.now c.args.node (g.I.Inputs.lists c.args.inputs.now) c.in_ok-buffer.buffer o) c.in-None.is c.failing.ensures,
)

pub returns-in-Some : goal.returns-in-Some
returns-in-Some g c = (
  c.in_ok-buffer.buffer,
  c.in_ok-buffer.ensures.made,
  subst (λ (o : Option ℕ). IsFirstFailingAt c.args.plan.now c.args.node (g.I.Inputs.lists c.args.inputs.now) c.in_ok-buffer.buffer o) c.in-Some.is c.failing.ensures,
)
