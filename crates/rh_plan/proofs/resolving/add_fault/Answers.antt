use Rattle.rh_plan.proofs.NamedPlaces.{adds_fault}
use Rattle.rh_plan.proofs.resolving.add_fault.Goals as goal

pub returns-clause-ok : goal.returns-clause-ok
returns-clause-ok c =
    adds_fault c.args.plan.now c.args.named.now c.add.new.self c.args.fault.now c.in_ok-strike.strike c.in_ok-add.field-0 c.in_ok-strike.ensures.unrefused c.in_ok-strike.ensures.ok c.if-not-branch.false c.in_ok-add.ensures.answer c.in_ok-add.ensures.ok
