use Rattle.rh_plain.proofs.Given.{given_more}
use Rattle.rh_plain.proofs.values.Values.give_all.Goals as goal

pub loop-promise-preserved : goal.loop-promise-preserved
loop-promise-preserved c = given_more c.loop-promise.yielded c.in-Some.field-0 c.args.self.now c.loop-promise.self c.give.new.self c.loop-promise.invariant c.give.ensures
