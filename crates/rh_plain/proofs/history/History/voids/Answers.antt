use Rattle.std.proofs.Common.{refl}
use Rattle.rh_journal.specs.declared.event.Event.TheVariants.{Void}
use Rattle.rh_plain.proofs.Histories.{draws_more, draws_whole}
use Rattle.rh_plain.proofs.history.History.voids.Goals as goal

pub loop-promise-preserved : goal.loop-promise-preserved
loop-promise-preserved c =
    draws_more c.args.plan.now c.args.self.now c.loop-promise.self c.draw.new.self Void c.args.promises.now c.loop-promise.promise-index _ 0 c.loop-promise-test.true refl c.loop-promise.invariant c.in_ok-draw.ensures

pub returns : goal.returns
returns c = draws_whole c.args.plan.now c.args.self.now c.loop-promise.self Void c.args.promises.now c.loop-promise.promise-index c.loop-promise-test.false c.loop-promise.invariant
