use Rattle.rh_plain.proofs.ShownPairs.{so_far_zero}
use Rattle.rh_plain.proofs.progress.Progress.new.Goals as goal

pub returns : goal.returns
returns c faults = so_far_zero c.args.plan.now faults _ _ c.promises.result c.in_ok-new-2.field-0 c.in_ok-with_capacity.ensures.items c.in_ok-new.ensures c.promises.ensures.count c.in_ok-new-2.ensures
