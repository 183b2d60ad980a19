use Rattle.rh_plain.proofs.NodeEnds.{few_awaits}
use Rattle.rh_plain.proofs.running.cause_of.Goals as goal

pub are_present-present-requires : goal.are_present-present-requires
are_present-present-requires c = few_awaits c.args.plan.now c.args.node c.awaits-awaits.result.now c.nodes-known.ensures.lawful c.requires c.awaits-awaits.ensures
