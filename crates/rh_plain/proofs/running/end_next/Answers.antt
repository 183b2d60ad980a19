use Rattle.rh_plain.proofs.Steps.{before_node}
use Rattle.rh_plain.proofs.running.end_next.Goals as goal

pub end_node-requires-clause-before : goal.end_node-requires-clause-before
end_node-requires-clause-before g c =
    before_node c.args.plan.now c.args.faults.now c.args.node c.args.progress.now c.verdicts-verdicts.result.now c.values-values.result.now c.nodes-known.ensures.lawful c.requires.below c.verdicts-verdicts.ensures c.values-values.ensures
