use Rattle.std.proofs.Common.{arith}
use Rattle.std.proofs.lemmas.Grind.{common_steps}
use Rattle.rh_plan.proofs.EdgeLists.{edges_next}
use Rattle.rh_plan.proofs.edges.edges_of.Goals as goal

pub loop-to-preserved : goal.loop-to-preserved
loop-to-preserved c = edges_next c.args.promises.now c.args.nodes.now c.loop-to.to c.index-nodes-to.result c.index-nodes-to.result c.loop-to.edges.items c.push_edges.new.edges.items _ c.loop-to-test.true c.index-nodes-to.is c.in_ok-push_edges.ensures c.loop-to.invariant

pub returns : goal.returns
returns = grind (arith, common_steps)
