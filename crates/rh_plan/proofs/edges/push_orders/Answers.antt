use Rattle.rh_plan.specs.Plans.{order_edge}
use Rattle.rh_plan.proofs.EdgeLists.{pushed_more, pushed_all}
use Rattle.rh_plan.proofs.edges.push_orders.Goals as goal

pub loop-from-preserved : goal.loop-from-preserved
loop-from-preserved c = pushed_more (order_edge c.args.to) c.args.sources.now c.loop-from.from-index 0 c.args.edges.now.items c.loop-from.edges.items c.push.new.self.items c.loop-from-test.true c.in_ok-push.ensures.items c.loop-from.invariant

pub returns : goal.returns
returns c = pushed_all (order_edge c.args.to) c.args.sources.now c.loop-from.from-index c.args.edges.now.items c.loop-from.edges.items c.loop-from-test.false c.loop-from.invariant
