use Rattle.rh_report.specs.NodeLines.{node_lines}
use Rattle.rh_report.proofs.Lines.{lines_more}
use Rattle.rh_report.proofs.nodes.print_nodes.Goals as goal

pub loop-node-preserved : goal.loop-node-preserved
loop-node-preserved c = lines_more (node_lines c.args.plan.now c.args.told.now) c.loop-node.node c.args.into.now c.loop-node.into c.print_node.new.into c.loop-node.invariant c.in_ok-print_node.ensures
