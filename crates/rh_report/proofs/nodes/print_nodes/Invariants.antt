use Rattle.std.proofs.Common.{◌≡◌, ◌++◌}
use Rattle.std.specs.List.{flat_map, range_with_len}
use Rattle.rh_report.specs.NodeLines.{node_lines}
use Rattle.rh_report.proofs.nodes.print_nodes.Given as goal

abbrev pub invariant-loop-node : goal.invariant-loop-node
invariant-loop-node l = l.into ≡ l.fn.into ++ flat_map (node_lines l.plan l.told) (range_with_len 0 l.node)
