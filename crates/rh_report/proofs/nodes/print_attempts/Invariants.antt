use Rattle.std.proofs.Common.{◌≡◌, ◌++◌, drop}
use Rattle.rh_report.specs.NodeLines.{attempt_lines}
use Rattle.rh_report.proofs.nodes.print_attempts.Given as goal

abbrev pub invariant-loop-attempt : goal.invariant-loop-attempt
invariant-loop-attempt l = l.into ++ attempt_lines l.attempt (drop l.attempt l.trials) ≡ l.fn.into ++ attempt_lines 0 l.trials
