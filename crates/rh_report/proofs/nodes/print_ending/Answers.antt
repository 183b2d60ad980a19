use Rattle.std.proofs.Common.{rules, append_assoc}
use Rattle.rh_report.specs.NodeLines.{ending_text}
use Rattle.rh_report.proofs.nodes.print_ending.Goals as goal

pub returns-in-Corrected : goal.returns-in-Corrected
unfolding ending_text
returns-in-Corrected = search (append_assoc, rules)
