use Rattle.std.proofs.Common.{rules, append_assoc}
use Rattle.rh_plan.proofs.edges.push_start_edges.Goals as goal

pub returns : goal.returns
returns = search (append_assoc, rules)
