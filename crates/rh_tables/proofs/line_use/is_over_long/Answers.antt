use Rattle.std.proofs.Common.{rules}
use Rattle.std.proofs.lemmas.Bool.Decides.{nat_tests}
use Rattle.rh_tables.proofs.line_use.is_over_long.Goals as goal

pub returns : goal.returns
returns = search (nat_tests, rules)
