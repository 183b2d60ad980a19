use Rattle.std.proofs.Common.{rules}
use Rattle.rh_injector.proofs.printing.print_fault.Goals as goal

pub returns-clause-ok : goal.returns-clause-ok
returns-clause-ok = search rules
