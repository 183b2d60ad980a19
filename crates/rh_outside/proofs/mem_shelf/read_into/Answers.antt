use Rattle.std.proofs.Common.{rules}
use Rattle.rh_outside.proofs.mem_shelf.read_into.Goals as goal

pub returns-then-bytes-limit-clause-answer : goal.returns-then-bytes-limit-clause-answer
returns-then-bytes-limit-clause-answer = search rules
