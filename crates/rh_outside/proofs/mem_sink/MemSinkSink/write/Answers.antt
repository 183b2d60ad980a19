use Rattle.std.proofs.Common.{rules}
use Rattle.rh_outside.proofs.mem_sink.MemSinkSink.write.Goals as goal

pub returns-clause-answer : goal.returns-clause-answer
returns-clause-answer = search rules
