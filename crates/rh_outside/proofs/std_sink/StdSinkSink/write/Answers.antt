use Rattle.std.proofs.Common.{rules}
use Rattle.rh_outside.proofs.std_sink.StdSinkSink.write.Goals as goal

pub returns-in-Ok-clause-answer : goal.returns-in-Ok-clause-answer
returns-in-Ok-clause-answer = search rules
