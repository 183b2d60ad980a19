use Rattle.std.proofs.Common.{subst, sym, List}
use Rattle.rh_injector.proofs.FaultAnswers.{Reads-lawful}
use Rattle.rh_injector.proofs.FaultPrefixes.{begun-header}
use Rattle.rh_injector.specs.declared.fault_text.FaultLine.{FaultLine}
use Rattle.rh_injector.specs.ReaderStates.{IsBegun}
use Rattle.rh_injector.proofs.reading.read_body.Goals as goal

pub read_lines-requires-clause-begun : goal.read_lines-requires-clause-begun
read_lines-requires-clause-begun c =
    let below = c.requires.below in
    subst (λ (faults : List FaultLine). IsBegun c.args.bytes.now 2 c.args.below faults) (sym c.in_ok-reader.ensures) (begun-header c.args.bytes.now below.0 c.args.below below.2 below.1)

pub into_text-requires : goal.into_text-requires
into_text-requires c = Reads-lawful c.args.bytes.now _ c.in_ok-read_lines.ensures.ok
