use Rattle.std.proofs.Common.{subst, ◌∙◌, sym}
use Rattle.rh_words.specs.declared.reason.Reason.{Reason}
use Rattle.rh_injector.specs.FaultTexts.{FirstBad}
use Rattle.rh_injector.proofs.FaultAnswers.{out_of_false}
use Rattle.rh_injector.proofs.FaultPrefixes.{header-bad, no_lines-bad}
use Rattle.rh_injector.proofs.reading.read_faults.Goals as goal

pub returns-in_default-clause-refused : goal.returns-in_default-clause-refused
returns-in_default-clause-refused c = no_lines-bad c.args.bytes.now (sym c.of-lines.ensures ∙ c.in_default.ensures.line.0)

pub returns-then-not-is_header-clause-refused : goal.returns-then-not-is_header-clause-refused
returns-then-not-is_header-clause-refused c =
    subst (λ (r : Reason). FirstBad c.args.bytes.now 1 r) (sym c.header_reason.ensures)
    (header-bad c.args.bytes.now c.in-Some.first.bytes.now c.next.new.self (sym c.of-lines.ensures ∙ c.in-Some.ensures.line) (out_of_false _ _ c.is_header.ensures c.if-not-is_header.true))
