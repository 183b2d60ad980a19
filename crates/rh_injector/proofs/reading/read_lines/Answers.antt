use Rattle.std.proofs.Common.{arith, subst, List, ℕ, ◌∷◌, []}
use Rattle.rh_injector.proofs.FaultAnswers.{refused_text}
use Rattle.rh_injector.proofs.FaultPrefixes.{begun-line, begun-end, number-le}
use Rattle.rh_injector.specs.ReaderStates.{IsBegun}
use Rattle.rh_injector.proofs.reading.read_lines.Goals as goal
use Rattle.rh_injector.proofs.reading.read_lines.Goals.{In-Some, In_default}

-- a line is left
begun : (c : In-Some) → IsBegun c.args.bytes.now c.loop-line.number (c.in-Some.line.bytes.now ∷ c.next.new.self) c.loop-line.reader
begun c = subst (λ (ls : List (List ℕ)). IsBegun c.args.bytes.now c.loop-line.number ls c.loop-line.reader) c.in-Some.ensures.line c.loop-line.invariant

pub overflow_add-number : goal.overflow_add-number
overflow_add-number c = omega (arith, number-le _ _ _ _ _ (begun (goal.at.overflow_add-number c).In-Some))

pub loop-line-preserved : goal.loop-line-preserved
loop-line-preserved c =
    begun-line c.args.bytes.now c.loop-line.number c.in-Some.line.bytes.now c.next.new.self c.loop-line.reader _ (begun (goal.at.loop-line-preserved c).In-Some) c.in_default-line.ensures.ok

pub returns-in-Err-clause-refused : goal.returns-in-Err-clause-refused
returns-in-Err-clause-refused c =
    rw c.at_line.ensures (refused_text c.args.bytes.now c.loop-line.number c.in-Some.line.bytes.now c.next.new.self c.loop-line.reader c.in-Err.fault (begun (goal.at.returns-in-Err-clause-refused c).In-Some) c.in-Err.ensures.refused)

pub loop-line-init : goal.loop-line-init
loop-line-init c = c.requires.begun

-- no line is left
ended : (c : In_default) → IsBegun c.args.bytes.now c.loop-line.number [] c.loop-line.reader
ended c = subst (λ (ls : List (List ℕ)). IsBegun c.args.bytes.now c.loop-line.number ls c.loop-line.reader) c.in_default.ensures.line.0 c.loop-line.invariant

pub returns-clause-ok : goal.returns-clause-ok
returns-clause-ok c = begun-end c.args.bytes.now c.loop-line.number c.loop-line.reader (ended (goal.at.returns-clause-ok c).In_default)
