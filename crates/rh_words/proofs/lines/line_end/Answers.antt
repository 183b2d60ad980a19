use Rattle.std.proofs.Common.{arith}
use Rattle.rh_words.proofs.Cutting.{lines_of-at}
use Rattle.rh_words.proofs.lines.line_end.Goals as goal

pub returns-then-bytes-at-eq10-clause-line : goal.returns-then-bytes-at-eq10-clause-line
returns-then-bytes-at-eq10-clause-line c = λ h. lines_of-at _ _ _ h (omega arith) (omega arith) c.loop-at.invariant (λ _. c.if-bytes-at-eq10.true)

pub returns-clause-line : goal.returns-clause-line
returns-clause-line c = λ h. lines_of-at _ _ _ h (omega arith) (omega arith) (λ k a b. c.loop-at.invariant k a (omega arith)) (λ past. absurd (omega arith))
