use Rattle.std.proofs.Common.{arith, length}
use Rattle.rh_words.proofs.Cutting.{words_of-at, past_start}
use Rattle.rh_words.proofs.lines.word_end.Goals as goal

pub returns-then-line-at-eq32-clause-words : goal.returns-then-line-at-eq32-clause-words
returns-then-line-at-eq32-clause-words c = words_of-at _ _ _ (past_start c.args.line.now c.args.from c.loop-at.at (omega arith) c.requires.begins c.if-line-at-eq32.true) (omega arith) c.loop-at.invariant (λ _. c.if-line-at-eq32.true)

pub returns-clause-words : goal.returns-clause-words
returns-clause-words c = words_of-at c.args.line.now c.args.from (length c.args.line.now) (omega arith) (omega arith) (λ k a b. c.loop-at.invariant k a (omega arith)) (λ past. absurd (omega arith))
