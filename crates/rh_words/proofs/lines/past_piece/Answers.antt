use Rattle.std.proofs.Common.{sym, ◌∙◌}
use Rattle.rh_words.proofs.Cutting.{printable_more}
use Rattle.rh_words.proofs.lines.past_piece.Goals as goal

pub returns-then-is_printable-clause-printable : goal.returns-then-is_printable-clause-printable
returns-then-is_printable-clause-printable c = printable_more c.args.bytes.now c.args.at c.args.piece c.requires.printable (sym c.is_printable.ensures ∙ c.if-is_printable.true)
