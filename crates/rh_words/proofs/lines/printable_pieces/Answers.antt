use Rattle.std.proofs.Common.{arith, sym, ◌∙◌}
use Rattle.rh_words.proofs.Cutting.{printable_more}
use Rattle.rh_words.proofs.lines.printable_pieces.Goals as goal

pub loop-at-preserved : goal.loop-at-preserved
loop-at-preserved c = record {
  within = omega arith;
  printable = printable_more c.args.bytes.now c.loop-at.at 16 c.loop-at.invariant.printable (sym c.is_printable.ensures ∙ c.if-not-is_printable.false);
}
