use Rattle.std.proofs.Common.{arith}
use Rattle.std.proofs.lemmas.List.{take_rest}
use Rattle.rh_outside.proofs.Appending.{Appends-more}
use Rattle.rh_outside.proofs.sink.write_all.Goals as goal

pub loop-at-preserved : goal.loop-at-preserved
loop-at-preserved g c = record {
  within = grind (arith, c.in-Ok.ensures.answer.within);
  taken = Appends-more (g.O.Sink.state c.args.out.now).taken _ _ c.args.bytes.now c.loop-at.at c.in-Ok.count c.loop-at.invariant.taken (rw take_rest at c.in-Ok.ensures.answer.taken);
  count = omega (arith, c.in-Ok.ensures.count);
}
