use Rattle.std.proofs.Common.{arith}
use Rattle.rh_report.proofs.Lines.{bit_more, bit_small}
use Rattle.rh_report.specs.Totals.{is_put_at}
use Rattle.rh_report.proofs.totals.put_count.Goals as goal

pub loop-promise-preserved : goal.loop-promise-preserved
loop-promise-preserved c =
    let small = bit_small c.is_put.result c.from-puts.result c.from-puts.ensures in
    let few = c.loop-promise.invariant.few in
    record {
      counted = bit_more (is_put_at c.args.plan.now c.args.told.now) c.loop-promise.promise c.loop-promise.puts c.is_put.result c.from-puts.result c.loop-promise.invariant.counted c.is_put.ensures c.from-puts.ensures;
      few = omega (arith, small, few);
    }
