use Rattle.std.proofs.Common.{sym}
use Rattle.rh_attempt.proofs.Faults.{faulted_none, faulted_more}
use Rattle.rh_attempt.proofs.faulting.made_local.Goals as goal

pub loop-strike-init : goal.loop-strike-init
loop-strike-init c = sym (faulted_none c.args.local c.args.words)

pub loop-strike-preserved : goal.loop-strike-preserved
loop-strike-preserved c =
    faulted_more c.args.strikes.now c.args.local c.args.words c.loop-strike.altered c.apply.new.words c.loop-strike.strike-index _ c.requires c.loop-strike-test.true c.loop-strike.invariant c.apply.ensures
