use Rattle.rh_schemes.proofs.Replaying.{AreRefusedAt}
use Rattle.rh_schemes.proofs.judging.replay_up_to.Given as goal

abbrev pub invariant-loop-k : goal.invariant-loop-k
invariant-loop-k g l = AreRefusedAt l.plan l.faults l.node (g.I.Inputs.lists l.inputs) l.k l.trials
