use Rattle.rh_rules.proofs.LinearTerms.{AreWritten}
use Rattle.rh_rules.proofs.asking.sixteen_terms.Given as goal

abbrev pub invariant-loop-at : goal.invariant-loop-at
invariant-loop-at l = AreWritten l.terms l.inputs l.factors l.at
