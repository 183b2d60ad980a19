use Rattle.std.proofs.Common.{◌≡◌, replicate}
use Rattle.rh_plan.specs.declared.outcome.Verdict.TheVariants.{Failed}
use Rattle.rh_report.proofs.told.all_failed.Given as goal

abbrev pub invariant-loop : goal.invariant-loop
invariant-loop l = l.verdicts.items ≡ replicate l.counter Failed
