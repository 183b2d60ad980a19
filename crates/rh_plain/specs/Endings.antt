-- How nodes ended, by the verdicts of the nodes so far.
use Rattle.std.specs.Prelude.{ℕ, List, Bool, true, false, Option, Some, None, length, slice_get}
use Rattle.std.specs.List.{filter}
use Rattle.rh_plan.specs.declared.outcome.Verdict.{Verdict}
use Rattle.rh_plan.specs.declared.outcome.Verdict.TheVariants.{Opened, Closed}
use Rattle.rh_plan.specs.declared.outcome.Cause.{Cause}
use Rattle.rh_plan.specs.Results.{is_opened}

abbrev pub verdict_passes : (Verdict → Bool) → Option Verdict → Bool
verdict_passes test None = false
verdict_passes test (Some verdict) = test verdict

-- whether the group opened, where there is one
abbrev pub has_opened : List Verdict → Option ℕ → Bool
has_opened verdicts None = true
has_opened verdicts (Some g) = verdict_passes is_opened (slice_get verdicts g)

-- how many of the nodes ended so
abbrev pub count_of : (Verdict → Bool) → List Verdict → List ℕ → ℕ
count_of test verdicts members = length (filter (λ u. verdict_passes test (slice_get verdicts u)) members)

-- how a group with this cause ends
abbrev pub group_verdict : Option Cause → Verdict
group_verdict None = Opened
group_verdict (Some c) = Closed c
