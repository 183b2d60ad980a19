-- Whether a task failed, by what a journal tells.
use Rattle.std.proofs.Common.{◌≡◌, ◌∙◌, ◌||◌, ℕ, Bool, List, [], ◌∷◌, map, length, refl, ap, subst}
use Rattle.std.specs.List.{list_any}
use Rattle.rh_injector.specs.declared.faults.Strike.{Strike}
use Rattle.rh_plan.specs.declared.outcome.Verdict.{Verdict}
use Rattle.rh_plan.specs.Plans.{PlanData}
use Rattle.rh_plan.specs.Lawful.{IsLawfulPlan}
use Rattle.rh_plan.specs.Judging.{NodeResult}
use Rattle.rh_plan.specs.Results.{all_results, is_failed}
use Rattle.rh_journal.specs.declared.event.Entry.{Entry}
use Rattle.rh_journal.specs.Events.{events}
use Rattle.rh_journal.specs.Own.{run_of}
use Rattle.rh_journal.specs.Tells.{Tells}
use Rattle.rh_report.specs.Tables.{TableData}
use Rattle.rh_report.specs.Gathering.{HasGathered}
use Rattle.rh_report.proofs.Gathered.{gathered_whole}

any_verdict : (test : Verdict → Bool) (rs : List NodeResult) → list_any test (map (λ r. r.verdict) rs) ≡ list_any (λ r. test r.verdict) rs
any_verdict test [] = refl
any_verdict test (r ∷ rs) = ap (λ b. test r.verdict || b) (any_verdict test rs)

pub any_failed : (plan : PlanData) (faults : List Strike) (j entries : List Entry) (shown : List (ℕ × List ℕ)) (t : TableData) (verdicts : List Verdict) (failed : Bool)
    → IsLawfulPlan plan → Tells (run_of plan faults) j shown → entries ≡ j → HasGathered (length plan.nodes) (length plan.promises) (events entries) t
    → verdicts ≡ t.verdicts → failed ≡ list_any is_failed verdicts → failed ≡ list_any (λ r. is_failed r.verdict) (all_results plan faults)
any_failed plan faults j entries shown t verdicts failed lawful tells same gathered are is =
    let whole = gathered_whole plan faults j shown t lawful tells (subst (λ (l : List Entry). HasGathered (length plan.nodes) (length plan.promises) (events l) t) same gathered) in
    is ∙ ap (λ (l : List Verdict). list_any is_failed l) (are ∙ ap (λ (x : TableData). x.verdicts) whole) ∙ any_verdict is_failed (all_results plan faults)
