-- What a report tells of what kept within its fault budgets.
use Rattle.std.specs.Prelude.{ℕ, ◌≡◌, List, [], Option, Some, None, slice_index_or}
use Rattle.std.specs.Option.{option_map}
use Rattle.rh_injector.specs.declared.faults.Strike.{Strike}
use Rattle.rh_rules.specs.Lawful.{putter_of}
use Rattle.rh_plan.specs.declared.outcome.Verdict.{Verdict}
use Rattle.rh_plan.specs.declared.outcome.Verdict.TheVariants.{Failed}
use Rattle.rh_plan.specs.Plans.{PlanData}
use Rattle.rh_plan.specs.Lawful.{IsLawfulPlan}
use Rattle.rh_plan.specs.Results.{ending_of}
use Rattle.rh_plan.specs.Budgets.{DependsOn, IsWithinBudget}
use Rattle.rh_journal.specs.Own.{run_of}
use Rattle.rh_journal.specs.Tells.{shown_words}
use Rattle.rh_journal.specs.ShownWords.{words_with}
use Rattle.rh_report.specs.Tables.{tables_of}
use Rattle.rh_report.specs.PromiseLines.{is_temp_at, state_at, state_text}

-- the node and all that it depends on are within their fault budgets
abbrev pub KeepsWithin : PlanData → List Strike → ℕ → Type 0
KeepsWithin plan faults v = (u : ℕ) → DependsOn plan v u → IsWithinBudget plan faults u

-- how a report tells that a node ended
abbrev pub ending_told : PlanData → List Strike → ℕ → Verdict
ending_told plan faults v = slice_index_or (tables_of plan faults).verdicts v Failed

-- the words that a report shows of a promise, where it shows some
abbrev pub words_shown : PlanData → List Strike → ℕ → Option (List ℕ)
words_shown plan faults q = words_with q (shown_words (run_of plan faults))

-- The report tells of a promise of the node v what it tells without faults, but for the number of the accepted attempt: it is put exactly
-- where it is put without faults, and it is shown with its fault-free words.
pub record TellsFaultFree (plan : PlanData) (faults : List Strike) (v q : ℕ) : Type 0 where
  pub words : words_shown plan faults q ≡ words_shown plan [] q
  pub attempt : ℕ
  pub state : state_at plan (tables_of plan faults) (shown_words (run_of plan faults)) q
      ≡ state_text plan (is_temp_at plan q) (words_shown plan [] q) (option_map (λ k. attempt) (slice_index_or (tables_of plan []).puts q None)) (Some v)

-- A node that keeps within is told to end as without faults, a scope with its three numbers, and its promises are told as without faults.
pub record IsToldFaultFree (plan : PlanData) (faults : List Strike) (v : ℕ) : Type 0 where
  pub ending : ending_of (ending_told plan faults v) ≡ ending_of (ending_told plan [] v)
  pub promises : (q : ℕ) → putter_of plan.promises q ≡ Some v → TellsFaultFree plan faults v q

abbrev pub ReportsAreFaultFree : Type 0
ReportsAreFaultFree = (plan : PlanData) → IsLawfulPlan plan → (faults : List Strike) (v : ℕ) → KeepsWithin plan faults v → IsToldFaultFree plan faults v
