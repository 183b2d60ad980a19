-- What an outcome tells of a run.
use Rattle.std.specs.Prelude.{ℕ, ◌≡◌, List, true, map, unwrap_or, []}
use Rattle.std.specs.List.{AllByRecursion, filter}
use Rattle.rh_plan.specs.Results.{value_of}
use Rattle.rh_journal.specs.declared.event.Entry.{Entry}
use Rattle.rh_plan.specs.Plans.{PlanData}
use Rattle.rh_plan.specs.Lawful.{IsLawfulPlan}
use Rattle.rh_journal.specs.Events.{events, is_by, is_someones}
use Rattle.rh_journal.specs.Own.{Run, own_events, shown_promises}
use Rattle.rh_journal.specs.OneThread.{one_thread}

-- the entries of a node
abbrev pub entries_of : PlanData → ℕ → List Entry → List Entry
entries_of plan v j = filter (λ e. is_by plan v e.event) j

-- the words of the shown promises that have a value, in promise order
abbrev pub shown_words : Run → List (ℕ × List ℕ)
shown_words run = map (λ q. (q, unwrap_or (value_of run.plan run.faults q) [])) (shown_promises run)

-- The journal has all events of each node, in order, and no event that is nobody's, and the shown words are those of the run.
pub record Tells (run : Run) (j : List Entry) (shown : List (ℕ × List ℕ)) : Type 0 where
  pub someones : AllByRecursion (λ x. is_someones run.plan x ≡ true) (events j)
  pub own : (v : ℕ) → events (entries_of run.plan v j) ≡ own_events run v
  pub words : shown ≡ shown_words run

-- The journal of one thread tells the run.
abbrev pub OneThreadTells : Type 0
OneThreadTells = (run : Run) → IsLawfulPlan run.plan → Tells run (one_thread run) (shown_words run)
