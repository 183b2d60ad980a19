-- How long a promise has references on one thread.
use Rattle.std.specs.Prelude.{ℕ, ◌≡◌, ◌<◌, Some, true, length, slice_get}
use Rattle.rh_rules.specs.declared.node.Node.{Node}
use Rattle.rh_rules.specs.Tables.{is_in}
use Rattle.rh_plan.specs.Lawful.{IsLawfulPlan}
use Rattle.rh_journal.specs.Events.{is_release, times}
use Rattle.rh_journal.specs.Own.{Run, is_shown_at, references_of}
use Rattle.rh_journal.specs.OneThread.{events_below}

-- A promise has a reference left before each node that awaits it, and before the report where that shows it.
pub record HasReferencesLeft (run : Run) (q : ℕ) : Type 0 where
  pub awaited : (v : ℕ) (node : Node) → slice_get run.plan.nodes v ≡ Some node → is_in q node.awaits ≡ true → times (is_release q) (events_below run v) < references_of run.plan q
  pub shown : is_shown_at run.plan q ≡ true → times (is_release q) (events_below run (length run.plan.nodes)) < references_of run.plan q

abbrev pub ReferencesAreLeft : Type 0
ReferencesAreLeft = (run : Run) → IsLawfulPlan run.plan → (q : ℕ) → HasReferencesLeft run q
