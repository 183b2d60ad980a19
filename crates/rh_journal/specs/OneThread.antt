-- The journal of one thread that runs the nodes in number order.
use Rattle.std.specs.Prelude.{ℕ, zero, suc, ◌+◌, ◌==◌, ◌++◌, List, [], ◌∷◌, Option, Some, None, if◌then◌else◌, length}
use Rattle.rh_plan.specs.Plans.{PlanData}
use Rattle.rh_journal.specs.declared.event.Event.{Event}
use Rattle.rh_journal.specs.declared.event.Event.TheVariants.{Free}
use Rattle.rh_journal.specs.declared.event.Entry.{Entry}
use Rattle.rh_journal.specs.Events.{released, is_release, times}
use Rattle.rh_journal.specs.Own.{Run, own_events, report_events, references_of}

-- the free of a promise, where these events have as many releases of it as it has references
abbrev pub freed_after : PlanData → List Event → Option ℕ → List Event
freed_after plan seen None = []
freed_after plan seen (Some q) = if times (is_release q) seen == references_of plan q then Free q ∷ [] else []

-- The events after those seen, each free directly behind the release that completes the references of its promise.
abbrev pub with_frees : PlanData → List Event → List Event → List Event
with_frees plan seen [] = []
with_frees plan seen (x ∷ xs) = x ∷ (freed_after plan (seen ++ x ∷ []) (released x) ++ with_frees plan (seen ++ x ∷ []) xs)

-- the events of the first n nodes, node by node
unfoldable pub events_below : Run → ℕ → List Event
events_below run zero = []
events_below run (suc n) = events_below run n ++ own_events run n

-- the events of all nodes, and then the report's
abbrev pub all_events : Run → List Event
all_events run = events_below run (length run.plan.nodes) ++ report_events run

-- the entry of an event on the one thread
abbrev pub entry_at : ℕ → Event → Entry
entry_at n x = record { number = n; worker = 0; event = x }

-- the entries of these events, the first of which has this number
abbrev pub numbered_from : ℕ → List Event → List Entry
numbered_from n [] = []
numbered_from n (x ∷ xs) = entry_at n x ∷ numbered_from (n + 1) xs

abbrev pub one_thread : Run → List Entry
one_thread run = numbered_from 0 (with_frees run.plan [] (all_events run))
