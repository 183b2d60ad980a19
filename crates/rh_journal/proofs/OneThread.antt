-- The journal of one thread tells the run.
use Rattle.std.proofs.Common.{◌≡◌, ℕ, zero, suc, ◌+◌, ◌==◌, ◌||◌, List, [], ◌∷◌, ◌++◌, Bool, true, false, cond, Option, Some, None, length, map, refl, ap, sym, ◌∙◌, subst}
use Rattle.std.specs.List.{AllByRecursion, filter}
use Rattle.std.specs.Option.{is_some}
use Rattle.rh_plan.specs.Plans.{PlanData}
use Rattle.rh_plan.specs.Lawful.{IsLawfulPlan}
use Rattle.rh_plan.proofs.Lists.{all_by}
use Rattle.rh_journal.specs.declared.event.Event.{Event}
use Rattle.rh_journal.specs.declared.event.Event.TheVariants.{Release, Free}
use Rattle.rh_journal.specs.declared.event.Entry.{Entry}
use Rattle.rh_journal.specs.Events.{node_of, is_by, is_reports, is_release, is_someones, freed, released, events, times}
use Rattle.rh_journal.specs.Own.{Run, own_events, report_events, shown_promises, references_of}
use Rattle.rh_journal.specs.Tells.{entries_of, OneThreadTells}
use Rattle.rh_journal.specs.OneThread.{freed_after, with_frees, events_below, all_events, numbered_from, one_thread}
use Rattle.rh_journal.proofs.Counts.{filter-map, all_append}
use Rattle.rh_journal.proofs.Freeing.{filter_freed}
use Rattle.rh_journal.proofs.Whole.{all_own, own_by, events_below-suc, events_below-zero, report_events-is}

pub events-numbered : (n : ℕ) (xs : List Event) → events (numbered_from n xs) ≡ xs
events-numbered n [] = refl
events-numbered n (x ∷ xs) = ap (λ (l : List Event). x ∷ l) (events-numbered (n + 1) xs)

-- the events of the entries that pass a test on events
pub events-filter : (f : Event → Bool) (j : List Entry) → events (filter (λ e. f e.event) j) ≡ filter f (events j)
events-filter f j = sym (filter-map f (λ (e : Entry). e.event) j)

-- of the journal's events those of a node are its own
pub thread_own : (run : Run) → IsLawfulPlan run.plan → (v : ℕ) → events (entries_of run.plan v (one_thread run)) ≡ own_events run v
thread_own run lawful v =
    events-filter (is_by run.plan v) (one_thread run)
    ∙ ap (filter (is_by run.plan v)) (events-numbered 0 (with_frees run.plan [] (all_events run)))
    ∙ filter_freed (is_by run.plan v) (λ q. refl) run.plan [] (all_events run)
    ∙ all_own run lawful v

-- an event of a node is somebody's
of_node_someones : (plan : PlanData) (v : ℕ) (x : Event) → node_of plan x ≡ Some v → is_someones plan x ≡ true
of_node_someones plan v x is = ap (λ (o : Option ℕ). is_some o || (is_reports x || is_some (freed x))) is

below_someones : (run : Run) → IsLawfulPlan run.plan → (n : ℕ) → AllByRecursion (λ x. is_someones run.plan x ≡ true) (events_below run n)
below_someones run lawful zero = subst (AllByRecursion (λ x. is_someones run.plan x ≡ true)) (sym (events_below-zero run)) tt
below_someones run lawful (suc n) =
    subst (AllByRecursion (λ x. is_someones run.plan x ≡ true)) (sym (events_below-suc run n))
    (all_append (λ x. is_someones run.plan x ≡ true) (events_below run n) (own_events run n) (below_someones run lawful n)
    (all_by (λ x. node_of run.plan x ≡ Some n) (λ x. is_someones run.plan x ≡ true) (own_events run n) (of_node_someones run.plan n) (own_by run lawful n)))

report_someones : (plan : PlanData) (qs : List ℕ) → AllByRecursion (λ x. is_someones plan x ≡ true) (map (λ q. Release q None) qs)
report_someones plan [] = tt
report_someones plan (q ∷ qs) = (refl, report_someones plan qs)

freed_someones : (plan : PlanData) (seen : List Event) (o : Option ℕ) → AllByRecursion (λ x. is_someones plan x ≡ true) (freed_after plan seen o)
freed_someones plan seen None = tt
freed_someones plan seen (Some q) = one (times (is_release q) seen == references_of plan q)
  where
    one : (b : Bool) → AllByRecursion (λ x. is_someones plan x ≡ true) (cond b (Free q ∷ []) [])
    one true = (refl, tt)
    one false = tt

frees_someones : (plan : PlanData) (seen xs : List Event) → AllByRecursion (λ x. is_someones plan x ≡ true) xs → AllByRecursion (λ x. is_someones plan x ≡ true) (with_frees plan seen xs)
frees_someones plan seen [] all = tt
frees_someones plan seen (x ∷ xs) all = (
  all.0,
  all_append (λ y. is_someones plan y ≡ true) (freed_after plan (seen ++ x ∷ []) (released x)) (with_frees plan (seen ++ x ∷ []) xs) (freed_someones plan (seen ++ x ∷ []) (released x)) (frees_someones plan (seen ++ x ∷ []) xs all.1),
)

thread_someones : (run : Run) → IsLawfulPlan run.plan → AllByRecursion (λ x. is_someones run.plan x ≡ true) (events (one_thread run))
thread_someones run lawful =
    subst (AllByRecursion (λ x. is_someones run.plan x ≡ true)) (sym (events-numbered 0 (with_frees run.plan [] (all_events run))))
    (frees_someones run.plan [] (all_events run)
    (all_append (λ x. is_someones run.plan x ≡ true) (events_below run (length run.plan.nodes)) (report_events run) (below_someones run lawful (length run.plan.nodes))
    (subst (AllByRecursion (λ x. is_someones run.plan x ≡ true)) (sym (report_events-is run)) (report_someones run.plan (shown_promises run)))))

pub one_thread_tells : OneThreadTells
one_thread_tells run lawful = record { someones = thread_someones run lawful; own = thread_own run lawful; words = refl }
