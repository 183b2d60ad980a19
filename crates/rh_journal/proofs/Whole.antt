-- The events of all nodes have those of each node, in order.
use Rattle.std.proofs.Common.{◌≡◌, ◌≢◌, ℕ, zero, suc, ◌<◌, ◌≤◌, List, [], ◌∷◌, ◌++◌, true, false, Some, None, length, map, refl, arith, ap, sym, ◌∙◌, inl, inr, subst, append-nil}
use Rattle.std.proofs.lemmas.Option.{slice_get_cases, slice_get_past}
use Rattle.std.proofs.lemmas.Bool.{cases_lt}
use Rattle.std.proofs.lemmas.List.Elements.{filter-append}
use Rattle.std.specs.List.{AllByRecursion, filter}
use Rattle.rh_plan.specs.Plans.{PlanData}
use Rattle.rh_plan.specs.Lawful.{IsLawfulPlan}
use Rattle.rh_journal.specs.declared.event.Event.{Event}
use Rattle.rh_journal.specs.declared.event.Event.TheVariants.{Release, Decide}
use Rattle.rh_journal.specs.Events.{node_of, is_by}
use Rattle.rh_journal.specs.Own.{Run, own_events, report_events, shown_promises}
use Rattle.rh_journal.specs.OneThread.{events_below, all_events}
use Rattle.rh_plan.proofs.Lists.{all_by}
use Rattle.rh_journal.proofs.Counts.{all_append, filter_whole, filter_empty, some_is_number, other_number}
use Rattle.rh_journal.proofs.Owned.{IsPlain, has_events, own_past}

pub events_below-suc : (run : Run) (n : ℕ) → events_below run (suc n) ≡ events_below run n ++ own_events run n
unfolding events_below
events_below-suc run n = refl

pub events_below-zero : (run : Run) → events_below run zero ≡ []
unfolding events_below
events_below-zero run = refl

pub report_events-is : (run : Run) → report_events run ≡ map (λ q. Release q None) (shown_promises run)
unfolding report_events
report_events-is run = refl

-- the events of one node among those of all

pub own_by : (run : Run) → IsLawfulPlan run.plan → (v : ℕ) → AllByRecursion (λ x. node_of run.plan x ≡ Some v) (own_events run v)
own_by run lawful v = elim (slice_get_cases run.plan.nodes v).1 [
  | inl there ↦
      let (node, within, is, same) = there in
      let has = has_events run lawful v node is in
      subst (AllByRecursion (λ x. node_of run.plan x ≡ Some v)) (sym has.is)
      (refl, all_append (λ x. node_of run.plan x ≡ Some v) has.middle (Decide v has.verdict ∷ []) (all_by (IsPlain run.plan v) (λ x. node_of run.plan x ≡ Some v) has.middle (λ x plain. plain.by) has.plain) (refl, tt))
  | inr past ↦ subst (AllByRecursion (λ x. node_of run.plan x ≡ Some v)) (sym (own_past run v past.1)) tt
]

of_node : (plan : PlanData) (v : ℕ) (xs : List Event) → AllByRecursion (λ x. node_of plan x ≡ Some v) xs → filter (is_by plan v) xs ≡ xs
of_node plan v xs all = filter_whole (is_by plan v) xs (all_by (λ x. node_of plan x ≡ Some v) (λ x. is_by plan v x ≡ true) xs (λ x is. some_is_number v (node_of plan x) is) all)

of_other : (plan : PlanData) (v w : ℕ) (xs : List Event) → w ≢ v → AllByRecursion (λ x. node_of plan x ≡ Some w) xs → filter (is_by plan v) xs ≡ []
of_other plan v w xs ne all = filter_empty (is_by plan v) xs (all_by (λ x. node_of plan x ≡ Some w) (λ x. is_by plan v x ≡ false) xs (λ x is. other_number v w (node_of plan x) is ne) all)

below_none : (run : Run) → IsLawfulPlan run.plan → (n v : ℕ) → n ≤ v → filter (is_by run.plan v) (events_below run n) ≡ []
below_none run lawful zero v past = ap (filter (is_by run.plan v)) (events_below-zero run)
below_none run lawful (suc n) v past =
    ap (filter (is_by run.plan v)) (events_below-suc run n)
    ∙ filter-append (is_by run.plan v) (events_below run n) (own_events run n)
    ∙ ap (λ (l : List Event). l ++ filter (is_by run.plan v) (own_events run n)) (below_none run lawful n v (omega arith))
    ∙ of_other run.plan v n (own_events run n) (λ same. omega arith) (own_by run lawful n)

below_own : (run : Run) → IsLawfulPlan run.plan → (n v : ℕ) → v < n → filter (is_by run.plan v) (events_below run n) ≡ own_events run v
below_own run lawful zero v below = absurd (omega arith)
below_own run lawful (suc n) v below =
    ap (filter (is_by run.plan v)) (events_below-suc run n)
    ∙ filter-append (is_by run.plan v) (events_below run n) (own_events run n)
    ∙ elim (cases_lt v n) [
      | inl earlier ↦
          ap (λ (l : List Event). l ++ filter (is_by run.plan v) (own_events run n)) (below_own run lawful n v earlier)
          ∙ ap (λ (l : List Event). own_events run v ++ l) (of_other run.plan v n (own_events run n) (λ same. omega arith) (own_by run lawful n))
          ∙ append-nil (own_events run v)
      | inr last ↦
          let same : n ≡ v = omega arith in
          ap (λ (l : List Event). l ++ filter (is_by run.plan v) (own_events run n)) (below_none run lawful n v (omega arith))
          ∙ subst (λ (k : ℕ). filter (is_by run.plan k) (own_events run n) ≡ own_events run k) same (of_node run.plan n (own_events run n) (own_by run lawful n))
    ]

reports_of_none : (plan : PlanData) (v : ℕ) (qs : List ℕ) → filter (is_by plan v) (map (λ q. Release q None) qs) ≡ []
reports_of_none plan v [] = refl
reports_of_none plan v (q ∷ qs) = reports_of_none plan v qs

-- of all events those of a node are its own
pub all_own : (run : Run) → IsLawfulPlan run.plan → (v : ℕ) → filter (is_by run.plan v) (all_events run) ≡ own_events run v
all_own run lawful v =
    let n : ℕ = length run.plan.nodes in
    filter-append (is_by run.plan v) (events_below run n) (report_events run)
    ∙ ap (λ (l : List Event). filter (is_by run.plan v) (events_below run n) ++ l) (ap (filter (is_by run.plan v)) (report_events-is run) ∙ reports_of_none run.plan v (shown_promises run))
    ∙ append-nil (filter (is_by run.plan v) (events_below run n))
    ∙ elim (cases_lt v n) [
      | inl below ↦ below_own run lawful n v below
      | inr past ↦ below_none run lawful n v past ∙ sym (own_past run v (slice_get_past run.plan.nodes v past))
    ]
