-- What a journal tells is what the results say.
use Rattle.std.proofs.Common.{◌≡◌, ℕ, ◌+◌, ◌==◌, ◌||◌, List, [], ◌∷◌, ◌++◌, Bool, true, false, Option, Some, None, map, refl, ap, sym, ◌∙◌, inl, inr, eqb-true, eq-eqb, append-nil}
use Rattle.std.proofs.lemmas.Bool.{cases_Bool, cond-true, cond-false, false≢true}
use Rattle.std.proofs.lemmas.List.Elements.{filter_map-append}
use Rattle.std.specs.List.{AllByRecursion, filter, filter_map, cons_option, slice_get}
use Rattle.std.specs.Option.{is_some}
use Rattle.rh_plan.proofs.Lists.{all_by}
use Rattle.rh_journal.proofs.Counts.{some_is_number}
use Rattle.rh_rules.specs.declared.node.Node.{Node}
use Rattle.rh_plan.specs.declared.outcome.Trial.{Trial}
use Rattle.rh_plan.specs.declared.outcome.Verdict.{Verdict}
use Rattle.rh_plan.specs.Plans.{PlanData}
use Rattle.rh_rules.specs.Lawful.{putter_of}
use Rattle.rh_plan.specs.Judging.{NodeResult}
use Rattle.rh_plan.specs.Results.{all_results}
use Rattle.rh_journal.specs.declared.event.Event.{Event}
use Rattle.rh_journal.specs.declared.event.Event.TheVariants.{Claim, Attempt, Put, Void, Release, Free, Decide}
use Rattle.rh_journal.specs.declared.event.Entry.{Entry}
use Rattle.rh_journal.specs.Events.{is_by, is_someones, events}
use Rattle.rh_journal.specs.Own.{Run, has_value, attempts_from, put_attempt, puts_by, voids_by, released_by, node_events, own_events, events_if}
use Rattle.rh_journal.specs.Tells.{Tells}
use Rattle.rh_journal.specs.Told.{verdict_told, trial_told, put_told, TellingJournalsTellResults}
use Rattle.rh_journal.proofs.OneThread.{events-filter}

-- what is told by events that pass a filter alone
told_within : {X : Type 0} (h : Event → Option X) (g : Event → Bool) (xs : List Event) → ((x : Event) → g x ≡ false → h x ≡ None) → filter_map h (filter g xs) ≡ filter_map h xs
told_within h g [] none = refl
told_within {X = X} h g (x ∷ xs) none = elim (cases_Bool (g x)) [
  | inl yes1 ↦ ap (filter_map h) (cond-true (g x) (x ∷ filter g xs) (filter g xs) yes1) ∙ ap (λ (l : List X). cons_option (h x) l) (told_within h g xs none)
  | inr no1 ↦ ap (filter_map h) (cond-false (g x) (x ∷ filter g xs) (filter g xs) no1) ∙ (told_within h g xs none ∙ sym (ap (λ (o : Option X). cons_option o (filter_map h xs)) (none x no1)))
]

-- nothing is told by a list of events that tell nothing
told_none : {X : Type 0} (h : Event → Option X) (f : ℕ → Event) (qs : List ℕ) → ((q : ℕ) → h (f q) ≡ None) → filter_map h (map f qs) ≡ []
told_none h f [] none = refl
told_none {X = X} h f (q ∷ qs) none = ap (λ (o : Option X). cons_option o (filter_map h (map f qs))) (none q) ∙ told_none h f qs none

tries_none : {X : Type 0} (h : Event → Option X) (v k : ℕ) (trials : List Trial) → ((n : ℕ) (t : Trial) → h (Attempt v n t) ≡ None) → filter_map h (attempts_from v k trials) ≡ []
tries_none h v k [] none = refl
tries_none {X = X} h v k (t ∷ trials) none = ap (λ (o : Option X). cons_option o (filter_map h (attempts_from v (k + 1) trials))) (none k t) ∙ tries_none h v (k + 1) trials none

tries_told : (v k : ℕ) (trials : List Trial) → filter_map (trial_told v) (attempts_from v k trials) ≡ trials
tries_told v k [] = refl
tries_told v k (t ∷ trials) =
    ap (λ (o : Option Trial). cons_option o (filter_map (trial_told v) (attempts_from v (k + 1) trials))) (cond-true (v == v) (Some t) None (eq-eqb v v refl))
    ∙ ap (λ (l : List Trial). t ∷ l) (tries_told v (k + 1) trials)

puts_told : (q k : ℕ) (ps : List ℕ) → filter_map (put_told q) (map (λ p. Put p k) ps) ≡ map (λ p. k) (filter (λ p. p == q) ps)
puts_told q k [] = refl
puts_told q k (p ∷ ps) = elim (cases_Bool (p == q)) [
  | inl yes1 ↦
      ap (λ (o : Option ℕ). cons_option o (filter_map (put_told q) (map (λ x. Put x k) ps))) (cond-true (p == q) (Some k) None yes1)
      ∙ (ap (λ (l : List ℕ). k ∷ l) (puts_told q k ps) ∙ sym (ap (map (λ x. k)) (cond-true (p == q) (p ∷ filter (λ x. x == q) ps) (filter (λ x. x == q) ps) yes1)))
  | inr no1 ↦
      ap (λ (o : Option ℕ). cons_option o (filter_map (put_told q) (map (λ x. Put x k) ps))) (cond-false (p == q) (Some k) None no1)
      ∙ (puts_told q k ps ∙ sym (ap (map (λ x. k)) (cond-false (p == q) (p ∷ filter (λ x. x == q) ps) (filter (λ x. x == q) ps) no1)))
]

-- what the parts of a node's events tell
parts : {X : Type 0} (h : Event → Option X) (has : ℕ → Bool) (v : ℕ) (node : Node) (r : NodeResult) (a b e : List X) → h (Claim v) ≡ None → ((q : ℕ) → h (Void q) ≡ None) → ((q : ℕ) → h (Release q (Some v)) ≡ None)
    → filter_map h (attempts_from v 0 r.trials) ≡ a → filter_map h (map (λ q. Put q (put_attempt r.verdict)) (puts_by node r)) ≡ b → filter_map h (Decide v r.verdict ∷ []) ≡ e
    → filter_map h (node_events has v node r) ≡ a ++ (b ++ e)
parts {X = X} h has v node r a b e claim void release is_a is_b is_e =
    let ends : List Event = Decide v r.verdict ∷ [] in
    let rel : List Event = map (λ q. Release q (Some v)) (released_by has node r) in
    let voi : List Event = map Void (voids_by node r) in
    let put : List Event = map (λ q. Put q (put_attempt r.verdict)) (puts_by node r) in
    let att : List Event = attempts_from v 0 r.trials in
    let last : filter_map h (rel ++ ends) ≡ e = filter_map-append h rel ends ∙ (ap (λ (l : List X). l ++ filter_map h ends) (told_none h (λ q. Release q (Some v)) (released_by has node r) release) ∙ is_e) in
    let late : filter_map h (voi ++ (rel ++ ends)) ≡ e = filter_map-append h voi (rel ++ ends) ∙ (ap (λ (l : List X). l ++ filter_map h (rel ++ ends)) (told_none h Void (voids_by node r) void) ∙ last) in
    let mid : filter_map h (put ++ (voi ++ (rel ++ ends))) ≡ b ++ e = filter_map-append h put (voi ++ (rel ++ ends)) ∙ (ap (λ (l : List X). l ++ filter_map h (voi ++ (rel ++ ends))) is_b ∙ ap (λ (l : List X). b ++ l) late) in
    ap (λ (o : Option X). cons_option o (filter_map h (att ++ (put ++ (voi ++ (rel ++ ends)))))) claim
    ∙ (filter_map-append h att (put ++ (voi ++ (rel ++ ends))) ∙ (ap (λ (l : List X). l ++ filter_map h (put ++ (voi ++ (rel ++ ends)))) is_a ∙ ap (λ (l : List X). a ++ l) mid))

-- a node with a result is there, and its own events are those of the result
own_of : (run : Run) (v : ℕ) (node : Node) (r : NodeResult) → slice_get run.plan.nodes v ≡ Some node → slice_get (all_results run.plan run.faults) v ≡ Some r → own_events run v ≡ node_events (has_value run) v node r
unfolding own_events
own_of run v node r is result =
    ap (λ (o : Option Node). events_if (has_value run) v o (slice_get (all_results run.plan run.faults) v)) is
    ∙ ap (λ (o : Option NodeResult). events_if (has_value run) v (Some node) o) result

told_own : {X : Type 0} (run : Run) (j : List Entry) (shown : List (ℕ × List ℕ)) → Tells run j shown → (h : Event → Option X) (v : ℕ) → ((x : Event) → is_by run.plan v x ≡ false → h x ≡ None) → filter_map h (events j) ≡ filter_map h (own_events run v)
told_own run j shown tells h v none = sym (told_within h (is_by run.plan v) (events j) none) ∙ ap (filter_map h) (sym (events-filter (is_by run.plan v) j) ∙ tells.own v)

verdict_by : (plan : PlanData) (v : ℕ) (x : Event) → is_by plan v x ≡ false → verdict_told v x ≡ None
verdict_by plan v (Claim w) not1 = refl
verdict_by plan v (Attempt w k t) not1 = refl
verdict_by plan v (Put q k) not1 = refl
verdict_by plan v (Void q) not1 = refl
verdict_by plan v (Release q by) not1 = refl
verdict_by plan v (Free q) not1 = refl
verdict_by plan v (Decide w d) not1 = cond-false (w == v) (Some d) None not1

trial_by : (plan : PlanData) (v : ℕ) (x : Event) → is_by plan v x ≡ false → trial_told v x ≡ None
trial_by plan v (Claim w) not1 = refl
trial_by plan v (Attempt w k t) not1 = cond-false (w == v) (Some t) None not1
trial_by plan v (Put q k) not1 = refl
trial_by plan v (Void q) not1 = refl
trial_by plan v (Release q by) not1 = refl
trial_by plan v (Free q) not1 = refl
trial_by plan v (Decide w d) not1 = refl

put_by_putter : (plan : PlanData) (q v : ℕ) → putter_of plan.promises q ≡ Some v → (x : Event) → is_by plan v x ≡ false → put_told q x ≡ None
put_by_putter plan q v by (Claim w) not1 = refl
put_by_putter plan q v by (Attempt w k t) not1 = refl
put_by_putter plan q v by (Put p k) not1 = elim (cases_Bool (p == q)) [
  | inl yes1 ↦ absurd (false≢true (sym not1 ∙ some_is_number v (putter_of plan.promises p) (ap (putter_of plan.promises) (eqb-true p q yes1) ∙ by)))
  | inr no1 ↦ cond-false (p == q) (Some k) None no1
]
put_by_putter plan q v by (Void p) not1 = refl
put_by_putter plan q v by (Release p w) not1 = refl
put_by_putter plan q v by (Free p) not1 = refl
put_by_putter plan q v by (Decide w d) not1 = refl

-- somebody's events put no promise that no node puts
unput_by : (plan : PlanData) (q : ℕ) → putter_of plan.promises q ≡ None → (x : Event) → is_someones plan x ≡ true → put_told q x ≡ None
unput_by plan q none (Claim w) some1 = refl
unput_by plan q none (Attempt w k t) some1 = refl
unput_by plan q none (Put p k) some1 = elim (cases_Bool (p == q)) [
  | inl yes1 ↦ absurd (false≢true (sym (ap (λ (o : Option ℕ). is_some o || (false || false)) (ap (putter_of plan.promises) (eqb-true p q yes1) ∙ none)) ∙ some1))
  | inr no1 ↦ cond-false (p == q) (Some k) None no1
]
unput_by plan q none (Void p) some1 = refl
unput_by plan q none (Release p w) some1 = refl
unput_by plan q none (Free p) some1 = refl
unput_by plan q none (Decide w d) some1 = refl

told_nothing : {X : Type 0} (h : Event → Option X) (xs : List Event) → AllByRecursion (λ x. h x ≡ None) xs → filter_map h xs ≡ []
told_nothing h [] all = refl
told_nothing {X = X} h (x ∷ xs) all = ap (λ (o : Option X). cons_option o (filter_map h xs)) all.0 ∙ told_nothing h xs all.1

pub telling_journals_tell_results : TellingJournalsTellResults
telling_journals_tell_results run j shown tells = record {
  verdicts = λ v node r is result.
      told_own run j shown tells (verdict_told v) v (verdict_by run.plan v)
      ∙ (ap (filter_map (verdict_told v)) (own_of run v node r is result)
      ∙ parts (verdict_told v) (has_value run) v node r [] [] (r.verdict ∷ []) refl (λ q. refl) (λ q. refl)
      (tries_none (verdict_told v) v 0 r.trials (λ n t. refl)) (told_none (verdict_told v) (λ q. Put q (put_attempt r.verdict)) (puts_by node r) (λ q. refl))
      (ap (λ (o : Option Verdict). cons_option o []) (cond-true (v == v) (Some r.verdict) None (eq-eqb v v refl))));
  trials = λ v node r is result.
      told_own run j shown tells (trial_told v) v (trial_by run.plan v)
      ∙ (ap (filter_map (trial_told v)) (own_of run v node r is result)
      ∙ (parts (trial_told v) (has_value run) v node r r.trials [] [] refl (λ q. refl) (λ q. refl)
      (tries_told v 0 r.trials) (told_none (trial_told v) (λ q. Put q (put_attempt r.verdict)) (puts_by node r) (λ q. refl)) refl
      ∙ append-nil r.trials));
  puts = λ q v node r by is result.
      told_own run j shown tells (put_told q) v (put_by_putter run.plan q v by)
      ∙ (ap (filter_map (put_told q)) (own_of run v node r is result)
      ∙ (parts (put_told q) (has_value run) v node r [] (map (λ p. put_attempt r.verdict) (filter (λ p. p == q) (puts_by node r))) [] refl (λ p. refl) (λ p. refl)
      (tries_none (put_told q) v 0 r.trials (λ n t. refl)) (puts_told q (put_attempt r.verdict) (puts_by node r)) refl
      ∙ append-nil (map (λ p. put_attempt r.verdict) (filter (λ p. p == q) (puts_by node r)))));
  unput = λ q none. told_nothing (put_told q) (events j) (all_by (λ x. is_someones run.plan x ≡ true) (λ x. put_told q x ≡ None) (events j) (unput_by run.plan q none) tells.someones);
}
