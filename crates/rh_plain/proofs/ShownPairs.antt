-- What is known before the first node, and what the report shows.
use Rattle.std.proofs.Common.{◌≡◌, ℕ, zero, suc, ◌+◌, ◌<◌, ◌≤◌, ◌&&◌, List, [], ◌∷◌, ◌++◌, Bool, true, false, cond, Option, Some, None, length, map, get_or, replicate, refl, arith, ap, sym, ◌∙◌, subst, inl, inr, append-nil, append_assoc}
use Rattle.std.proofs.lemmas.Bool.{cases_Bool, cond-true, cond-false}
use Rattle.std.proofs.lemmas.List.{get_or-replicate}
use Rattle.std.proofs.lemmas.List.Elements.{All-from_recursion}
use Rattle.std.proofs.lemmas.List.Kept.{AllPairs-cons}
use Rattle.std.specs.List.{AllByRecursion, filter, range_with_len, slice_get}
use Rattle.std.specs.Option.{is_some, option_and_then, unwrap_or}
use Rattle.rh_injector.specs.declared.faults.Strike.{Strike}
use Rattle.rh_rules.specs.Lawful.{putter_of}
use Rattle.rh_plan.specs.declared.outcome.Verdict.{Verdict}
use Rattle.rh_plan.specs.Plans.{PlanData}
use Rattle.rh_plan.specs.Lawful.{IsLawfulPlan}
use Rattle.rh_plan.specs.Judging.{NodeResult}
use Rattle.rh_plan.specs.Results.{all_results, value_in, value_of, value_by}
use Rattle.rh_plan.proofs.Lists.{all_by}
use Rattle.rh_plan.proofs.Rows.{results-zero}
use Rattle.rh_journal.specs.declared.event.Event.{Event}
use Rattle.rh_journal.specs.declared.event.Event.TheVariants.{Release}
use Rattle.rh_journal.specs.Own.{Run, run_of, has_value, is_shown_at, shown_promises}
use Rattle.rh_journal.specs.OneThread.{with_frees, numbered_from, events_below, one_thread}
use Rattle.rh_journal.specs.ShownWords.{IsAscending}
use Rattle.rh_journal.specs.Tells.{shown_words}
use Rattle.rh_journal.proofs.References.{references_are_left}
use Rattle.rh_journal.proofs.Whole.{events_below-zero, report_events-is}
use Rattle.rh_plain.specs.Values.{words_at}
use Rattle.rh_plain.specs.Drawing.{Drawn, HasDrawn, Draws, IsDrawing}
use Rattle.rh_plain.specs.Holding.{HoldsWords}
use Rattle.rh_plain.specs.Runs.{Progress, IsSoFar, progress}
use Rattle.rh_plain.specs.Telling.{pair_of, pair_at, pairs_from}

-- no node has ended
pub so_far_zero : (plan : PlanData) (faults : List Strike) (verdicts : List Verdict) (values : List (Option (List ℕ))) (n : ℕ) (drawn : Drawn) → verdicts ≡ [] → values ≡ replicate n None → n ≡ length plan.promises → HasDrawn plan [] drawn → IsSoFar plan faults 0 (progress verdicts values drawn)
so_far_zero plan faults verdicts values n drawn none empty count nothing = record {
  ended = none ∙ ap (map (λ (r : NodeResult). r.verdict)) (sym (results-zero plan faults));
  drawn = subst (λ (l : List Event). HasDrawn plan l drawn) (sym (events_below-zero (run_of plan faults))) nothing;
  held = record {
    size = ap length empty ∙ long n None ∙ count;
    each = λ q below left.
        ap (λ (l : List (Option (List ℕ))). words_at l q) empty
        ∙ get_or-replicate n q None None (omega arith)
        ∙ sym (ap (λ (rs : List NodeResult). value_in plan rs q) (results-zero plan faults) ∙ no_value q (putter_of plan.promises q));
  };
}
  where
    long : (n : ℕ) (o : Option (List ℕ)) → length (replicate n o) ≡ n
    long zero o = refl
    long (suc n) o = ap suc (long n o)

    no_value : (q : ℕ) (o : Option ℕ) → option_and_then (λ v. option_and_then (value_by q) (slice_get [] v)) o ≡ None
    no_value q None = refl
    no_value q (Some v) = refl

-- the promise is one of n from the number k on
abbrev IsFrom : ℕ → ℕ → ℕ × List ℕ → Type 0
IsFrom k n p = (k ≤ p.0) × (p.0 < k + n)

from_next : (k n : ℕ) (p : ℕ × List ℕ) → IsFrom (k + 1) n p → IsFrom k (suc n) p
from_next k n p both = let low = both.0 in let high = both.1 in (omega arith, omega arith)

pair_behind : (k n : ℕ) (shown : Bool) (o : Option (List ℕ)) (rest : List (ℕ × List ℕ)) → AllByRecursion (IsFrom k (suc n)) rest → AllByRecursion (IsFrom k (suc n)) (cond shown (pair_of k o) [] ++ rest)
pair_behind k n true None rest all = all
pair_behind k n true (Some w) rest all = ((omega arith, omega arith), all)
pair_behind k n false o rest all = all

-- the promises that are shown are those from the first one on
pairs_above : (plan : PlanData) (k : ℕ) (values : List (Option (List ℕ))) → AllByRecursion (IsFrom k (length values)) (pairs_from plan k values)
pairs_above plan k [] = tt
pairs_above plan k (words ∷ values) =
    pair_behind k (length values) (is_shown_at plan k) words (pairs_from plan (k + 1) values)
    (all_by (IsFrom (k + 1) (length values)) (IsFrom k (suc (length values))) (pairs_from plan (k + 1) values) (from_next k (length values)) (pairs_above plan (k + 1) values))

pub pairs_known : (plan : PlanData) (values : List (Option (List ℕ))) → length values ≡ length plan.promises → AllByRecursion (λ p. p.0 < length plan.promises) (pairs_from plan 0 values)
pairs_known plan values count = all_by (IsFrom 0 (length values)) (λ p. p.0 < length plan.promises) (pairs_from plan 0 values) (λ p both. let high = both.1 in omega arith) (pairs_above plan 0 values)

pair_ascends : (k : ℕ) (shown : Bool) (o : Option (List ℕ)) (rest : List (ℕ × List ℕ)) → AllByRecursion (λ p. k < p.0) rest → IsAscending rest → IsAscending (cond shown (pair_of k o) [] ++ rest)
pair_ascends k true None rest above up = up
pair_ascends k true (Some w) rest above up = AllPairs-cons (λ (a b : ℕ × List ℕ). a.0 < b.0) (k, w) rest (All-from_recursion (λ (p : ℕ × List ℕ). k < p.0) rest above) up
pair_ascends k false o rest above up = up

pub pairs_ascend : (plan : PlanData) (k : ℕ) (values : List (Option (List ℕ))) → IsAscending (pairs_from plan k values)
pairs_ascend plan k [] = λ i j d low high. absurd (omega arith)
pairs_ascend plan k (words ∷ values) =
    pair_ascends k (is_shown_at plan k) words (pairs_from plan (k + 1) values)
    (all_by (IsFrom (k + 1) (length values)) (λ p. k < p.0) (pairs_from plan (k + 1) values) (λ p both. let low = both.0 in omega arith) (pairs_above plan (k + 1) values))
    (pairs_ascend plan (k + 1) values)

-- one promise more
pair_is : (run : Run) (k : ℕ) (words : Option (List ℕ)) (n : ℕ) (pairs : List (ℕ × List ℕ))
    → pairs ≡ map (λ (q : ℕ). (q, unwrap_or (value_of run.plan run.faults q) [])) (filter (λ q. is_shown_at run.plan q && has_value run q) (range_with_len (k + 1) n))
    → (is_shown_at run.plan k ≡ true → words ≡ value_of run.plan run.faults k)
    → cond (is_shown_at run.plan k) (pair_of k words) [] ++ pairs ≡ map (λ (q : ℕ). (q, unwrap_or (value_of run.plan run.faults q) [])) (filter (λ q. is_shown_at run.plan q && has_value run q) (range_with_len k (suc n)))
pair_is run k words n pairs rest same = elim (cases_Bool (is_shown_at run.plan k)) [
  | inl shown ↦ told words shown (sym (same shown))
  | inr hidden ↦
      ap (λ (b : Bool). cond b (pair_of k words) [] ++ pairs) hidden
      ∙ rest
      ∙ sym (ap (map tell) (cond-false (is_shown_at run.plan k && has_value run k) (k ∷ later) later (ap (λ (b : Bool). b && has_value run k) hidden)))
]
  where
    tell : ℕ → ℕ × List ℕ
    tell q = (q, unwrap_or (value_of run.plan run.faults q) [])

    later : List ℕ
    later = filter (λ q. is_shown_at run.plan q && has_value run q) (range_with_len (k + 1) n)

    told : (o : Option (List ℕ)) → is_shown_at run.plan k ≡ true → value_of run.plan run.faults k ≡ o → cond (is_shown_at run.plan k) (pair_of k o) [] ++ pairs ≡ map tell (cond (is_shown_at run.plan k && has_value run k) (k ∷ later) later)
    told None shown is =
        ap (λ (b : Bool). cond b (pair_of k None) [] ++ pairs) shown
        ∙ rest
        ∙ sym (ap (map tell) (cond-false (is_shown_at run.plan k && has_value run k) (k ∷ later) later (ap (λ (b : Bool). b && has_value run k) shown ∙ ap (λ (o : Option (List ℕ)). is_some o) is)))
    told (Some w) shown is =
        ap (λ (b : Bool). cond b (pair_of k (Some w)) [] ++ pairs) shown
        ∙ ap (λ (l : List (ℕ × List ℕ)). (k, w) ∷ l) rest
        ∙ ap (λ (o : Option (List ℕ)). (k, unwrap_or o []) ∷ map tell later) (sym is)
        ∙ sym (ap (map tell) (cond-true (is_shown_at run.plan k && has_value run k) (k ∷ later) later (ap (λ (b : Bool). b && has_value run k) shown ∙ ap (λ (o : Option (List ℕ)). is_some o) is)))

-- the pairs of words that are those of the run where they are shown
pairs_are : (run : Run) (k : ℕ) (values : List (Option (List ℕ))) → ((i : ℕ) → i < length values → is_shown_at run.plan (k + i) ≡ true → get_or values i None ≡ value_of run.plan run.faults (k + i))
    → pairs_from run.plan k values ≡ map (λ (q : ℕ). (q, unwrap_or (value_of run.plan run.faults q) [])) (filter (λ q. is_shown_at run.plan q && has_value run q) (range_with_len k (length values)))
pairs_are run k [] same = refl
pairs_are run k (words ∷ values) same =
    pair_is run k words (length values) (pairs_from run.plan (k + 1) values)
    (pairs_are run (k + 1) values (λ i below shown. same (suc i) (omega arith) (ap (is_shown_at run.plan) (sym (shift k i)) ∙ shown) ∙ ap (value_of run.plan run.faults) (sym (shift k i))))
    (λ shown. same 0 (omega arith) (ap (is_shown_at run.plan) (sym (none_more k)) ∙ shown) ∙ ap (value_of run.plan run.faults) (sym (none_more k)))
  where
    none_more : (k : ℕ) → k ≡ k + 0
    none_more k = omega arith

    shift : (k i : ℕ) → k + 1 + i ≡ k + suc i
    shift k i = omega arith

-- at the end the pairs are the shown words
pub pairs_shown : (plan : PlanData) (faults : List Strike) (values : List (Option (List ℕ))) → IsLawfulPlan plan → HoldsWords plan (all_results plan faults) (events_below (run_of plan faults) (length plan.nodes)) values → pairs_from plan 0 values ≡ shown_words (run_of plan faults)
pairs_shown plan faults values lawful held =
    pairs_are (run_of plan faults) 0 values
    (λ i below shown.
    let here : 0 + i ≡ i = omega arith in
    let size = held.size in
    let seen = ap (is_shown_at plan) (sym here) ∙ shown in
    held.each i (omega arith) ((references_are_left (run_of plan faults) lawful i).shown seen) ∙ ap (value_of plan faults) (sym here))
    ∙ ap (λ (n : ℕ). map (λ (q : ℕ). (q, unwrap_or (value_of plan faults q) [])) (filter (λ q. is_shown_at plan q && has_value (run_of plan faults) q) (range_with_len 0 n))) held.size

releases_are : (f : ℕ → List ℕ) (qs : List ℕ) → map (λ (p : ℕ × List ℕ). Release p.0 None) (map (λ (q : ℕ). (q, f q)) qs) ≡ map (λ q. Release q None) qs
releases_are f [] = refl
releases_are f (q ∷ qs) = ap (λ (l : List Event). Release q None ∷ l) (releases_are f qs)

-- the journal when the report has given up its references
pub journal_whole : (plan : PlanData) (faults : List Strike) (pairs : List (ℕ × List ℕ)) (drawn : Drawn) → pairs ≡ shown_words (run_of plan faults) → HasDrawn plan (events_below (run_of plan faults) (length plan.nodes) ++ map (λ (p : ℕ × List ℕ). Release p.0 None) pairs) drawn → drawn.entries ≡ one_thread (run_of plan faults)
journal_whole plan faults pairs drawn is has =
    has.entries
    ∙ ap (λ (l : List Event). numbered_from 0 (with_frees plan [] (events_below (run_of plan faults) (length plan.nodes) ++ l)))
    (ap (map (λ (p : ℕ × List ℕ). Release p.0 None)) is ∙ releases_are (λ q. unwrap_or (value_of plan faults q) []) (shown_promises (run_of plan faults)) ∙ sym (report_events-is (run_of plan faults)))

-- what holds of the shown pairs when all nodes have ended
pub record AtEnd (plan : PlanData) (faults : List Strike) (drawn : Drawn) (pairs : List (ℕ × List ℕ)) : Type 0 where
  pub known : AllByRecursion (λ p. p.0 < length plan.promises) pairs
  pub ascending : IsAscending pairs
  pub shown : pairs ≡ shown_words (run_of plan faults)
  pub drawing : IsDrawing plan drawn
  pub journal : (d : Drawn) → Draws plan drawn d (map (λ (p : ℕ × List ℕ). Release p.0 None) pairs) → d.entries ≡ one_thread (run_of plan faults)

pub at_end : (plan : PlanData) (faults : List Strike) (p : Progress) (verdicts : List Verdict) (values : List (Option (List ℕ))) (drawn : Drawn) (pairs : List (ℕ × List ℕ)) → IsLawfulPlan plan → progress verdicts values drawn ≡ p → IsSoFar plan faults (length plan.nodes) p → pairs ≡ pairs_from plan 0 values → AtEnd plan faults drawn pairs
at_end plan faults p verdicts values drawn pairs lawful is so_far are =
    let here : IsSoFar plan faults (length plan.nodes) (progress verdicts values drawn) = subst (IsSoFar plan faults (length plan.nodes)) (sym is) so_far in
    let shown : pairs ≡ shown_words (run_of plan faults) = are ∙ pairs_shown plan faults values lawful here.held in
    record {
      known = subst (AllByRecursion (λ p. p.0 < length plan.promises)) (sym are) (pairs_known plan values here.held.size);
      ascending = subst IsAscending (sym are) (pairs_ascend plan 0 values);
      shown = shown;
      drawing = (events_below (run_of plan faults) (length plan.nodes), here.drawn);
      journal = λ d draws. journal_whole plan faults pairs d shown (draws (events_below (run_of plan faults) (length plan.nodes)) here.drawn);
    }

-- the words of one promise more
pub pairs_more : (plan : PlanData) (k : ℕ) (values : List (Option (List ℕ))) (words : Option (List ℕ)) → pairs_from plan k (values ++ words ∷ []) ≡ pairs_from plan k values ++ pair_at plan (k + length values) words
pairs_more plan k [] words = append-nil (pair_at plan k words) ∙ ap (λ (n : ℕ). pair_at plan n words) (none_more k)
  where
    none_more : (k : ℕ) → k ≡ k + 0
    none_more k = omega arith
pairs_more plan k (w ∷ values) words =
    ap (λ (l : List (ℕ × List ℕ)). pair_at plan k w ++ l) (pairs_more plan (k + 1) values words)
    ∙ sym (append_assoc (pair_at plan k w) (pairs_from plan (k + 1) values) (pair_at plan (k + 1 + length values) words))
    ∙ ap (λ (n : ℕ). (pair_at plan k w ++ pairs_from plan (k + 1) values) ++ pair_at plan n words) (shift k (length values))
  where
    shift : (k n : ℕ) → k + 1 + n ≡ k + suc n
    shift k n = omega arith
