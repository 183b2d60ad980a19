-- References given up one after another.
use Rattle.std.proofs.Common.{◌≡◌, ℕ, ◌+◌, ◌<◌, ◌≤◌, ◌==◌, List, [], ◌∷◌, ◌++◌, Bool, true, Option, Some, None, length, get_or, slice_set, map, take, arith, ap, sym, ◌∙◌, inl, inr, subst, eqb-true, eq-eqb, append_assoc}
use Rattle.std.proofs.lemmas.Bool.{cases_Bool, false≢true}
use Rattle.std.proofs.lemmas.List.{get_or-set_other, length-set, take_more, take_all, map-append}
use Rattle.rh_plan.specs.declared.outcome.Trial.{Trial}
use Rattle.rh_plan.specs.declared.outcome.Verdict.{Verdict}
use Rattle.rh_plan.specs.Plans.{PlanData}
use Rattle.rh_journal.specs.declared.event.Event.{Event}
use Rattle.rh_journal.specs.declared.event.Event.TheVariants.{Release, Decide}
use Rattle.rh_journal.specs.Events.{is_release, times}
use Rattle.rh_journal.specs.Own.{put_attempt, references_of}
use Rattle.rh_plain.specs.Drawing.{Drawn, Draws, IsFreed, first_events, listed_events}
use Rattle.rh_plain.specs.Holding.{HoldsWords, KeepsWords}
use Rattle.rh_plain.proofs.Histories.{draws_then}
use Rattle.rh_plain.proofs.Steps.{held_later}

-- the words of other promises are kept when one is freed that has no references left
pub keeps_others : (plan : PlanData) (old : Drawn) (before after : List (Option (List ℕ))) (q : ℕ) (by : Option ℕ) (freed : Bool) → freed ≡ true → IsFreed plan old q by freed → after ≡ slice_set before q None → KeepsWords plan old before after (Release q by ∷ [])
keeps_others plan old before after q by freed yes1 last is rs seen drawn held = subst (HoldsWords plan rs (seen ++ Release q by ∷ [])) (sym is) (record {
  size = length-set before q None ∙ held.size;
  each = λ p below left. elim (cases_Bool (q == p)) [
    | inl same ↦
        let e = eqb-true q p same in
        let all = last yes1 seen drawn in
        let here : times (is_release q) (seen ++ Release q by ∷ []) < references_of plan q = subst (λ (k : ℕ). times (is_release k) (seen ++ Release q by ∷ []) < references_of plan k) (sym e) left in
        absurd (omega arith)
    | inr other ↦
        get_or-set_other before q p None None (λ same. false≢true (sym other ∙ eq-eqb q p (sym same)))
        ∙ (held_later plan rs seen (Release q by ∷ []) before held).each p below left
  ];
})

pub keeps_all : (plan : PlanData) (old : Drawn) (values : List (Option (List ℕ))) (xs : List Event) → KeepsWords plan old values values xs
keeps_all plan old values xs rs seen drawn held = held_later plan rs seen xs values held

-- one after another
pub keeps_then : (plan : PlanData) (a b : Drawn) (first second third : List (Option (List ℕ))) (xs ys : List Event) → Draws plan a b xs → KeepsWords plan a first second xs → KeepsWords plan b second third ys → KeepsWords plan a first third (xs ++ ys)
keeps_then plan a b first second third xs ys draws one two rs seen drawn held = subst (λ (l : List Event). HoldsWords plan rs l third) (append_assoc seen xs ys) (two rs (seen ++ xs) (draws seen drawn) (one rs seen drawn held))

-- the events of a node's releases
abbrev pub gives_up : ℕ → List ℕ → List Event
gives_up v qs = map (λ q. Release q (Some v)) qs

-- one release more
pub released_more : (plan : PlanData) (a b c : Drawn) (first second third : List (Option (List ℕ))) (v i d : ℕ) (qs : List ℕ) → i < length qs
    → Draws plan a b (gives_up v (take i qs)) → KeepsWords plan a first second (gives_up v (take i qs))
    → Draws plan b c (Release (get_or qs i d) (Some v) ∷ []) → KeepsWords plan b second third (Release (get_or qs i d) (Some v) ∷ [])
    → Draws plan a c (gives_up v (take (i + 1) qs)) × KeepsWords plan a first third (gives_up v (take (i + 1) qs))
released_more plan a b c first second third v i d qs within draws keeps draw keep =
    let whole : gives_up v (take (i + 1) qs) ≡ gives_up v (take i qs) ++ Release (get_or qs i d) (Some v) ∷ [] = ap (gives_up v) (take_more qs i d within) ∙ map-append (λ (q : ℕ). Release q (Some v)) (take i qs) (get_or qs i d ∷ []) in (
      subst (λ (l : List Event). Draws plan a c l) (sym whole) (draws_then plan a b c (gives_up v (take i qs)) (Release (get_or qs i d) (Some v) ∷ []) draws draw),
      subst (λ (l : List Event). KeepsWords plan a first third l) (sym whole) (keeps_then plan a b first second third (gives_up v (take i qs)) (Release (get_or qs i d) (Some v) ∷ []) draws keeps keep),
    )

-- all releases
pub released_whole : (plan : PlanData) (a b : Drawn) (first second : List (Option (List ℕ))) (v i : ℕ) (qs : List ℕ) → length qs ≤ i
    → Draws plan a b (gives_up v (take i qs)) → KeepsWords plan a first second (gives_up v (take i qs)) → Draws plan a b (gives_up v qs) × KeepsWords plan a first second (gives_up v qs)
released_whole plan a b first second v i qs past draws keeps = (
  subst (λ (l : List ℕ). Draws plan a b (gives_up v l)) (take_all i qs past) draws,
  subst (λ (l : List ℕ). KeepsWords plan a first second (gives_up v l)) (take_all i qs past) keeps,
)

-- all events of a node
pub ended_told : (plan : PlanData) (a b c d : Drawn) (given kept : List (Option (List ℕ))) (v k : ℕ) (verdict : Verdict) (trials : List Trial) (puts voids released gone : List ℕ) → k ≡ put_attempt verdict → gone ≡ released
    → Draws plan a b (first_events v trials k puts voids) → Draws plan b c (gives_up v gone) → KeepsWords plan b given kept (gives_up v gone) → Draws plan c d (Decide v verdict ∷ [])
    → Draws plan a d (listed_events v verdict trials puts voids released) × KeepsWords plan a given kept (listed_events v verdict trials puts voids released)
ended_told plan a b c d given kept v k verdict trials puts voids released gone is_k is_gone begins releases keeps decides =
    let first : List Event = first_events v trials (put_attempt verdict) puts voids in
    let last : List Event = Decide v verdict ∷ [] in
    let started : Draws plan a b first = subst (λ (n : ℕ). Draws plan a b (first_events v trials n puts voids)) is_k begins in
    let given_up : Draws plan b c (gives_up v released) = subst (λ (l : List ℕ). Draws plan b c (gives_up v l)) is_gone releases in
    let still : KeepsWords plan b given kept (gives_up v released) = subst (λ (l : List ℕ). KeepsWords plan b given kept (gives_up v l)) is_gone keeps in (
      draws_then plan a b d first (gives_up v released ++ last) started (draws_then plan b c d (gives_up v released) last given_up decides),
      keeps_then plan a b given given kept first (gives_up v released ++ last) started (keeps_all plan a given first)
          (keeps_then plan b c given kept kept (gives_up v released) last given_up still (keeps_all plan c kept last)),
    )
