-- Frees put directly behind the releases that complete the references.
use Rattle.std.proofs.Common.{◌≡◌, ℕ, ◌+◌, ◌==◌, ◌||◌, List, [], ◌∷◌, ◌++◌, Bool, true, false, cond, Option, Some, None, length, refl, arith, ap, sym, ◌∙◌, inl, inr}
use Rattle.std.proofs.lemmas.Bool.{cases_Bool, cond-true, cond-false}
use Rattle.std.proofs.lemmas.List.{map-append}
use Rattle.std.proofs.lemmas.List.Elements.{filter-append}
use Rattle.std.proofs.lemmas.List.Folds.{list_any-append}
use Rattle.std.proofs.lemmas.List.Sums.{length-filter}
use Rattle.std.specs.List.{filter}
use Rattle.rh_plan.specs.Plans.{PlanData}
use Rattle.rh_journal.specs.declared.event.Event.{Event}
use Rattle.rh_journal.specs.declared.event.Event.TheVariants.{Free}
use Rattle.rh_journal.specs.declared.event.Entry.{Entry}
use Rattle.rh_journal.specs.Events.{released, is_release, is_decide, is_decided, events, times}
use Rattle.rh_journal.specs.Own.{references_of}
use Rattle.rh_journal.specs.OneThread.{freed_after, with_frees}
use Rattle.rh_journal.proofs.Counts.{count-append, count-cons}

-- a test that no free passes finds the same with frees and without
no_freed : (f : Event → Bool) → ((q : ℕ) → f (Free q) ≡ false) → (plan : PlanData) (seen : List Event) (o : Option ℕ) → filter f (freed_after plan seen o) ≡ []
no_freed f none plan seen None = refl
no_freed f none plan seen (Some q) = one (times (is_release q) seen == references_of plan q)
  where
    one : (b : Bool) → filter f (cond b (Free q ∷ []) []) ≡ []
    one true = cond-false (f (Free q)) (Free q ∷ []) [] (none q)
    one false = refl

pub filter_freed : (f : Event → Bool) → ((q : ℕ) → f (Free q) ≡ false) → (plan : PlanData) (seen xs : List Event) → filter f (with_frees plan seen xs) ≡ filter f xs
filter_freed f none plan seen [] = refl
filter_freed f none plan seen (x ∷ xs) =
    let after : List Event = freed_after plan (seen ++ x ∷ []) (released x) in
    let rest : List Event = with_frees plan (seen ++ x ∷ []) xs in
    let same : filter f (after ++ rest) ≡ filter f xs =
    filter-append f after rest ∙ ap (λ (l : List Event). l ++ filter f rest) (no_freed f none plan (seen ++ x ∷ []) (released x)) ∙ filter_freed f none plan (seen ++ x ∷ []) xs in
    elim (cases_Bool (f x)) [
      | inl yes1 ↦ cond-true (f x) (x ∷ filter f (after ++ rest)) (filter f (after ++ rest)) yes1 ∙ ap (λ (l : List Event). x ∷ l) same ∙ sym (cond-true (f x) (x ∷ filter f xs) (filter f xs) yes1)
      | inr no1 ↦ cond-false (f x) (x ∷ filter f (after ++ rest)) (filter f (after ++ rest)) no1 ∙ same ∙ sym (cond-false (f x) (x ∷ filter f xs) (filter f xs) no1)
    ]

pub times_freed : (f : Event → Bool) → ((q : ℕ) → f (Free q) ≡ false) → (plan : PlanData) (seen xs : List Event) → times f (with_frees plan seen xs) ≡ times f xs
times_freed f none plan seen xs = sym (length-filter f (with_frees plan seen xs)) ∙ ap length (filter_freed f none plan seen xs) ∙ length-filter f xs

pub times-more : (f : Event → Bool) (xs : List Event) (x : Event) → times f (xs ++ x ∷ []) ≡ times f xs + cond (f x) 1 0
times-more f xs x = count-append f xs (x ∷ []) ∙ ap (λ (n : ℕ). times f xs + n) (count-cons f x [] ∙ omega arith)

pub events-more : (j : List Entry) (e : Entry) → events (j ++ e ∷ []) ≡ events j ++ e.event ∷ []
events-more j e = map-append (λ (f : Entry). f.event) j (e ∷ [])

pub times-later : (f : Event → Bool) (j : List Entry) (e : Entry) → times f (events (j ++ e ∷ [])) ≡ times f (events j) + cond (f e.event) 1 0
times-later f j e = ap (times f) (events-more j e) ∙ times-more f (events j) e.event

pub decided-later : (xs ys : List Event) (v : ℕ) → is_decided xs v ≡ true → is_decided (xs ++ ys) v ≡ true
decided-later xs ys v is = list_any-append (is_decide v) xs ys ∙ ap (λ (b : Bool). b || is_decided ys v) is
