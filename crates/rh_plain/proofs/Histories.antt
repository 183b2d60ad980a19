-- The journal of one thread with one event more.
use Rattle.std.proofs.Common.{◌≡◌, ◌≢◌, ℕ, zero, suc, ◌+◌, ◌<◌, ◌≤◌, ◌==◌, ◌^◌, List, [], ◌∷◌, ◌++◌, Bool, cond, Option, Some, None, length, refl, arith, ap, sym, ◌∙◌, inl, inr, subst, eqb-true, eq-eqb, ne_eqb, append_assoc, append-nil, length-append, get_or, slice_set, take, map, replicate}
use Rattle.std.proofs.lemmas.Bool.{cases_Bool, false≢true}
use Rattle.std.specs.List.{slice_get}
use Rattle.std.proofs.lemmas.Option.{none-some, same_Some, slice_get-get_or}
use Rattle.rh_plan.specs.declared.outcome.Trial.{Trial}
use Rattle.std.proofs.lemmas.List.Sums.{count_by-le-length}
use Rattle.std.proofs.lemmas.List.{length-set, length-replicate, get_or-replicate, take_more, take_all, map-append}
use Rattle.rh_plan.specs.Plans.{PlanData}
use Rattle.rh_plan.specs.Derived.{is_number}
use Rattle.rh_journal.specs.declared.event.Event.{Event}
use Rattle.rh_journal.specs.declared.event.Event.TheVariants.{Claim, Attempt, Put, Void, Release, Free}
use Rattle.rh_journal.specs.declared.event.Entry.{Entry}
use Rattle.rh_journal.specs.Events.{released, is_release, times}
use Rattle.rh_journal.specs.Own.{references_of, attempts_from}
use Rattle.rh_journal.specs.OneThread.{freed_after, with_frees, entry_at, numbered_from}
use Rattle.rh_journal.proofs.Freeing.{times-more}
use Rattle.std.proofs.lemmas.List.{get_or-set_same, get_or-set_other}
use Rattle.rh_plain.specs.Drawing.{Drawn, drawn_so_far, HasDrawn, Draws, IsDrawing, first_events}

pub with_frees-append : (plan : PlanData) (seen xs ys : List Event) → with_frees plan seen (xs ++ ys) ≡ with_frees plan seen xs ++ with_frees plan (seen ++ xs) ys
with_frees-append plan seen [] ys = ap (λ (l : List Event). with_frees plan l ys) (sym (append-nil seen))
with_frees-append plan seen (x ∷ xs) ys =
    let after : List Event = freed_after plan (seen ++ x ∷ []) (released x) in
    ap (λ (l : List Event). x ∷ (after ++ l)) (with_frees-append plan (seen ++ x ∷ []) xs ys)
    ∙ ap (λ (l : List Event). x ∷ (after ++ (with_frees plan (seen ++ x ∷ []) xs ++ with_frees plan l ys))) (append_assoc seen (x ∷ []) xs)
    ∙ ap (λ (l : List Event). x ∷ l) (sym (append_assoc after (with_frees plan (seen ++ x ∷ []) xs) (with_frees plan (seen ++ x ∷ xs) ys)))

pub numbered-append : (n : ℕ) (xs ys : List Event) → numbered_from n (xs ++ ys) ≡ numbered_from n xs ++ numbered_from (n + length xs) ys
numbered-append n [] ys = ap (λ (m : ℕ). numbered_from m ys) (omega arith)
numbered-append n (x ∷ xs) ys = ap (λ (l : List Entry). entry_at n x ∷ l) (numbered-append (n + 1) xs ys ∙ ap (λ (m : ℕ). numbered_from (n + 1) xs ++ numbered_from m ys) (omega arith))

pub length-numbered : (n : ℕ) (xs : List Event) → length (numbered_from n xs) ≡ length xs
length-numbered n [] = refl
length-numbered n (x ∷ xs) = ap suc (length-numbered (n + 1) xs)

pub seen_long : (plan : PlanData) (seen xs : List Event) → length xs ≤ length (with_frees plan seen xs)
seen_long plan seen [] = omega arith
seen_long plan seen (x ∷ xs) =
    let rest = seen_long plan (seen ++ x ∷ []) xs in
    let both = length-append (freed_after plan (seen ++ x ∷ []) (released x)) (with_frees plan (seen ++ x ∷ []) xs) in
    omega arith

-- the entries behind one event more
entries_more : (plan : PlanData) (seen : List Event) (x : Event) (es : List Entry) → es ≡ numbered_from 0 (with_frees plan [] seen)
    → numbered_from 0 (with_frees plan [] (seen ++ x ∷ [])) ≡ es ++ numbered_from (length es) (x ∷ freed_after plan (seen ++ x ∷ []) (released x))
entries_more plan seen x es is =
    let w : List Event = with_frees plan [] seen in
    let size : length es ≡ length w = ap length is ∙ length-numbered 0 w in
    ap (numbered_from 0) (with_frees-append plan [] seen (x ∷ []))
    ∙ ap (λ (l : List Event). numbered_from 0 (w ++ (x ∷ l))) (append-nil (freed_after plan (seen ++ x ∷ []) (released x)))
    ∙ numbered-append 0 w (x ∷ freed_after plan (seen ++ x ∷ []) (released x))
    ∙ ap (λ (l : List Entry). l ++ numbered_from (0 + length w) (x ∷ freed_after plan (seen ++ x ∷ []) (released x))) (sym is)
    ∙ ap (λ (m : ℕ). es ++ numbered_from m (x ∷ freed_after plan (seen ++ x ∷ []) (released x))) (omega arith)

-- an event that gives up no reference
pub draws_event : (plan : PlanData) (es : List Entry) (gone : List ℕ) (x : Event) → released x ≡ None → Draws plan (drawn_so_far es gone) (drawn_so_far (es ++ entry_at (length es) x ∷ []) gone) (x ∷ [])
draws_event plan es gone x none seen has = record {
  entries = sym (entries_more plan seen x es has.entries ∙ ap (λ (o : Option ℕ). es ++ numbered_from (length es) (x ∷ freed_after plan (seen ++ x ∷ []) o)) none);
  size = has.size;
  gone = λ q below. has.gone q below ∙ sym (times-more (is_release q) seen x ∙ ap (λ (b : Bool). times (is_release q) seen + cond b 1 0) (ap (is_number q) none) ∙ omega arith);
}

-- the counts behind one release more
gone_more : (plan : PlanData) (seen : List Event) (gone : List ℕ) (q : ℕ) (by : Option ℕ) → length gone ≡ length plan.promises → ((p : ℕ) → p < length plan.promises → get_or gone p 0 ≡ times (is_release p) seen) → q < length plan.promises
    → (p : ℕ) → p < length plan.promises → get_or (slice_set gone q (get_or gone q 0 + 1)) p 0 ≡ times (is_release p) (seen ++ Release q by ∷ [])
gone_more plan seen gone q by size is below p inside = elim (cases_Bool (q == p)) [
  | inl yes1 ↦
      let same = eqb-true q p yes1 in
      let here : get_or (slice_set gone q (get_or gone q 0 + 1)) q 0 ≡ get_or gone q 0 + 1 = get_or-set_same gone q (get_or gone q 0 + 1) 0 (omega arith) in
      ap (λ (k : ℕ). get_or (slice_set gone q (get_or gone q 0 + 1)) k 0) (sym same)
      ∙ (here ∙ ap (λ (n : ℕ). n + 1) (is q below))
      ∙ (ap (λ (k : ℕ). times (is_release k) seen + 1) same ∙ sym (times-more (is_release p) seen (Release q by) ∙ ap (λ (b : Bool). times (is_release p) seen + cond b 1 0) yes1))
  | inr no1 ↦
      get_or-set_other gone q p (get_or gone q 0 + 1) 0 (λ same. false≢true (sym no1 ∙ eq-eqb q p (sym same)))
      ∙ (is p inside ∙ sym (times-more (is_release p) seen (Release q by) ∙ ap (λ (b : Bool). times (is_release p) seen + cond b 1 0) no1 ∙ omega arith))
]

-- a release that does not complete the references
pub draws_release : (plan : PlanData) (es : List Entry) (gone : List ℕ) (q : ℕ) (by : Option ℕ) → q < length plan.promises → get_or gone q 0 + 1 ≢ references_of plan q
    → Draws plan (drawn_so_far es gone) (drawn_so_far (es ++ entry_at (length es) (Release q by) ∷ []) (slice_set gone q (get_or gone q 0 + 1))) (Release q by ∷ [])
draws_release plan es gone q by below unlike seen has = record {
  entries = sym (entries_more plan seen (Release q by) es has.entries ∙ ap (λ (b : Bool). es ++ numbered_from (length es) (Release q by ∷ cond b (Free q ∷ []) [])) (ne_eqb (times (is_release q) (seen ++ Release q by ∷ [])) (references_of plan q) (λ same. unlike (counted ∙ same))));
  size = length-set gone q (get_or gone q 0 + 1) ∙ has.size;
  gone = gone_more plan seen gone q by has.size has.gone below;
}
  where
    counted : get_or gone q 0 + 1 ≡ times (is_release q) (seen ++ Release q by ∷ [])
    counted = ap (λ (n : ℕ). n + 1) (has.gone q below) ∙ sym (times-more (is_release q) seen (Release q by) ∙ ap (λ (b : Bool). times (is_release q) seen + cond b 1 0) (eq-eqb q q refl))

-- a release that completes the references, and the free
pub draws_last : (plan : PlanData) (es : List Entry) (gone : List ℕ) (q : ℕ) (by : Option ℕ) → q < length plan.promises → get_or gone q 0 + 1 ≡ references_of plan q
    → Draws plan (drawn_so_far es gone) (drawn_so_far ((es ++ entry_at (length es) (Release q by) ∷ []) ++ entry_at (length es + 1) (Free q) ∷ []) (slice_set gone q (get_or gone q 0 + 1))) (Release q by ∷ [])
draws_last plan es gone q by below all seen has = record {
  entries = sym (entries_more plan seen (Release q by) es has.entries
      ∙ ap (λ (b : Bool). es ++ numbered_from (length es) (Release q by ∷ cond b (Free q ∷ []) [])) (eq-eqb (times (is_release q) (seen ++ Release q by ∷ [])) (references_of plan q) (sym counted ∙ all))
      ∙ sym (append_assoc es (entry_at (length es) (Release q by) ∷ []) (entry_at (length es + 1) (Free q) ∷ [])));
  size = length-set gone q (get_or gone q 0 + 1) ∙ has.size;
  gone = gone_more plan seen gone q by has.size has.gone below;
}
  where
    counted : get_or gone q 0 + 1 ≡ times (is_release q) (seen ++ Release q by ∷ [])
    counted = ap (λ (n : ℕ). n + 1) (has.gone q below) ∙ sym (times-more (is_release q) seen (Release q by) ∙ ap (λ (b : Bool). times (is_release q) seen + cond b 1 0) (eq-eqb q q refl))

-- nothing is drawn
pub draws_nothing : (plan : PlanData) (es : List Entry) (gone : List ℕ) (n : ℕ) → es ≡ [] → gone ≡ replicate n 0 → n ≡ length plan.promises → HasDrawn plan [] (drawn_so_far es gone)
draws_nothing plan es gone n none zeros count = record {
  entries = none;
  size = ap length zeros ∙ length-replicate n 0 ∙ count;
  gone = λ q below. ap (λ (l : List ℕ). get_or l q 0) zeros ∙ get_or-replicate n q 0 0 (omega arith);
}

-- one drawing behind another
pub draws_then : (plan : PlanData) (a b c : Drawn) (xs ys : List Event) → Draws plan a b xs → Draws plan b c ys → Draws plan a c (xs ++ ys)
draws_then plan a b c xs ys first second seen has = subst (λ (l : List Event). HasDrawn plan l c) (append_assoc seen xs ys) (second (seen ++ xs) (first seen has))

-- what is drawn behind a drawing is one
pub still_drawing : (plan : PlanData) (a b : Drawn) (xs : List Event) → IsDrawing plan a → Draws plan a b xs → IsDrawing plan b
still_drawing plan a b xs (seen, has) draws = (seen ++ xs, draws seen has)

-- the event of one element more
pub draws_more : {X : Type 0} (plan : PlanData) (a b c : Drawn) (event : X → Event) (xs : List X) (i : ℕ) (x d : X) → i < length xs → x ≡ get_or xs i d
    → Draws plan a b (map event (take i xs)) → Draws plan b c (event x ∷ []) → Draws plan a c (map event (take (i + 1) xs))
draws_more {X = X} plan a b c event xs i x d within is draws draw =
    subst (λ (l : List Event). Draws plan a c l)
    (sym (ap (map event) (take_more xs i d within) ∙ map-append event (take i xs) (get_or xs i d ∷ [])))
    (draws_then plan a b c (map event (take i xs)) (event (get_or xs i d) ∷ []) draws (subst (λ (y : X). Draws plan b c (event y ∷ [])) is draw))

-- the events of all elements
pub draws_whole : {X : Type 0} (plan : PlanData) (a b : Drawn) (event : X → Event) (xs : List X) (i : ℕ) → length xs ≤ i → Draws plan a b (map event (take i xs)) → Draws plan a b (map event xs)
draws_whole {X = X} plan a b event xs i past = subst (λ (l : List X). Draws plan a b (map event l)) (take_all i xs past)

pub draws_none : (plan : PlanData) (a : Drawn) → Draws plan a a []
draws_none plan a seen has = subst (λ (l : List Event). HasDrawn plan l a) (sym (append-nil seen)) has

-- the count of a promise's releases is at most the number of entries
pub gone_few : (plan : PlanData) (seen : List Event) (h : Drawn) (q : ℕ) → HasDrawn plan seen h → q < length plan.promises → get_or h.gone q 0 ≤ length h.entries
gone_few plan seen h q has below =
    let a = has.gone q below in
    let b = count_by-le-length (is_release q) seen in
    let c = seen_long plan [] seen in
    let d = ap length has.entries ∙ length-numbered 0 (with_frees plan [] seen) in
    omega arith

-- the same, for what the code pushed

pub pushes_event : (plan : PlanData) (a b : Drawn) (es new : List Entry) (gone : List ℕ) (n : ℕ) (x : Event) → drawn_so_far es gone ≡ a → b ≡ drawn_so_far new gone
    → new ≡ es ++ entry_at n x ∷ [] → n ≡ length es → released x ≡ None → Draws plan a b (x ∷ [])
pushes_event plan a b es new gone n x is_a is_b is_new is_n none =
    subst (λ (h : Drawn). Draws plan h b (x ∷ [])) is_a
    (subst (λ (h : Drawn). Draws plan (drawn_so_far es gone) h (x ∷ [])) (sym (is_b ∙ ap (λ (l : List Entry). drawn_so_far l gone) (is_new ∙ ap (λ (m : ℕ). es ++ entry_at m x ∷ []) is_n)))
    (draws_event plan es gone x none))

pub pushes_release : (plan : PlanData) (a b : Drawn) (es new : List Entry) (gone : List ℕ) (n g q : ℕ) (by : Option ℕ) → drawn_so_far es gone ≡ a → b ≡ drawn_so_far new (slice_set gone q (g + 1))
    → new ≡ es ++ entry_at n (Release q by) ∷ [] → n ≡ length es → g ≡ get_or gone q 0 → q < length plan.promises → g + 1 ≢ references_of plan q → Draws plan a b (Release q by ∷ [])
pushes_release plan a b es new gone n g q by is_a is_b is_new is_n is_g below unlike =
    subst (λ (h : Drawn). Draws plan h b (Release q by ∷ [])) is_a
    (subst (λ (h : Drawn). Draws plan (drawn_so_far es gone) h (Release q by ∷ []))
    (sym (is_b ∙ ap (λ (l : List Entry). drawn_so_far l (slice_set gone q (g + 1))) (is_new ∙ ap (λ (m : ℕ). es ++ entry_at m (Release q by) ∷ []) is_n) ∙ ap (λ (m : ℕ). drawn_so_far (es ++ entry_at (length es) (Release q by) ∷ []) (slice_set gone q (m + 1))) is_g))
    (draws_release plan es gone q by below (λ same. unlike (ap (λ (m : ℕ). m + 1) is_g ∙ same))))

pub pushes_last : (plan : PlanData) (a b : Drawn) (es mid new : List Entry) (gone : List ℕ) (n m g q : ℕ) (by : Option ℕ) → drawn_so_far es gone ≡ a → b ≡ drawn_so_far new (slice_set gone q (g + 1))
    → mid ≡ es ++ entry_at n (Release q by) ∷ [] → n ≡ length es → new ≡ mid ++ entry_at m (Free q) ∷ [] → m ≡ length mid → g ≡ get_or gone q 0 → q < length plan.promises → g + 1 ≡ references_of plan q → Draws plan a b (Release q by ∷ [])
pushes_last plan a b es mid new gone n m g q by is_a is_b is_mid is_n is_new is_m is_g below all =
    let mid_is : mid ≡ es ++ entry_at (length es) (Release q by) ∷ [] = is_mid ∙ ap (λ (k : ℕ). es ++ entry_at k (Release q by) ∷ []) is_n in
    let m_is : m ≡ length es + 1 = is_m ∙ (ap length mid_is ∙ (length-append es (entry_at (length es) (Release q by) ∷ []) ∙ omega arith)) in
    let new_is : new ≡ (es ++ entry_at (length es) (Release q by) ∷ []) ++ entry_at (length es + 1) (Free q) ∷ [] =
    is_new ∙ (ap (λ (l : List Entry). l ++ entry_at m (Free q) ∷ []) mid_is ∙ ap (λ (k : ℕ). (es ++ entry_at (length es) (Release q by) ∷ []) ++ entry_at k (Free q) ∷ []) m_is) in
    subst (λ (h : Drawn). Draws plan h b (Release q by ∷ [])) is_a
    (subst (λ (h : Drawn). Draws plan (drawn_so_far es gone) h (Release q by ∷ []))
    (sym (is_b ∙ ap (λ (l : List Entry). drawn_so_far l (slice_set gone q (g + 1))) new_is ∙ ap (λ (k : ℕ). drawn_so_far ((es ++ entry_at (length es) (Release q by) ∷ []) ++ entry_at (length es + 1) (Free q) ∷ []) (slice_set gone q (k + 1))) is_g))
    (draws_last plan es gone q by below (ap (λ (k : ℕ). k + 1) (sym is_g) ∙ all)))

pub draws_attempts : (plan : PlanData) (a b c : Drawn) (v i : ℕ) (trials : List Trial) (t : Trial) → slice_get trials i ≡ Some t → Draws plan a b (attempts_from v 0 (take i trials)) → Draws plan b c (Attempt v i t ∷ []) → Draws plan a c (attempts_from v 0 (take (i + 1) trials))
draws_attempts plan a b c v i trials t at first second =
    subst (λ (l : List Event). Draws plan a c l) (sym (more 0 i trials at ∙ ap (λ (m : ℕ). attempts_from v 0 (take i trials) ++ Attempt v m t ∷ []) zero_more)) (draws_then plan a b c (attempts_from v 0 (take i trials)) (Attempt v i t ∷ []) first second)
  where
    zero_more : 0 + i ≡ i
    zero_more = omega arith

    suc_more : (i : ℕ) → suc i + 1 ≡ suc (i + 1)
    suc_more i = omega arith

    more : (k i : ℕ) (ts : List Trial) → slice_get ts i ≡ Some t → attempts_from v k (take (i + 1) ts) ≡ attempts_from v k (take i ts) ++ Attempt v (k + i) t ∷ []
    more k i [] at = absurd (none-some t at)
    more k zero (s ∷ ts) at = ap (λ (x : Trial). Attempt v k x ∷ []) (same_Some s t at) ∙ ap (λ (m : ℕ). Attempt v m t ∷ []) (omega arith)
    more k (suc i) (s ∷ ts) at = ap (λ (m : ℕ). attempts_from v k (take m (s ∷ ts))) (suc_more i) ∙ ap (λ (l : List Event). Attempt v k s ∷ l) (more (k + 1) i ts at ∙ ap (λ (m : ℕ). attempts_from v (k + 1) (take i ts) ++ Attempt v m t ∷ []) (omega arith))

-- an element read by a default that it is
index_is : (xs : List ℕ) (i g : ℕ) → i < length xs → g ≡ get_or xs i g → g ≡ get_or xs i 0
index_is xs i g within is = is ∙ same_Some (get_or xs i g) (get_or xs i 0) (sym (slice_get-get_or xs i g within) ∙ slice_get-get_or xs i 0 within)

pub known_index : (plan : PlanData) (seen : List Event) (h : Drawn) (es : List Entry) (gone : List ℕ) (q g : ℕ) → drawn_so_far es gone ≡ h → HasDrawn plan seen h → q < length plan.promises → g ≡ get_or gone q g → (g ≡ get_or gone q 0) × (g ≤ length es)
known_index plan seen h es gone q g is has below at =
    let here : HasDrawn plan seen (drawn_so_far es gone) = subst (HasDrawn plan seen) (sym is) has in
    let size = here.size in
    let same = index_is gone q g (omega arith) at in
    let few = gone_few plan seen (drawn_so_far es gone) q here below in
    (same, omega arith)

pub count_fits : (es new : List Entry) (e : Entry) (g m : ℕ) → g ≤ length es → new ≡ es ++ e ∷ [] → m ≡ length new → m < 2 ^ 64 → g + 1 < 2 ^ 64
count_fits es new e g m few is is_m fits =
    let long = ap length is ∙ length-append es (e ∷ []) in
    omega arith

-- the releases that are counted where the references are complete
pub counted_last : (plan : PlanData) (seen : List Event) (h : Drawn) (es : List Entry) (gone : List ℕ) (g q : ℕ) (by : Option ℕ) → drawn_so_far es gone ≡ h → HasDrawn plan seen h → g ≡ get_or gone q 0 → q < length plan.promises → g + 1 ≡ references_of plan q → times (is_release q) (seen ++ Release q by ∷ []) ≡ references_of plan q
counted_last plan seen h es gone g q by is has same below all =
    let here : HasDrawn plan seen (drawn_so_far es gone) = subst (HasDrawn plan seen) (sym is) has in
    let count = here.gone q below in
    times-more (is_release q) seen (Release q by) ∙ ap (λ (b : Bool). times (is_release q) seen + cond b 1 0) (eq-eqb q q refl) ∙ ap (λ (n : ℕ). n + 1) (sym (same ∙ count)) ∙ all

-- the events of a node before its releases
pub begun : (plan : PlanData) (a b c d e : Drawn) (v k n : ℕ) (trials : List Trial) (puts ps voids vs : List ℕ) → n ≡ k → ps ≡ puts → vs ≡ voids → Draws plan a b (Claim v ∷ []) → Draws plan b c (attempts_from v 0 trials) → Draws plan c d (map (λ q. Put q n) ps) → Draws plan d e (map Void vs) → Draws plan a e (first_events v trials k puts voids)
begun plan a b c d e v k n trials puts ps voids vs is_k is_puts is_voids claims tries put void =
    let put_there : Draws plan c d (map (λ q. Put q k) puts) = subst (λ (m : ℕ). Draws plan c d (map (λ q. Put q m) puts)) is_k (subst (λ (l : List ℕ). Draws plan c d (map (λ q. Put q n) l)) is_puts put) in
    let void_there : Draws plan d e (map Void voids) = subst (λ (l : List ℕ). Draws plan d e (map Void l)) is_voids void in
    draws_then plan a b e (Claim v ∷ []) (attempts_from v 0 trials ++ (map (λ q. Put q k) puts ++ map Void voids)) claims
    (draws_then plan b c e (attempts_from v 0 trials) (map (λ q. Put q k) puts ++ map Void voids) tries
    (draws_then plan c d e (map (λ q. Put q k) puts) (map Void voids) put_there void_there))
