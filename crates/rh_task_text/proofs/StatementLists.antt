-- What statements with lists say, read back from their values.
use Rattle.std.proofs.Common.{◌≡◌, ℕ, zero, suc, ◌<◌, ◌-◌, List, [], ◌∷◌, map, length, take, drop, slice_index_or, refl, ap, arith, subst, sym, ◌∙◌, length-drop}
use Rattle.std.proofs.lemmas.List.{take_all}
use Rattle.rh_words.specs.declared.value.Place.{Place}
use Rattle.rh_words.specs.declared.value.Place.TheVariants.{WordPlace, NamePlace, NumberPlace, PairPlace}
use Rattle.rh_words.specs.declared.value.Value.{Value}
use Rattle.rh_words.specs.declared.value.Value.TheVariants.{AWord, AName, ANumber, APair}
use Rattle.rh_words.specs.declared.keyword.Keyword.TheVariants.{AwaitWord, RowWord, TaskWord, PlainWord, ReplicateWord, AbftWord, ReplayWord, GroupWord, LetWord, LitWord, JoinWord, CheckWord, LinearWord, Stencil2Word, Conserve2Word}
use Rattle.rh_task_text.specs.declared.form.FormKind.{FormKind}
use Rattle.rh_task_text.specs.declared.form.FormKind.TheVariants.{RowForm, PlainForm, ReplicateForm, ReplayForm, AbftForm, GroupForm, LitForm, JoinForm, Stencil2Form, LinearForm, Conserve2Form}
use Rattle.rh_task_text.specs.declared.statement.SchemeText.TheVariants.{Plain, Replicate, Replay, Abft}
use Rattle.rh_task_text.specs.declared.statement.Statement.TheVariants.{Row, Task, Group, LetLit, LetJoin, LetStencil2, CheckLinear, CheckConserve2}
use Rattle.rh_task_text.specs.Forms.{form, awaiting}
use Rattle.rh_task_text.specs.Statements.{awaits_said, pairs_said, terms_said, FitForm, States}
use Rattle.rh_words.specs.Values.{IsAt}
use Rattle.rh_words.specs.Places.{FitPlaces}
use Rattle.rh_task_text.specs.ValueColumns.{names_in, numbers_in, columns_in, values_in}
use Rattle.rh_task_text.proofs.FormsOfStatements.{Opened, opened, nothing}

names_tail : (vs : List Value) → FitPlaces [] (NamePlace ∷ []) (NamePlace ∷ []) vs → map AName (names_in vs) ≡ vs
names_tail [] h = refl
names_tail (v ∷ vs) ((n, at), h) = let e = names_tail vs h in rw at (ap (λ (l : List Value). AName n ∷ l) e)

numbers_tail : (vs : List Value) → FitPlaces [] (NumberPlace ∷ []) (NumberPlace ∷ []) vs → map ANumber (numbers_in vs) ≡ vs
numbers_tail [] h = refl
numbers_tail (v ∷ vs) ((n, at), h) = let e = numbers_tail vs h in rw at (ap (λ (l : List Value). ANumber n ∷ l) e)

awaits_tail : (vs : List Value) → FitPlaces [] awaiting (NamePlace ∷ []) vs → awaits_said (names_in vs) ≡ vs
awaits_tail [] h = refl
awaits_tail (v ∷ []) (at, h) = absurd h
awaits_tail (v ∷ w ∷ vs) (word, ((q, at), h)) = let e = names_tail vs h in rw (word, at) (ap (λ (l : List Value). AWord AwaitWord ∷ AName q ∷ l) e)

pairs_tail : (vs : List Value) → FitPlaces [] (PairPlace ∷ []) (PairPlace ∷ []) vs → (pairs_said (columns_in vs) (values_in vs) ≡ vs) × (length (columns_in vs) ≡ length (values_in vs))
pairs_tail [] h = (refl, refl)
pairs_tail (v ∷ vs) ((j, n, at), h) = let e = pairs_tail vs h in rw at (ap (λ (l : List Value). APair j n ∷ l) e.0, ap suc e.1)

terms_tail : (vs : List Value) → FitPlaces [] (NamePlace ∷ NumberPlace ∷ []) (NamePlace ∷ NumberPlace ∷ []) vs → (terms_said (names_in vs) (numbers_in vs) ≡ vs) × (length (names_in vs) ≡ length (numbers_in vs))
terms_tail [] h = (refl, refl)
terms_tail (v ∷ []) (at, h) = absurd h
terms_tail (v ∷ w ∷ vs) ((q, at), ((c, then), h)) = let e = terms_tail vs h in rw (at, then) (ap (λ (l : List Value). AName q ∷ ANumber c ∷ l) e.0, ap suc e.1)

-- what is left of a list is all of its end
rest_is : (n : ℕ) (vs : List Value) → take (length vs - n) (drop n vs) ≡ drop n vs
rest_is n vs = take_all (length vs - n) (drop n vs) (omega (arith, length-drop n vs))

abbrev pub left_after : ℕ → List Value → List Value
left_after n vs = take (length vs - n) (drop n vs)

the_name : (v : Value) (x y : List ℕ) → v ≡ AName x → v ≡ AName y → x ≡ y
the_name v x y a b = cc

the_number : (v : Value) (x y : ℕ) → v ≡ ANumber x → v ≡ ANumber y → x ≡ y
the_number v x y a b = cc

pub row_states : (vs : List Value) (js ns : List ℕ) → FitForm (form RowForm) vs → js ≡ columns_in (left_after 1 vs) → ns ≡ values_in (left_after 1 vs) → States RowForm vs (Row js ns)
row_states vs js ns fits js_is ns_is = by_parts (opened (WordPlace (form RowForm).first ∷ (form RowForm).places) (form RowForm).more (form RowForm).again vs fits) where
  by_parts : Opened (WordPlace (form RowForm).first ∷ (form RowForm).places) (form RowForm).more (form RowForm).again vs → States RowForm vs (Row js ns)
  by_parts (r1, e1, h) =
      let whole : vs ≡ AWord RowWord ∷ r1 = cc in
      let left : left_after 1 vs ≡ r1 = rest_is 1 vs ∙ ap (λ (l : List Value). drop 1 l) whole in
      let js_all : js ≡ columns_in r1 = js_is ∙ ap columns_in left in
      let ns_all : ns ≡ values_in r1 = ns_is ∙ ap values_in left in
      let t = pairs_tail r1 h in
      let t0 = t.0 in
      (rw (js_all, ns_all) (rw t0 (sym whole)), rw (js_all, ns_all) t.1, refl)

pub plain_states : (vs : List Value) (v1 : Value) (name : List ℕ) (qs : List (List ℕ)) → FitForm (form PlainForm) vs → v1 ≡ slice_index_or vs 1 v1 → v1 ≡ AName name → qs ≡ names_in (left_after 3 vs) → States PlainForm vs (Task name Plain qs)
plain_states vs v1 name qs fits at1 is1 qs_is = by_parts (opened (WordPlace (form PlainForm).first ∷ (form PlainForm).places) (form PlainForm).more (form PlainForm).again vs fits) where
  by_parts : Opened (WordPlace (form PlainForm).first ∷ (form PlainForm).places) (form PlainForm).more (form PlainForm).again vs → States PlainForm vs (Task name Plain qs)
  by_parts (r1, e1, (name0, r2, e2, (r3, e3, h))) =
      let whole : vs ≡ AWord TaskWord ∷ AName name0 ∷ AWord PlainWord ∷ r3 = cc in
      let left : left_after 3 vs ≡ r3 = rest_is 3 vs ∙ ap (λ (l : List Value). drop 3 l) whole in
      let name_at : v1 ≡ AName name0 = at1 ∙ ap (λ (l : List Value). slice_index_or l 1 v1) whole in
      let name_is : name ≡ name0 = cc in
      let qs_all : qs ≡ names_in r3 = qs_is ∙ ap names_in left in
      let t = awaits_tail r3 h in
      (rw (qs_all, name_is) (rw t (sym whole)), tt, refl)

pub replicate_states : (vs : List Value) (v1 : Value) (name : List ℕ) (qs : List (List ℕ)) → FitForm (form ReplicateForm) vs → v1 ≡ slice_index_or vs 1 v1 → v1 ≡ AName name → qs ≡ names_in (left_after 3 vs) → States ReplicateForm vs (Task name Replicate qs)
replicate_states vs v1 name qs fits at1 is1 qs_is = by_parts (opened (WordPlace (form ReplicateForm).first ∷ (form ReplicateForm).places) (form ReplicateForm).more (form ReplicateForm).again vs fits) where
  by_parts : Opened (WordPlace (form ReplicateForm).first ∷ (form ReplicateForm).places) (form ReplicateForm).more (form ReplicateForm).again vs → States ReplicateForm vs (Task name Replicate qs)
  by_parts (r1, e1, (name0, r2, e2, (r3, e3, h))) =
      let whole : vs ≡ AWord TaskWord ∷ AName name0 ∷ AWord ReplicateWord ∷ r3 = cc in
      let left : left_after 3 vs ≡ r3 = rest_is 3 vs ∙ ap (λ (l : List Value). drop 3 l) whole in
      let name_at : v1 ≡ AName name0 = at1 ∙ ap (λ (l : List Value). slice_index_or l 1 v1) whole in
      let name_is : name ≡ name0 = cc in
      let qs_all : qs ≡ names_in r3 = qs_is ∙ ap names_in left in
      let t = awaits_tail r3 h in
      (rw (qs_all, name_is) (rw t (sym whole)), tt, refl)

pub abft_states : (vs : List Value) (v1 : Value) (name : List ℕ) (qs : List (List ℕ)) → FitForm (form AbftForm) vs → v1 ≡ slice_index_or vs 1 v1 → v1 ≡ AName name → qs ≡ names_in (left_after 3 vs) → States AbftForm vs (Task name Abft qs)
abft_states vs v1 name qs fits at1 is1 qs_is = by_parts (opened (WordPlace (form AbftForm).first ∷ (form AbftForm).places) (form AbftForm).more (form AbftForm).again vs fits) where
  by_parts : Opened (WordPlace (form AbftForm).first ∷ (form AbftForm).places) (form AbftForm).more (form AbftForm).again vs → States AbftForm vs (Task name Abft qs)
  by_parts (r1, e1, (name0, r2, e2, (r3, e3, h))) =
      let whole : vs ≡ AWord TaskWord ∷ AName name0 ∷ AWord AbftWord ∷ r3 = cc in
      let left : left_after 3 vs ≡ r3 = rest_is 3 vs ∙ ap (λ (l : List Value). drop 3 l) whole in
      let name_at : v1 ≡ AName name0 = at1 ∙ ap (λ (l : List Value). slice_index_or l 1 v1) whole in
      let name_is : name ≡ name0 = cc in
      let qs_all : qs ≡ names_in r3 = qs_is ∙ ap names_in left in
      let t = awaits_tail r3 h in
      (rw (qs_all, name_is) (rw t (sym whole)), tt, refl)

pub replay_states : (vs : List Value) (v1 : Value) (name : List ℕ) (v3 : Value) (limit : ℕ) (qs : List (List ℕ)) → FitForm (form ReplayForm) vs → v1 ≡ slice_index_or vs 1 v1 → v1 ≡ AName name → v3 ≡ slice_index_or vs 3 v3 → v3 ≡ ANumber limit → qs ≡ names_in (left_after 4 vs) → States ReplayForm vs (Task name (Replay limit) qs)
replay_states vs v1 name v3 limit qs fits at1 is1 at3 is3 qs_is = by_parts (opened (WordPlace (form ReplayForm).first ∷ (form ReplayForm).places) (form ReplayForm).more (form ReplayForm).again vs fits) where
  by_parts : Opened (WordPlace (form ReplayForm).first ∷ (form ReplayForm).places) (form ReplayForm).more (form ReplayForm).again vs → States ReplayForm vs (Task name (Replay limit) qs)
  by_parts (r1, e1, (name0, r2, e2, (r3, e3, (limit0, r4, e4, h)))) =
      let whole : vs ≡ AWord TaskWord ∷ AName name0 ∷ AWord ReplayWord ∷ ANumber limit0 ∷ r4 = cc in
      let left : left_after 4 vs ≡ r4 = rest_is 4 vs ∙ ap (λ (l : List Value). drop 4 l) whole in
      let name_at : v1 ≡ AName name0 = at1 ∙ ap (λ (l : List Value). slice_index_or l 1 v1) whole in
      let name_is : name ≡ name0 = cc in
      let limit_at : v3 ≡ ANumber limit0 = at3 ∙ ap (λ (l : List Value). slice_index_or l 3 v3) whole in
      let limit_is : limit ≡ limit0 = cc in
      let qs_all : qs ≡ names_in r4 = qs_is ∙ ap names_in left in
      let t = awaits_tail r4 h in
      (rw (qs_all, name_is, limit_is) (rw t (sym whole)), tt, refl)

pub group_states : (vs : List Value) (v1 : Value) (name : List ℕ) (qs : List (List ℕ)) → FitForm (form GroupForm) vs → v1 ≡ slice_index_or vs 1 v1 → v1 ≡ AName name → qs ≡ names_in (left_after 2 vs) → States GroupForm vs (Group name qs)
group_states vs v1 name qs fits at1 is1 qs_is = by_parts (opened (WordPlace (form GroupForm).first ∷ (form GroupForm).places) (form GroupForm).more (form GroupForm).again vs fits) where
  by_parts : Opened (WordPlace (form GroupForm).first ∷ (form GroupForm).places) (form GroupForm).more (form GroupForm).again vs → States GroupForm vs (Group name qs)
  by_parts (r1, e1, (name0, r2, e2, h)) =
      let whole : vs ≡ AWord GroupWord ∷ AName name0 ∷ r2 = cc in
      let left : left_after 2 vs ≡ r2 = rest_is 2 vs ∙ ap (λ (l : List Value). drop 2 l) whole in
      let name_at : v1 ≡ AName name0 = at1 ∙ ap (λ (l : List Value). slice_index_or l 1 v1) whole in
      let name_is : name ≡ name0 = cc in
      let qs_all : qs ≡ names_in r2 = qs_is ∙ ap names_in left in
      let t = awaits_tail r2 h in
      (rw (qs_all, name_is) (rw t (sym whole)), tt, refl)

pub lit_states : (vs : List Value) (v1 : Value) (x : List ℕ) (ns : List ℕ) → FitForm (form LitForm) vs → v1 ≡ slice_index_or vs 1 v1 → v1 ≡ AName x → ns ≡ numbers_in (left_after 3 vs) → States LitForm vs (LetLit x ns)
lit_states vs v1 x ns fits at1 is1 ns_is = by_parts (opened (WordPlace (form LitForm).first ∷ (form LitForm).places) (form LitForm).more (form LitForm).again vs fits) where
  by_parts : Opened (WordPlace (form LitForm).first ∷ (form LitForm).places) (form LitForm).more (form LitForm).again vs → States LitForm vs (LetLit x ns)
  by_parts (r1, e1, (x0, r2, e2, (r3, e3, (w0, r4, e4, h)))) =
      let whole : vs ≡ AWord LetWord ∷ AName x0 ∷ AWord LitWord ∷ r3 = cc in
      let left : left_after 3 vs ≡ r3 = rest_is 3 vs ∙ ap (λ (l : List Value). drop 3 l) whole in
      let x_at : v1 ≡ AName x0 = at1 ∙ ap (λ (l : List Value). slice_index_or l 1 v1) whole in
      let x_is : x ≡ x0 = cc in
      let ns_all : ns ≡ numbers_in r3 = ns_is ∙ ap numbers_in left in
      let e : map ANumber (numbers_in r4) ≡ r4 = numbers_tail r4 h in
      let t : map ANumber (numbers_in r3) ≡ r3 = rw e4 (ap (λ (l : List Value). ANumber w0 ∷ l) e) in
      let long : 0 < length (numbers_in r3) = rw e4 (omega arith) in
      (rw (ns_all, x_is) (rw t (sym whole)), rw ns_all long, refl)

pub join_states : (vs : List Value) (v1 : Value) (x : List ℕ) (qs : List (List ℕ)) → FitForm (form JoinForm) vs → v1 ≡ slice_index_or vs 1 v1 → v1 ≡ AName x → qs ≡ names_in (left_after 3 vs) → States JoinForm vs (LetJoin x qs)
join_states vs v1 x qs fits at1 is1 qs_is = by_parts (opened (WordPlace (form JoinForm).first ∷ (form JoinForm).places) (form JoinForm).more (form JoinForm).again vs fits) where
  by_parts : Opened (WordPlace (form JoinForm).first ∷ (form JoinForm).places) (form JoinForm).more (form JoinForm).again vs → States JoinForm vs (LetJoin x qs)
  by_parts (r1, e1, (x0, r2, e2, (r3, e3, (a0, r4, e4, h)))) =
      let whole : vs ≡ AWord LetWord ∷ AName x0 ∷ AWord JoinWord ∷ r3 = cc in
      let left : left_after 3 vs ≡ r3 = rest_is 3 vs ∙ ap (λ (l : List Value). drop 3 l) whole in
      let x_at : v1 ≡ AName x0 = at1 ∙ ap (λ (l : List Value). slice_index_or l 1 v1) whole in
      let x_is : x ≡ x0 = cc in
      let qs_all : qs ≡ names_in r3 = qs_is ∙ ap names_in left in
      let e : map AName (names_in r4) ≡ r4 = names_tail r4 h in
      let t : map AName (names_in r3) ≡ r3 = rw e4 (ap (λ (l : List Value). AName a0 ∷ l) e) in
      let long : 0 < length (names_in r3) = rw e4 (omega arith) in
      (rw (qs_all, x_is) (rw t (sym whole)), rw qs_all long, refl)

pub linear_states : (vs : List Value) (v2 : Value) (promise : List ℕ) (v3 : Value) (base : ℕ) (qs : List (List ℕ)) (cs : List ℕ) → FitForm (form LinearForm) vs → v2 ≡ slice_index_or vs 2 v2 → v2 ≡ AName promise → v3 ≡ slice_index_or vs 3 v3 → v3 ≡ ANumber base → qs ≡ names_in (left_after 4 vs) → cs ≡ numbers_in (left_after 4 vs) → States LinearForm vs (CheckLinear promise base qs cs)
linear_states vs v2 promise v3 base qs cs fits at2 is2 at3 is3 qs_is cs_is = by_parts (opened (WordPlace (form LinearForm).first ∷ (form LinearForm).places) (form LinearForm).more (form LinearForm).again vs fits) where
  by_parts : Opened (WordPlace (form LinearForm).first ∷ (form LinearForm).places) (form LinearForm).more (form LinearForm).again vs → States LinearForm vs (CheckLinear promise base qs cs)
  by_parts (r1, e1, (r2, e2, (promise0, r3, e3, (base0, r4, e4, (q0, r5, e5, (c0, r6, e6, h)))))) =
      let whole : vs ≡ AWord CheckWord ∷ AWord LinearWord ∷ AName promise0 ∷ ANumber base0 ∷ r4 = cc in
      let left : left_after 4 vs ≡ r4 = rest_is 4 vs ∙ ap (λ (l : List Value). drop 4 l) whole in
      let promise_at : v2 ≡ AName promise0 = at2 ∙ ap (λ (l : List Value). slice_index_or l 2 v2) whole in
      let promise_is : promise ≡ promise0 = cc in
      let base_at : v3 ≡ ANumber base0 = at3 ∙ ap (λ (l : List Value). slice_index_or l 3 v3) whole in
      let base_is : base ≡ base0 = cc in
      let qs_all : qs ≡ names_in r4 = qs_is ∙ ap names_in left in
      let cs_all : cs ≡ numbers_in r4 = cs_is ∙ ap numbers_in left in
      let e = terms_tail r6 h in
      let e0 = e.0 in
      let e1 = e.1 in
      let front : r4 ≡ AName q0 ∷ ANumber c0 ∷ r6 = cc in
      let t : terms_said (names_in r4) (numbers_in r4) ≡ r4 = rw front (ap (λ (l : List Value). AName q0 ∷ ANumber c0 ∷ l) e0) in
      let long : (0 < length (names_in r4)) × (length (names_in r4) ≡ length (numbers_in r4)) = rw front (omega arith, ap suc e1) in
      (rw (qs_all, cs_all, promise_is, base_is) (rw t (sym whole)), rw (qs_all, cs_all) long, refl)

-- the value fits the place of this number, where there is one
abbrev pub NthFits : List Place → ℕ → Value → Type 0
NthFits [] i v = Unit {0}
NthFits (p ∷ places) zero v = IsAt p v
NthFits (p ∷ places) (suc i) v = NthFits places i v

-- the value of this number fits its place
fit_nth : (places more again : List Place) (vs : List Value) (i : ℕ) (v : Value) → FitPlaces places more again vs → v ≡ slice_index_or vs i v → NthFits places i v
fit_nth [] more again vs i v fits at = tt
fit_nth (p ∷ places) more again [] i v fits at = absurd fits
fit_nth (p ∷ places) more again (w ∷ vs) zero v fits at = subst (λ (u : Value). IsAt p u) (sym at) fits.0
fit_nth (p ∷ places) more again (w ∷ vs) (suc i) v fits at = fit_nth places more again vs i v fits.1 at

pub fit_form : (k : FormKind) (vs : List Value) (i : ℕ) (v : Value) → FitForm (form k) vs → v ≡ slice_index_or vs i v → NthFits (WordPlace (form k).first ∷ (form k).places) i v
fit_form k vs i v fits at = fit_nth (WordPlace (form k).first ∷ (form k).places) (form k).more (form k).again vs i v fits at

pub stencil2_states : (vs : List Value) (v1 : Value) (x : List ℕ) (v3 : Value) (north : List ℕ) (v4 : Value) (south : List ℕ) (v5 : Value) (west : List ℕ) (v6 : Value) (east : List ℕ) (v7 : Value) (m : List ℕ) (v8 : Value) (cols : ℕ) (v9 : Value) (k : ℕ) (v10 : Value) (s : ℕ) → FitForm (form Stencil2Form) vs → v1 ≡ slice_index_or vs 1 v1 → v1 ≡ AName x → v3 ≡ slice_index_or vs 3 v3 → v3 ≡ AName north → v4 ≡ slice_index_or vs 4 v4 → v4 ≡ AName south → v5 ≡ slice_index_or vs 5 v5 → v5 ≡ AName west → v6 ≡ slice_index_or vs 6 v6 → v6 ≡ AName east → v7 ≡ slice_index_or vs 7 v7 → v7 ≡ AName m → v8 ≡ slice_index_or vs 8 v8 → v8 ≡ ANumber cols → v9 ≡ slice_index_or vs 9 v9 → v9 ≡ ANumber k → v10 ≡ slice_index_or vs 10 v10 → v10 ≡ ANumber s → States Stencil2Form vs (LetStencil2 x north south west east m cols k s)
stencil2_states vs v1 x v3 north v4 south v5 west v6 east v7 m v8 cols v9 k v10 s fits at1 is1 at3 is3 at4 is4 at5 is5 at6 is6 at7 is7 at8 is8 at9 is9 at10 is10 = by_parts (opened (WordPlace (form Stencil2Form).first ∷ (form Stencil2Form).places) (form Stencil2Form).more (form Stencil2Form).again vs fits) where
  by_parts : Opened (WordPlace (form Stencil2Form).first ∷ (form Stencil2Form).places) (form Stencil2Form).more (form Stencil2Form).again vs → States Stencil2Form vs (LetStencil2 x north south west east m cols k s)
  by_parts (r1, e1, (x0, r2, e2, (r3, e3, (north0, r4, e4, (south0, r5, e5, (west0, r6, e6, (east0, r7, e7, (m0, r8, e8, (cols0, r9, e9, (k0, r10, e10, (s0, r11, e11, h))))))))))) =
      let end = nothing [] r11 h in
      let whole : vs ≡ AWord LetWord ∷ AName x0 ∷ AWord Stencil2Word ∷ AName north0 ∷ AName south0 ∷ AName west0 ∷ AName east0 ∷ AName m0 ∷ ANumber cols0 ∷ ANumber k0 ∷ ANumber s0 ∷ [] = cc in
      let x_at : v1 ≡ AName x0 = at1 ∙ ap (λ (l : List Value). slice_index_or l 1 v1) whole in
      let x_is : x ≡ x0 = cc in
      let north_at : v3 ≡ AName north0 = at3 ∙ ap (λ (l : List Value). slice_index_or l 3 v3) whole in
      let north_is : north ≡ north0 = cc in
      let south_at : v4 ≡ AName south0 = at4 ∙ ap (λ (l : List Value). slice_index_or l 4 v4) whole in
      let south_is : south ≡ south0 = cc in
      let west_at : v5 ≡ AName west0 = at5 ∙ ap (λ (l : List Value). slice_index_or l 5 v5) whole in
      let west_is : west ≡ west0 = cc in
      let east_at : v6 ≡ AName east0 = at6 ∙ ap (λ (l : List Value). slice_index_or l 6 v6) whole in
      let east_is : east ≡ east0 = cc in
      let m_at : v7 ≡ AName m0 = at7 ∙ ap (λ (l : List Value). slice_index_or l 7 v7) whole in
      let m_is : m ≡ m0 = cc in
      let cols_at : v8 ≡ ANumber cols0 = at8 ∙ ap (λ (l : List Value). slice_index_or l 8 v8) whole in
      let cols_is : cols ≡ cols0 = cc in
      let k_at : v9 ≡ ANumber k0 = at9 ∙ ap (λ (l : List Value). slice_index_or l 9 v9) whole in
      let k_is : k ≡ k0 = cc in
      let s_at : v10 ≡ ANumber s0 = at10 ∙ ap (λ (l : List Value). slice_index_or l 10 v10) whole in
      let s_is : s ≡ s0 = cc in
      (rw (x_is, north_is, south_is, west_is, east_is, m_is, cols_is, k_is, s_is) (sym whole), tt, refl)

pub conserve2_states : (vs : List Value) (v2 : Value) (promise : List ℕ) (v3 : Value) (north : List ℕ) (v4 : Value) (south : List ℕ) (v5 : Value) (west : List ℕ) (v6 : Value) (east : List ℕ) (v7 : Value) (m : List ℕ) (v8 : Value) (cols : ℕ) (v9 : Value) (k : ℕ) (v10 : Value) (s : ℕ) → FitForm (form Conserve2Form) vs → v2 ≡ slice_index_or vs 2 v2 → v2 ≡ AName promise → v3 ≡ slice_index_or vs 3 v3 → v3 ≡ AName north → v4 ≡ slice_index_or vs 4 v4 → v4 ≡ AName south → v5 ≡ slice_index_or vs 5 v5 → v5 ≡ AName west → v6 ≡ slice_index_or vs 6 v6 → v6 ≡ AName east → v7 ≡ slice_index_or vs 7 v7 → v7 ≡ AName m → v8 ≡ slice_index_or vs 8 v8 → v8 ≡ ANumber cols → v9 ≡ slice_index_or vs 9 v9 → v9 ≡ ANumber k → v10 ≡ slice_index_or vs 10 v10 → v10 ≡ ANumber s → States Conserve2Form vs (CheckConserve2 promise north south west east m cols k s)
conserve2_states vs v2 promise v3 north v4 south v5 west v6 east v7 m v8 cols v9 k v10 s fits at2 is2 at3 is3 at4 is4 at5 is5 at6 is6 at7 is7 at8 is8 at9 is9 at10 is10 = by_parts (opened (WordPlace (form Conserve2Form).first ∷ (form Conserve2Form).places) (form Conserve2Form).more (form Conserve2Form).again vs fits) where
  by_parts : Opened (WordPlace (form Conserve2Form).first ∷ (form Conserve2Form).places) (form Conserve2Form).more (form Conserve2Form).again vs → States Conserve2Form vs (CheckConserve2 promise north south west east m cols k s)
  by_parts (r1, e1, (r2, e2, (promise0, r3, e3, (north0, r4, e4, (south0, r5, e5, (west0, r6, e6, (east0, r7, e7, (m0, r8, e8, (cols0, r9, e9, (k0, r10, e10, (s0, r11, e11, h))))))))))) =
      let end = nothing [] r11 h in
      let whole : vs ≡ AWord CheckWord ∷ AWord Conserve2Word ∷ AName promise0 ∷ AName north0 ∷ AName south0 ∷ AName west0 ∷ AName east0 ∷ AName m0 ∷ ANumber cols0 ∷ ANumber k0 ∷ ANumber s0 ∷ [] = cc in
      let promise_at : v2 ≡ AName promise0 = at2 ∙ ap (λ (l : List Value). slice_index_or l 2 v2) whole in
      let promise_is : promise ≡ promise0 = cc in
      let north_at : v3 ≡ AName north0 = at3 ∙ ap (λ (l : List Value). slice_index_or l 3 v3) whole in
      let north_is : north ≡ north0 = cc in
      let south_at : v4 ≡ AName south0 = at4 ∙ ap (λ (l : List Value). slice_index_or l 4 v4) whole in
      let south_is : south ≡ south0 = cc in
      let west_at : v5 ≡ AName west0 = at5 ∙ ap (λ (l : List Value). slice_index_or l 5 v5) whole in
      let west_is : west ≡ west0 = cc in
      let east_at : v6 ≡ AName east0 = at6 ∙ ap (λ (l : List Value). slice_index_or l 6 v6) whole in
      let east_is : east ≡ east0 = cc in
      let m_at : v7 ≡ AName m0 = at7 ∙ ap (λ (l : List Value). slice_index_or l 7 v7) whole in
      let m_is : m ≡ m0 = cc in
      let cols_at : v8 ≡ ANumber cols0 = at8 ∙ ap (λ (l : List Value). slice_index_or l 8 v8) whole in
      let cols_is : cols ≡ cols0 = cc in
      let k_at : v9 ≡ ANumber k0 = at9 ∙ ap (λ (l : List Value). slice_index_or l 9 v9) whole in
      let k_is : k ≡ k0 = cc in
      let s_at : v10 ≡ ANumber s0 = at10 ∙ ap (λ (l : List Value). slice_index_or l 10 v10) whole in
      let s_is : s ≡ s0 = cc in
      (rw (promise_is, north_is, south_is, west_is, east_is, m_is, cols_is, k_is, s_is) (sym whole), tt, refl)
