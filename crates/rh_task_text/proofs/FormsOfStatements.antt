-- Each statement has the shape of its form, and values of a form's shape are those of a statement.
use Rattle.std.proofs.Common.{◌≡◌, ℕ, suc, List, [], ◌∷◌, Option, Some, None, Bool, true, false, map, length, refl, ap, arith, subst, sym}
use Rattle.rh_words.specs.declared.value.Place.{Place}
use Rattle.rh_words.specs.declared.value.Place.TheVariants.{WordPlace, NamePlace, NumberPlace, MaskPlace, PairPlace}
use Rattle.rh_words.specs.declared.value.Value.{Value}
use Rattle.rh_words.specs.declared.value.Value.TheVariants.{AWord, AName, ANumber, AMask, APair}
use Rattle.rh_words.specs.declared.keyword.Keyword.TheVariants.{TempWord, WhenWord}
use Rattle.rh_task_text.specs.declared.form.FormKind.{FormKind}
use Rattle.rh_task_text.specs.declared.form.FormKind.TheVariants.{PromiseForm, MatrixForm, RowForm, PlainForm, ReplicateForm, ReplayForm, AbftForm, FinishForm, GroupForm, EndForm, LitForm, GenForm, AddForm, SubForm, MulForm, ScaleForm, ShiftForm, CutForm, JoinForm, SumForm, CountForm, Stencil1Form, Stencil2Form, ProductForm, PutForm, DropForm, RangeForm, TotalForm, LinearForm, ConserveForm, Conserve2Form, ProductCheckForm, UserForm}
use Rattle.rh_task_text.specs.declared.statement.SchemeText.TheVariants.{Plain, Replicate, Replay, Abft}
use Rattle.rh_task_text.specs.declared.statement.Statement.{Statement}
use Rattle.rh_task_text.specs.declared.statement.Statement.TheVariants.{Promise, Matrix, Row, Task, Finish, Group, End, LetLit, LetGen, LetAdd, LetSub, LetMul, LetScale, LetShift, LetCut, LetJoin, LetSum, LetCount, LetStencil1, LetStencil2, LetProduct, Put, DropAwait, CheckRange, CheckTotal, CheckLinear, CheckConserve, CheckConserve2, CheckProduct, CheckUser}
use Rattle.rh_task_text.specs.Forms.{form, awaiting}
use Rattle.rh_task_text.specs.Statements.{said, kind_of, IsSaidWhole, awaits_said, when_said, temp_said, pairs_said, terms_said, FitForm, Spells, States}
use Rattle.rh_words.specs.Places.{FitPlaces}
use Rattle.rh_words.specs.Values.{SayWords}

-- values of fixed places, one by one
abbrev pub Opened : List Place → List Place → List Place → List Value → Type 0
Opened [] next again vs = FitPlaces [] next again vs
Opened (WordPlace k ∷ now) next again vs = (rest : List Value) × (vs ≡ AWord k ∷ rest) × Opened now next again rest
Opened (NamePlace ∷ now) next again vs = (name : List ℕ) × (rest : List Value) × (vs ≡ AName name ∷ rest) × Opened now next again rest
Opened (NumberPlace ∷ now) next again vs = (n : ℕ) × (rest : List Value) × (vs ≡ ANumber n ∷ rest) × Opened now next again rest
Opened (MaskPlace ∷ now) next again vs = (n : ℕ) × (rest : List Value) × (vs ≡ AMask n ∷ rest) × Opened now next again rest
Opened (PairPlace ∷ now) next again vs = (j : ℕ) × (n : ℕ) × (rest : List Value) × (vs ≡ APair j n ∷ rest) × Opened now next again rest

pub opened : (now next again : List Place) (vs : List Value) → FitPlaces now next again vs → Opened now next again vs
opened [] next again vs h = h
opened (p ∷ now) next again [] h = absurd h
opened (WordPlace k ∷ now) next again (v ∷ vs) (at, h) = (vs, ap (λ (u : Value). u ∷ vs) at, opened now next again vs h)
opened (NamePlace ∷ now) next again (v ∷ vs) ((name, at), h) = (name, vs, ap (λ (u : Value). u ∷ vs) at, opened now next again vs h)
opened (NumberPlace ∷ now) next again (v ∷ vs) ((n, at), h) = (n, vs, ap (λ (u : Value). u ∷ vs) at, opened now next again vs h)
opened (MaskPlace ∷ now) next again (v ∷ vs) ((n, at), h) = (n, vs, ap (λ (u : Value). u ∷ vs) at, opened now next again vs h)
opened (PairPlace ∷ now) next again (v ∷ vs) ((j, n, at), h) = (j, n, vs, ap (λ (u : Value). u ∷ vs) at, opened now next again vs h)

pub nothing : (again : List Place) (vs : List Value) → FitPlaces [] [] again vs → vs ≡ []
nothing again [] h = refl
nothing again (v ∷ vs) h = absurd h

-- a round of names
names : (vs : List Value) → FitPlaces [] (NamePlace ∷ []) (NamePlace ∷ []) vs → (ns : List (List ℕ)) × (map AName ns ≡ vs)
names [] h = ([], refl)
names (v ∷ vs) ((n, at), h) = let r = names vs h in let e : map AName r.0 ≡ vs = r.1 in (n ∷ r.0, cc)

numbers : (vs : List Value) → FitPlaces [] (NumberPlace ∷ []) (NumberPlace ∷ []) vs → (ns : List ℕ) × (map ANumber ns ≡ vs)
numbers [] h = ([], refl)
numbers (v ∷ vs) ((n, at), h) = let r = numbers vs h in let e : map ANumber r.0 ≡ vs = r.1 in (n ∷ r.0, cc)

pairs : (vs : List Value) → FitPlaces [] (PairPlace ∷ []) (PairPlace ∷ []) vs → (js : List ℕ) × (ns : List ℕ) × (pairs_said js ns ≡ vs) × (length js ≡ length ns)
pairs [] h = ([], [], refl, refl)
pairs (v ∷ vs) ((j, n, at), h) = let r = pairs vs h in let e : pairs_said r.0 r.1 ≡ vs = r.2 in let l : length r.0 ≡ length r.1 = r.3 in (j ∷ r.0, n ∷ r.1, cc, ap suc l)

terms : (vs : List Value) → FitPlaces [] (NamePlace ∷ NumberPlace ∷ []) (NamePlace ∷ NumberPlace ∷ []) vs → (qs : List (List ℕ)) × (cs : List ℕ) × (terms_said qs cs ≡ vs) × (length qs ≡ length cs)
terms [] h = ([], [], refl, refl)
terms (v ∷ []) (at, h) = absurd h
terms (v ∷ w ∷ vs) ((q, at), ((c, then), h)) = let r = terms vs h in let e : terms_said r.0 r.1 ≡ vs = r.2 in let l : length r.0 ≡ length r.1 = r.3 in (q ∷ r.0, c ∷ r.1, cc, ap suc l)

awaits : (vs : List Value) → FitPlaces [] awaiting (NamePlace ∷ []) vs → (qs : List (List ℕ)) × (awaits_said qs ≡ vs)
awaits [] h = ([], refl)
awaits (v ∷ []) (at, h) = absurd h
awaits (v ∷ w ∷ vs) (word, ((q, at), h)) = let r = names vs h in let e : map AName r.0 ≡ vs = r.1 in (q ∷ r.0, cc)

maybe_temp : (vs : List Value) → FitPlaces [] (WordPlace TempWord ∷ []) [] vs → (temp : Bool) × (temp_said temp ≡ vs)
maybe_temp [] h = (false, refl)
maybe_temp (v ∷ vs) (at, h) = let e = nothing [] vs h in (true, cc)

maybe_when : (vs : List Value) → FitPlaces [] (WordPlace WhenWord ∷ NamePlace ∷ []) [] vs → (when : Option (List ℕ)) × (when_said when ≡ vs)
maybe_when [] h = (None, refl)
maybe_when (v ∷ []) (at, h) = absurd h
maybe_when (v ∷ w ∷ vs) (word, ((y, at), h)) = let e = nothing [] vs h in (Some y, cc)

abbrev pub IsStated : FormKind → List Value → Type 0
IsStated k vs = (s : Statement) × States k vs s

stated_open : (k : FormKind) (vs : List Value) → Opened (WordPlace (form k).first ∷ (form k).places) (form k).more (form k).again vs → IsStated k vs
stated_open PromiseForm vs (r1, e1, (name, r2, e2, (len, r3, e3, h))) = let t = maybe_temp r3 h in let e = t.1 in (Promise name len t.0, (cc, tt, refl))
stated_open MatrixForm vs (r1, e1, (name, r2, e2, (rows, r3, e3, (cols, r4, e4, h)))) = let e = nothing [] r4 h in (Matrix name rows cols, (cc, tt, refl))
stated_open RowForm vs (r1, e1, h) = let t = pairs r1 h in let e = t.2 in (Row t.0 t.1, (cc, t.3, refl))
stated_open PlainForm vs (r1, e1, (name, r2, e2, (r3, e3, h))) = let t = awaits r3 h in let e = t.1 in (Task name Plain t.0, (cc, tt, refl))
stated_open ReplicateForm vs (r1, e1, (name, r2, e2, (r3, e3, h))) = let t = awaits r3 h in let e = t.1 in (Task name Replicate t.0, (cc, tt, refl))
stated_open ReplayForm vs (r1, e1, (name, r2, e2, (r3, e3, (limit, r4, e4, h)))) = let t = awaits r4 h in let e = t.1 in (Task name (Replay limit) t.0, (cc, tt, refl))
stated_open AbftForm vs (r1, e1, (name, r2, e2, (r3, e3, h))) = let t = awaits r3 h in let e = t.1 in (Task name Abft t.0, (cc, tt, refl))
stated_open FinishForm vs (r1, e1, (name, r2, e2, h)) = let e = nothing [] r2 h in (Finish name, (cc, tt, refl))
stated_open GroupForm vs (r1, e1, (name, r2, e2, h)) = let t = awaits r2 h in let e = t.1 in (Group name t.0, (cc, tt, refl))
stated_open EndForm vs (r1, e1, h) = let e = nothing [] r1 h in (End, (cc, tt, refl))
stated_open LitForm vs (r1, e1, (x, r2, e2, (r3, e3, (w, r4, e4, h)))) = let t = numbers r4 h in let e = t.1 in (LetLit x (w ∷ t.0), (cc, omega arith, refl))
stated_open GenForm vs (r1, e1, (x, r2, e2, (r3, e3, (n, r4, e4, (start, r5, e5, (limit, r6, e6, h)))))) = let e = nothing [] r6 h in (LetGen x n start limit, (cc, tt, refl))
stated_open AddForm vs (r1, e1, (x, r2, e2, (r3, e3, (a, r4, e4, (b, r5, e5, h))))) = let e = nothing [] r5 h in (LetAdd x a b, (cc, tt, refl))
stated_open SubForm vs (r1, e1, (x, r2, e2, (r3, e3, (a, r4, e4, (b, r5, e5, h))))) = let e = nothing [] r5 h in (LetSub x a b, (cc, tt, refl))
stated_open MulForm vs (r1, e1, (x, r2, e2, (r3, e3, (a, r4, e4, (b, r5, e5, h))))) = let e = nothing [] r5 h in (LetMul x a b, (cc, tt, refl))
stated_open ScaleForm vs (r1, e1, (x, r2, e2, (r3, e3, (a, r4, e4, (k, r5, e5, h))))) = let e = nothing [] r5 h in (LetScale x a k, (cc, tt, refl))
stated_open ShiftForm vs (r1, e1, (x, r2, e2, (r3, e3, (a, r4, e4, (s, r5, e5, h))))) = let e = nothing [] r5 h in (LetShift x a s, (cc, tt, refl))
stated_open CutForm vs (r1, e1, (x, r2, e2, (r3, e3, (a, r4, e4, (from, r5, e5, (len, r6, e6, h)))))) = let e = nothing [] r6 h in (LetCut x a from len, (cc, tt, refl))
stated_open JoinForm vs (r1, e1, (x, r2, e2, (r3, e3, (a, r4, e4, h)))) = let t = names r4 h in let e = t.1 in (LetJoin x (a ∷ t.0), (cc, omega arith, refl))
stated_open SumForm vs (r1, e1, (x, r2, e2, (r3, e3, (a, r4, e4, h)))) = let e = nothing [] r4 h in (LetSum x a, (cc, tt, refl))
stated_open CountForm vs (r1, e1, (x, r2, e2, (r3, e3, (a, r4, e4, h)))) = let e = nothing [] r4 h in (LetCount x a, (cc, tt, refl))
stated_open Stencil1Form vs (r1, e1, (x, r2, e2, (r3, e3, (l, r4, e4, (m, r5, e5, (r, r6, e6, (k, r7, e7, (s, r8, e8, h)))))))) = let e = nothing [] r8 h in (LetStencil1 x l m r k s, (cc, tt, refl))
stated_open Stencil2Form vs (r1, e1, (x, r2, e2, (r3, e3, (north, r4, e4, (south, r5, e5, (west, r6, e6, (east, r7, e7, (m, r8, e8, (cols, r9, e9, (k, r10, e10, (s, r11, e11, h))))))))))) = let e = nothing [] r11 h in (LetStencil2 x north south west east m cols k s, (cc, tt, refl))
stated_open ProductForm vs (r1, e1, (x, r2, e2, (r3, e3, (a, r4, e4, (v, r5, e5, h))))) = let e = nothing [] r5 h in (LetProduct x a v, (cc, tt, refl))
stated_open PutForm vs (r1, e1, (promise, r2, e2, (local, r3, e3, h))) = let t = maybe_when r3 h in let e = t.1 in (Put promise local t.0, (cc, tt, refl))
stated_open DropForm vs (r1, e1, (promise, r2, e2, h)) = let e = nothing [] r2 h in (DropAwait promise, (cc, tt, refl))
stated_open RangeForm vs (r1, e1, (r2, e2, (promise, r3, e3, (lo, r4, e4, (hi, r5, e5, h))))) = let e = nothing [] r5 h in (CheckRange promise lo hi, (cc, tt, refl))
stated_open TotalForm vs (r1, e1, (r2, e2, (promise, r3, e3, (sum, r4, e4, h)))) = let e = nothing [] r4 h in (CheckTotal promise sum, (cc, tt, refl))
stated_open LinearForm vs (r1, e1, (r2, e2, (promise, r3, e3, (base, r4, e4, (q, r5, e5, (c, r6, e6, h)))))) = let t = terms r6 h in let e = t.2 in let l : length t.0 ≡ length t.1 = t.3 in (CheckLinear promise base (q ∷ t.0) (c ∷ t.1), (cc, (omega arith, ap suc l), refl))
stated_open ConserveForm vs (r1, e1, (r2, e2, (promise, r3, e3, (l, r4, e4, (m, r5, e5, (r, r6, e6, (k, r7, e7, (s, r8, e8, h)))))))) = let e = nothing [] r8 h in (CheckConserve promise l m r k s, (cc, tt, refl))
stated_open Conserve2Form vs (r1, e1, (r2, e2, (promise, r3, e3, (north, r4, e4, (south, r5, e5, (west, r6, e6, (east, r7, e7, (m, r8, e8, (cols, r9, e9, (k, r10, e10, (s, r11, e11, h))))))))))) = let e = nothing [] r11 h in (CheckConserve2 promise north south west east m cols k s, (cc, tt, refl))
stated_open ProductCheckForm vs (r1, e1, (r2, e2, (promise, r3, e3, (a, r4, e4, (q, r5, e5, h))))) = let e = nothing [] r5 h in (CheckProduct promise a q, (cc, tt, refl))
stated_open UserForm vs (r1, e1, (r2, e2, (promise, r3, e3, (check, r4, e4, h)))) = let e = nothing [] r4 h in (CheckUser promise check, (cc, tt, refl))

-- values of a form's shape are those of a statement
pub stated : (k : FormKind) (vs : List Value) → FitForm (form k) vs → IsStated k vs
stated k vs h = stated_open k vs (opened (WordPlace (form k).first ∷ (form k).places) (form k).more (form k).again vs h)

shaped_names : (ns : List (List ℕ)) → FitPlaces [] (NamePlace ∷ []) (NamePlace ∷ []) (map AName ns)
shaped_names [] = tt
shaped_names (n ∷ ns) = ((n, refl), shaped_names ns)

shaped_numbers : (ns : List ℕ) → FitPlaces [] (NumberPlace ∷ []) (NumberPlace ∷ []) (map ANumber ns)
shaped_numbers [] = tt
shaped_numbers (n ∷ ns) = ((n, refl), shaped_numbers ns)

shaped_pairs : (js ns : List ℕ) → FitPlaces [] (PairPlace ∷ []) (PairPlace ∷ []) (pairs_said js ns)
shaped_pairs [] ns = tt
shaped_pairs (j ∷ js) [] = tt
shaped_pairs (j ∷ js) (n ∷ ns) = ((j, n, refl), shaped_pairs js ns)

shaped_terms : (qs : List (List ℕ)) (cs : List ℕ) → FitPlaces [] (NamePlace ∷ NumberPlace ∷ []) (NamePlace ∷ NumberPlace ∷ []) (terms_said qs cs)
shaped_terms [] cs = tt
shaped_terms (q ∷ qs) [] = tt
shaped_terms (q ∷ qs) (c ∷ cs) = ((q, refl), ((c, refl), shaped_terms qs cs))

shaped_awaits : (qs : List (List ℕ)) → FitPlaces [] awaiting (NamePlace ∷ []) (awaits_said qs)
shaped_awaits [] = tt
shaped_awaits (q ∷ qs) = (refl, ((q, refl), shaped_names qs))

shaped_temp : (temp : Bool) → FitPlaces [] (WordPlace TempWord ∷ []) [] (temp_said temp)
shaped_temp true = (refl, tt)
shaped_temp false = tt

shaped_when : (when : Option (List ℕ)) → FitPlaces [] (WordPlace WhenWord ∷ NamePlace ∷ []) [] (when_said when)
shaped_when None = tt
shaped_when (Some y) = (refl, ((y, refl), tt))

-- each statement has the shape of its form
pub shaped : (s : Statement) → IsSaidWhole s → FitForm (form (kind_of s)) (said s)
shaped (Promise name len temp) whole = (refl, ((name, refl), ((len, refl), shaped_temp temp)))
shaped (Matrix name rows cols) whole = (refl, ((name, refl), ((rows, refl), ((cols, refl), tt))))
shaped (Row columns values) whole = (refl, shaped_pairs columns values)
shaped (Task name Plain qs) whole = (refl, ((name, refl), (refl, shaped_awaits qs)))
shaped (Task name Replicate qs) whole = (refl, ((name, refl), (refl, shaped_awaits qs)))
shaped (Task name Abft qs) whole = (refl, ((name, refl), (refl, shaped_awaits qs)))
shaped (Task name (Replay limit) qs) whole = (refl, ((name, refl), (refl, ((limit, refl), shaped_awaits qs))))
shaped (Finish name) whole = (refl, ((name, refl), tt))
shaped (Group name qs) whole = (refl, ((name, refl), shaped_awaits qs))
shaped End whole = (refl, tt)
shaped (LetLit x []) whole = absurd (omega arith)
shaped (LetLit x (w ∷ ws)) whole = (refl, ((x, refl), (refl, ((w, refl), shaped_numbers ws))))
shaped (LetGen x n start limit) whole = (refl, ((x, refl), (refl, ((n, refl), ((start, refl), ((limit, refl), tt))))))
shaped (LetAdd x a b) whole = (refl, ((x, refl), (refl, ((a, refl), ((b, refl), tt)))))
shaped (LetSub x a b) whole = (refl, ((x, refl), (refl, ((a, refl), ((b, refl), tt)))))
shaped (LetMul x a b) whole = (refl, ((x, refl), (refl, ((a, refl), ((b, refl), tt)))))
shaped (LetScale x a k) whole = (refl, ((x, refl), (refl, ((a, refl), ((k, refl), tt)))))
shaped (LetShift x a s) whole = (refl, ((x, refl), (refl, ((a, refl), ((s, refl), tt)))))
shaped (LetCut x a from len) whole = (refl, ((x, refl), (refl, ((a, refl), ((from, refl), ((len, refl), tt))))))
shaped (LetJoin x []) whole = absurd (omega arith)
shaped (LetJoin x (a ∷ qs)) whole = (refl, ((x, refl), (refl, ((a, refl), shaped_names qs))))
shaped (LetSum x a) whole = (refl, ((x, refl), (refl, ((a, refl), tt))))
shaped (LetCount x a) whole = (refl, ((x, refl), (refl, ((a, refl), tt))))
shaped (LetStencil1 x l m r k s) whole = (refl, ((x, refl), (refl, ((l, refl), ((m, refl), ((r, refl), ((k, refl), ((s, refl), tt))))))))
shaped (LetStencil2 x north south west east m cols k s) whole = (refl, ((x, refl), (refl, ((north, refl), ((south, refl), ((west, refl), ((east, refl), ((m, refl), ((cols, refl), ((k, refl), ((s, refl), tt)))))))))))
shaped (LetProduct x a v) whole = (refl, ((x, refl), (refl, ((a, refl), ((v, refl), tt)))))
shaped (Put promise local when) whole = (refl, ((promise, refl), ((local, refl), shaped_when when)))
shaped (DropAwait promise) whole = (refl, ((promise, refl), tt))
shaped (CheckRange promise lo hi) whole = (refl, (refl, ((promise, refl), ((lo, refl), ((hi, refl), tt)))))
shaped (CheckTotal promise sum) whole = (refl, (refl, ((promise, refl), ((sum, refl), tt))))
shaped (CheckLinear promise base [] cs) whole = absurd (omega arith)
shaped (CheckLinear promise base (q ∷ qs) []) whole = absurd (omega arith)
shaped (CheckLinear promise base (q ∷ qs) (c ∷ cs)) whole = (refl, (refl, ((promise, refl), ((base, refl), ((q, refl), ((c, refl), shaped_terms qs cs))))))
shaped (CheckConserve promise l m r k s) whole = (refl, (refl, ((promise, refl), ((l, refl), ((m, refl), ((r, refl), ((k, refl), ((s, refl), tt))))))))
shaped (CheckConserve2 promise north south west east m cols k s) whole = (refl, (refl, ((promise, refl), ((north, refl), ((south, refl), ((west, refl), ((east, refl), ((m, refl), ((cols, refl), ((k, refl), ((s, refl), tt)))))))))))
shaped (CheckProduct promise a q) whole = (refl, (refl, ((promise, refl), ((a, refl), ((q, refl), tt)))))
shaped (CheckUser promise check) whole = (refl, (refl, ((promise, refl), ((check, refl), tt))))

-- words spell a statement
abbrev IsSpelled : List (List ℕ) → Type 0
IsSpelled words = (s : Statement) × Spells words s

-- what words say has the shape of a form
abbrev HasForm : List (List ℕ) → Type 0
HasForm words = (kind : FormKind) × (values : List Value) × SayWords words values × FitForm (form kind) values

pub spelled_form : (words : List (List ℕ)) → IsSpelled words → HasForm words
spelled_form words (s, (says, whole)) = (kind_of s, said s, says, shaped s whole)

pub form_spelled : (words : List (List ℕ)) → HasForm words → IsSpelled words
form_spelled words (kind, values, says, fits) =
    let s = stated kind values fits in
    (s.0, (subst (λ (vs : List Value). SayWords words vs) (sym s.1.0) says, s.1.1))
