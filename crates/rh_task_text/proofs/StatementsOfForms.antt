-- A statement is told again from what it says, so words spell one statement at most.
use Rattle.std.proofs.Common.{◌≡◌, ℕ, zero, suc, List, [], ◌∷◌, Option, Some, None, Bool, true, false, map, length, drop, refl, ap, sym, ◌∙◌, subst, arith}
use Rattle.rh_words.specs.declared.value.Place.TheVariants.{WordPlace}
use Rattle.rh_words.specs.declared.value.Value.{Value}
use Rattle.rh_words.specs.declared.value.Value.TheVariants.{AName, ANumber}
use Rattle.rh_task_text.specs.declared.form.FormKind.{FormKind}
use Rattle.rh_task_text.specs.declared.form.FormKind.TheVariants.{PromiseForm, MatrixForm, RowForm, PlainForm, ReplicateForm, ReplayForm, AbftForm, FinishForm, GroupForm, EndForm, LitForm, GenForm, AddForm, SubForm, MulForm, ScaleForm, ShiftForm, CutForm, JoinForm, SumForm, CountForm, Stencil1Form, Stencil2Form, ProductForm, PutForm, DropForm, RangeForm, TotalForm, LinearForm, ConserveForm, Conserve2Form, ProductCheckForm, UserForm}
use Rattle.rh_task_text.specs.declared.statement.SchemeText.TheVariants.{Plain, Replicate, Replay, Abft}
use Rattle.rh_task_text.specs.declared.statement.Statement.{Statement}
use Rattle.rh_task_text.specs.declared.statement.Statement.TheVariants.{Promise, Matrix, Row, Task, Finish, Group, End, LetLit, LetGen, LetAdd, LetSub, LetMul, LetScale, LetShift, LetCut, LetJoin, LetSum, LetCount, LetStencil1, LetStencil2, LetProduct, Put, DropAwait, CheckRange, CheckTotal, CheckLinear, CheckConserve, CheckConserve2, CheckProduct, CheckUser}
use Rattle.rh_task_text.specs.Forms.{form}
use Rattle.rh_task_text.specs.Statements.{said, kind_of, IsSaidWhole, awaits_said, pairs_said, terms_said, Spells, FitForm}
use Rattle.rh_task_text.specs.ValueColumns.{names_in, numbers_in, columns_in, values_in}
use Rattle.rh_task_text.proofs.FormsOfStatements.{shaped}
use Rattle.rh_words.proofs.WordsInPlaces.{said_once}
use Rattle.rh_task_text.proofs.ChosenForms.{kind_said}

-- a name of these, by its number
abbrev nm : ℕ → List (List ℕ) → List ℕ
nm i [] = []
nm zero (n ∷ ns) = n
nm (suc i) (n ∷ ns) = nm i ns

-- a number of these, by its number
abbrev nu : ℕ → List ℕ → ℕ
nu i [] = 0
nu zero (n ∷ ns) = n
nu (suc i) (n ∷ ns) = nu i ns

abbrev first_of : List (List ℕ) → Option (List ℕ)
first_of [] = None
first_of (n ∷ ns) = Some n

abbrev is_some_value : List Value → Bool
is_some_value [] = false
is_some_value (v ∷ vs) = true

-- the statement of this form with these names and numbers among these values
abbrev retell : FormKind → List (List ℕ) → List ℕ → List Value → Statement
retell PromiseForm ns us vs = Promise (nm 0 ns) (nu 0 us) (is_some_value (drop 3 vs))
retell MatrixForm ns us vs = Matrix (nm 0 ns) (nu 0 us) (nu 1 us)
retell RowForm ns us vs = Row (columns_in vs) (values_in vs)
retell PlainForm ns us vs = Task (nm 0 ns) Plain (drop 1 ns)
retell ReplicateForm ns us vs = Task (nm 0 ns) Replicate (drop 1 ns)
retell ReplayForm ns us vs = Task (nm 0 ns) (Replay (nu 0 us)) (drop 1 ns)
retell AbftForm ns us vs = Task (nm 0 ns) Abft (drop 1 ns)
retell FinishForm ns us vs = Finish (nm 0 ns)
retell GroupForm ns us vs = Group (nm 0 ns) (drop 1 ns)
retell EndForm ns us vs = End
retell LitForm ns us vs = LetLit (nm 0 ns) us
retell GenForm ns us vs = LetGen (nm 0 ns) (nu 0 us) (nu 1 us) (nu 2 us)
retell AddForm ns us vs = LetAdd (nm 0 ns) (nm 1 ns) (nm 2 ns)
retell SubForm ns us vs = LetSub (nm 0 ns) (nm 1 ns) (nm 2 ns)
retell MulForm ns us vs = LetMul (nm 0 ns) (nm 1 ns) (nm 2 ns)
retell ScaleForm ns us vs = LetScale (nm 0 ns) (nm 1 ns) (nu 0 us)
retell ShiftForm ns us vs = LetShift (nm 0 ns) (nm 1 ns) (nu 0 us)
retell CutForm ns us vs = LetCut (nm 0 ns) (nm 1 ns) (nu 0 us) (nu 1 us)
retell JoinForm ns us vs = LetJoin (nm 0 ns) (drop 1 ns)
retell SumForm ns us vs = LetSum (nm 0 ns) (nm 1 ns)
retell CountForm ns us vs = LetCount (nm 0 ns) (nm 1 ns)
retell Stencil1Form ns us vs = LetStencil1 (nm 0 ns) (nm 1 ns) (nm 2 ns) (nm 3 ns) (nu 0 us) (nu 1 us)
retell Stencil2Form ns us vs = LetStencil2 (nm 0 ns) (nm 1 ns) (nm 2 ns) (nm 3 ns) (nm 4 ns) (nm 5 ns) (nu 0 us) (nu 1 us) (nu 2 us)
retell ProductForm ns us vs = LetProduct (nm 0 ns) (nm 1 ns) (nm 2 ns)
retell PutForm ns us vs = Put (nm 0 ns) (nm 1 ns) (first_of (drop 2 ns))
retell DropForm ns us vs = DropAwait (nm 0 ns)
retell RangeForm ns us vs = CheckRange (nm 0 ns) (nu 0 us) (nu 1 us)
retell TotalForm ns us vs = CheckTotal (nm 0 ns) (nu 0 us)
retell LinearForm ns us vs = CheckLinear (nm 0 ns) (nu 0 us) (drop 1 ns) (drop 1 us)
retell ConserveForm ns us vs = CheckConserve (nm 0 ns) (nm 1 ns) (nm 2 ns) (nm 3 ns) (nu 0 us) (nu 1 us)
retell Conserve2Form ns us vs = CheckConserve2 (nm 0 ns) (nm 1 ns) (nm 2 ns) (nm 3 ns) (nm 4 ns) (nm 5 ns) (nu 0 us) (nu 1 us) (nu 2 us)
retell ProductCheckForm ns us vs = CheckProduct (nm 0 ns) (nm 1 ns) (nm 2 ns)
retell UserForm ns us vs = CheckUser (nm 0 ns) (nm 1 ns)

names_told : (qs : List (List ℕ)) → names_in (map AName qs) ≡ qs
names_told [] = refl
names_told (q ∷ qs) = ap (λ (l : List (List ℕ)). q ∷ l) (names_told qs)

numbers_told : (ns : List ℕ) → numbers_in (map ANumber ns) ≡ ns
numbers_told [] = refl
numbers_told (n ∷ ns) = ap (λ (l : List ℕ). n ∷ l) (numbers_told ns)

awaits_told : (qs : List (List ℕ)) → names_in (awaits_said qs) ≡ qs
awaits_told [] = refl
awaits_told (q ∷ qs) = ap (λ (l : List (List ℕ)). q ∷ l) (names_told qs)

columns_told : (js ns : List ℕ) → length js ≡ length ns → columns_in (pairs_said js ns) ≡ js
columns_told [] ns e = refl
columns_told (j ∷ js) [] e = absurd (omega arith)
columns_told (j ∷ js) (n ∷ ns) e = ap (λ (l : List ℕ). j ∷ l) (columns_told js ns (omega arith))

values_told : (js ns : List ℕ) → length js ≡ length ns → values_in (pairs_said js ns) ≡ ns
values_told [] [] e = refl
values_told [] (n ∷ ns) e = absurd (omega arith)
values_told (j ∷ js) [] e = absurd (omega arith)
values_told (j ∷ js) (n ∷ ns) e = ap (λ (l : List ℕ). n ∷ l) (values_told js ns (omega arith))

inputs_told : (qs : List (List ℕ)) (cs : List ℕ) → length qs ≡ length cs → names_in (terms_said qs cs) ≡ qs
inputs_told [] cs e = refl
inputs_told (q ∷ qs) [] e = absurd (omega arith)
inputs_told (q ∷ qs) (c ∷ cs) e = ap (λ (l : List (List ℕ)). q ∷ l) (inputs_told qs cs (omega arith))

factors_told : (qs : List (List ℕ)) (cs : List ℕ) → length qs ≡ length cs → numbers_in (terms_said qs cs) ≡ cs
factors_told [] [] e = refl
factors_told [] (c ∷ cs) e = absurd (omega arith)
factors_told (q ∷ qs) [] e = absurd (omega arith)
factors_told (q ∷ qs) (c ∷ cs) e = ap (λ (l : List ℕ). c ∷ l) (factors_told qs cs (omega arith))

-- the statement of this form with what the values say
abbrev retold : FormKind → List Value → Statement
retold k vs = retell k (names_in vs) (numbers_in vs) vs

-- a statement is told again from what it says
same_again : (s : Statement) → IsSaidWhole s → retold (kind_of s) (said s) ≡ s
same_again (Promise name len true) whole = refl
same_again (Promise name len false) whole = refl
same_again (Matrix name rows cols) whole = refl
same_again (Row js ns) whole = let a = columns_told js ns whole in let b = values_told js ns whole in rw (a, b) refl
same_again (Task name Plain qs) whole = ap (λ (l : List (List ℕ)). Task name Plain l) (awaits_told qs)
same_again (Task name Replicate qs) whole = ap (λ (l : List (List ℕ)). Task name Replicate l) (awaits_told qs)
same_again (Task name (Replay limit) qs) whole = ap (λ (l : List (List ℕ)). Task name (Replay limit) l) (awaits_told qs)
same_again (Task name Abft qs) whole = ap (λ (l : List (List ℕ)). Task name Abft l) (awaits_told qs)
same_again (Finish name) whole = refl
same_again (Group name qs) whole = ap (λ (l : List (List ℕ)). Group name l) (awaits_told qs)
same_again End whole = refl
same_again (LetLit x ns) whole = ap (λ (l : List ℕ). LetLit x l) (numbers_told ns)
same_again (LetGen x n start limit) whole = refl
same_again (LetAdd x a b) whole = refl
same_again (LetSub x a b) whole = refl
same_again (LetMul x a b) whole = refl
same_again (LetScale x a k) whole = refl
same_again (LetShift x a s) whole = refl
same_again (LetCut x a from len) whole = refl
same_again (LetJoin x qs) whole = ap (λ (l : List (List ℕ)). LetJoin x l) (names_told qs)
same_again (LetSum x a) whole = refl
same_again (LetCount x a) whole = refl
same_again (LetStencil1 x l m r k s) whole = refl
same_again (LetStencil2 x north south west east m cols k s) whole = refl
same_again (LetProduct x a v) whole = refl
same_again (Put promise local None) whole = refl
same_again (Put promise local (Some y)) whole = refl
same_again (DropAwait promise) whole = refl
same_again (CheckRange promise lo hi) whole = refl
same_again (CheckTotal promise sum) whole = refl
same_again (CheckLinear promise base qs cs) whole = let a = inputs_told qs cs whole.1 in let b = factors_told qs cs whole.1 in rw (a, b) refl
same_again (CheckConserve promise l m r k s) whole = refl
same_again (CheckConserve2 promise north south west east m cols k s) whole = refl
same_again (CheckProduct promise a q) whole = refl
same_again (CheckUser promise check) whole = refl

-- words spell one statement at most
pub Spells-same : (ws : List (List ℕ)) (s t : Statement) → Spells ws s → Spells ws t → s ≡ t
Spells-same ws s t a b =
    let k = kind_said s ws a.0 in
    let j = kind_said t ws b.0 in
    let kinds : kind_of t ≡ kind_of s = cc in
    let fits = subst (λ (i : FormKind). FitForm (form i) (said t)) kinds (shaped t b.1) in
    let values : said s ≡ said t = said_once (WordPlace (form (kind_of s)).first ∷ (form (kind_of s)).places) (form (kind_of s)).more (form (kind_of s)).again ws (said s) (said t) a.0 b.0 (shaped s a.1) fits in
    sym (same_again s a.1) ∙ ap (λ (vs : List Value). retold (kind_of s) vs) values ∙ ap (λ (i : FormKind). retold i (said t)) (sym kinds) ∙ same_again t b.1
