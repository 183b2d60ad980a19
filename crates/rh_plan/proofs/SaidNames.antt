-- What names, checks, steps, matrices and declarations say, one more line at a time.
use Rattle.std.proofs.Common.{◌≡◌, ℕ, suc, List, [], ◌∷◌, ◌++◌, Bool, true, false, cond, get_or, not, Option, Some, None, map, length, refl, arith, ap, sym, ◌∙◌, subst, append_assoc, append-nil}
use Rattle.std.specs.Prelude.{is_some, unwrap_or, slice_get, position}
use Rattle.std.specs.List.{flat_map, list_any}
use Rattle.std.specs.Str.{bytes_eq}
use Rattle.std.proofs.lemmas.Bool.{false≢true}
use Rattle.std.proofs.lemmas.List.{get_or-map, length-map}
use Rattle.std.proofs.lemmas.List.Quantifiers.{position-Some}
use Rattle.std.proofs.lemmas.Option.{slice_get-get_or, get_or_from_slice_get}
use Rattle.std.proofs.lemmas.Slice.Eq.{bytes_eq-Decides}
use Rattle.rh_task_text.specs.declared.statement.Statement.{Statement}
use Rattle.rh_task_text.specs.declared.statement.Statement.TheVariants as text
use Rattle.rh_sparse.specs.declared.matrix.Cell.{Cell}
use Rattle.rh_sparse.specs.Matrix.{MatrixData}
use Rattle.rh_rules.specs.declared.shape.NamedShape.{NamedShape}
use Rattle.rh_rules.specs.declared.body.Step.{Step}
use Rattle.rh_rules.specs.declared.node.PlannedPromise.{PlannedPromise}
use Rattle.rh_rules.specs.Tables.{LocalName, Putting, declared_promise, place_of, is_local, number_of, promise_at, is_promise, promise_number, given, or_else, named_shape, is_matrix, matrix_at, matrix_number}
use Rattle.rh_rules.specs.Facets.{cells_of}
use Rattle.rh_tables.proofs.Using.{neither, not_false}
use Rattle.rh_plan.specs.PlanTexts.{IsNamed, IsFirstNamed, AreNamed, SaysStep, made_by, SayBody, MatrixLines, AreCells, SaysRow, SayRows, IsMatrixOf, AreMatricesOf, Declares, DeclareAll, names_of, SaysCheck, SayChecks}
use Rattle.rh_check.specs.Users.{HandedChecks}
use Rattle.rh_rules.specs.Kept.{KeptCheck}
use Rattle.rh_planner.proofs.Grammar.{within}

-- ---- names and their numbers

-- the place of a name is its number
pub named_at : {X : Type 0} (name : X → List ℕ) (xs : List X) (x : List ℕ) (d : X) (i : ℕ) → position (λ t. bytes_eq (name t) x) xs ≡ Some i → slice_get (map name xs) i ≡ Some x
named_at name xs x d i at =
    let (within, same, first) = position-Some (λ t. bytes_eq (name t) x) xs i d at in
    let long = length-map xs name in
    let here : name (get_or xs i d) ≡ x = (bytes_eq-Decides (name (get_or xs i d)) x).0 same in
    slice_get-get_or (map name xs) i (name d) (omega arith) ∙ ap Some (get_or-map name xs i d (name d) within ∙ here)

pub named : {X : Type 0} (name : X → List ℕ) (xs : List X) (x : List ℕ) (d : X) (o : Option ℕ) → position (λ t. bytes_eq (name t) x) xs ≡ o → is_some o ≡ true → IsNamed (map name xs) (unwrap_or o 0) x
named name xs x d None at there = absurd (false≢true there)
named name xs x d (Some i) at there = named_at name xs x d i at

pub no_local : LocalName
no_local = record { name = []; len = 0 }

local_named : (ls : List LocalName) (x : List ℕ) → is_local ls x ≡ true → IsNamed (map (λ l. l.name) ls) (number_of ls x) x
local_named ls x there = named (λ (l : LocalName). l.name) ls x no_local (place_of x ls) refl there

no_promise : PlannedPromise
no_promise = declared_promise [] 0 false false

pub promise_named : (ps : List PlannedPromise) (q : List ℕ) → is_promise ps q ≡ true → IsNamed (names_of ps) (promise_number ps q) q
promise_named ps q there = named (λ (p : PlannedPromise). p.name) ps q no_promise (promise_at q ps) refl there

-- the first of a name is its number
pub first_named : {X : Type 0} (name : X → List ℕ) (xs : List X) (x : List ℕ) (d : X) (o : Option ℕ) → position (λ t. bytes_eq (name t) x) xs ≡ o → is_some o ≡ true → IsFirstNamed (map name xs) (unwrap_or o 0) x
first_named name xs x d None at there = absurd (false≢true there)
first_named name xs x d (Some i) at there =
    let (within, same, first) = position-Some (λ t. bytes_eq (name t) x) xs i d at in
    record {
      named = named_at name xs x d i at;
      first = λ k below is.
          let here : get_or (map name xs) k (name d) ≡ x = get_or_from_slice_get (map name xs) k x (name d) is in
          let there : name (get_or xs k d) ≡ x = sym (get_or-map name xs k d (name d) (omega arith)) ∙ here in
          false≢true (sym (first k below) ∙ (bytes_eq-Decides (name (get_or xs k d)) x).1 there);
    }

no_matrix : NamedShape
no_matrix = named_shape [] 0 0

abbrev pub shape_names : List NamedShape → List (List ℕ)
shape_names ms = map (λ m. m.name) ms

pub matrix_named : (ms : List NamedShape) (a : List ℕ) → is_matrix ms a ≡ true → IsFirstNamed (shape_names ms) (matrix_number ms a) a
matrix_named ms a there = first_named (λ (m : NamedShape). m.name) ms a no_matrix (matrix_at a ms) refl there

pub locals_named : (ls : List LocalName) (xs : List (List ℕ)) → list_any (λ x. not (is_local ls x)) xs ≡ false → AreNamed (map (λ l. l.name) ls) (map (number_of ls) xs) xs
locals_named ls [] none = tt
locals_named ls (x ∷ xs) none =
    let (here, rest) = neither (not (is_local ls x)) (list_any (λ x. not (is_local ls x)) xs) none in
    (local_named ls x (not_false (is_local ls x) here), locals_named ls xs rest)

pub promises_named : (ps : List PlannedPromise) (qs : List (List ℕ)) → list_any (λ q. not (is_promise ps q)) qs ≡ false → AreNamed (names_of ps) (map (promise_number ps) qs) qs
promises_named ps [] none = tt
promises_named ps (q ∷ qs) none =
    let (here, rest) = neither (not (is_promise ps q)) (list_any (λ q. not (is_promise ps q)) qs) none in
    (promise_named ps q (not_false (is_promise ps q) here), promises_named ps qs rest)

-- ---- one more line of a task

pub checks_last : (us : HandedChecks) (ms ps awaits : List (List ℕ)) (lines : List Statement) (checks : List KeptCheck) (s : Statement) (check : KeptCheck) → SayChecks us ms ps awaits lines checks → SaysCheck us ms ps awaits s check → SayChecks us ms ps awaits (lines ++ s ∷ []) (checks ++ check ∷ [])
checks_last us ms ps awaits [] [] s check say says = (says, tt)
checks_last us ms ps awaits [] (x ∷ checks) s check say says = absurd say
checks_last us ms ps awaits (r ∷ lines) [] s check say says = absurd say
checks_last us ms ps awaits (r ∷ lines) (x ∷ checks) s check say says = (say.0, checks_last us ms ps awaits lines checks s check say.1 says)

pub body_last : (ms ps ls : List (List ℕ)) (lines : List Statement) (steps : List Step) (s : Statement) (step : Step) → SayBody ms ps ls lines steps → SaysStep ms ps (ls ++ flat_map made_by lines) s step → SayBody ms ps ls (lines ++ s ∷ []) (steps ++ step ∷ [])
body_last ms ps ls [] [] s step say says = (subst (λ (l : List (List ℕ)). SaysStep ms ps l s step) (append-nil ls) says, tt)
body_last ms ps ls [] (x ∷ steps) s step say says = absurd say
body_last ms ps ls (r ∷ lines) [] s step say says = absurd say
body_last ms ps ls (r ∷ lines) (x ∷ steps) s step say says =
    (say.0, body_last ms ps (ls ++ made_by r) lines steps s step say.1 (subst (λ (l : List (List ℕ)). SaysStep ms ps l s step) (sym (append_assoc ls (made_by r) (flat_map made_by lines))) says))

-- ---- matrices

pub cells_said : (columns values : List ℕ) → length columns ≡ length values → AreCells columns values (cells_of columns values)
cells_said [] [] same = tt
cells_said [] (v ∷ values) same = absurd (omega arith)
cells_said (j ∷ columns) [] same = absurd (omega arith)
cells_said (j ∷ columns) (v ∷ values) same = (refl, refl, cells_said columns values (omega arith))

pub rows_last : (lines : List Statement) (rows : List (List Cell)) (s : Statement) (row : List Cell) → SayRows lines rows → SaysRow s row → SayRows (lines ++ s ∷ []) (rows ++ row ∷ [])
rows_last [] [] s row say says = (says, tt)
rows_last [] (x ∷ rows) s row say says = absurd say
rows_last (r ∷ lines) [] s row say says = absurd say
rows_last (r ∷ lines) (x ∷ rows) s row say says = (say.0, rows_last lines rows s row say.1 says)

pub matrices_last : (lines : List MatrixLines) (matrices : List MatrixData) (m : MatrixLines) (a : MatrixData) → AreMatricesOf lines matrices → IsMatrixOf m a → AreMatricesOf (lines ++ m ∷ []) (matrices ++ a ∷ [])
matrices_last [] [] m a are is = (is, tt)
matrices_last [] (x ∷ matrices) m a are is = absurd are
matrices_last (r ∷ lines) [] m a are is = absurd are
matrices_last (r ∷ lines) (x ∷ matrices) m a are is = (are.0, matrices_last lines matrices m a are.1 is)

-- lists that are alike have one last element
pub last_alike : {X : Type 0} (xs ys : List X) (x y : X) → xs ++ x ∷ [] ≡ ys ++ y ∷ [] → x ≡ y
last_alike [] [] x y e = cc
last_alike [] (z ∷ []) x y e = absurd (let n : 1 ≡ 2 = ap length e in omega arith)
last_alike [] (z ∷ w ∷ ys) x y e = absurd (let n : 1 ≡ suc (suc (length (ys ++ y ∷ []))) = ap length e in omega arith)
last_alike (z ∷ []) [] x y e = absurd (let n : 2 ≡ 1 = ap length e in omega arith)
last_alike (z ∷ w ∷ xs) [] x y e = absurd (let n : suc (suc (length (xs ++ x ∷ []))) ≡ 1 = ap length e in omega arith)
last_alike (z ∷ xs) (w ∷ ys) x y e =
    let rest : xs ++ x ∷ [] ≡ ys ++ y ∷ [] = cc in
    last_alike xs ys x y rest

-- ---- declarations

pub declare_last : (lines : List Statement) (ps : List PlannedPromise) (s : Statement) (p : PlannedPromise) → DeclareAll lines ps → Declares s p → DeclareAll (lines ++ s ∷ []) (ps ++ p ∷ [])
declare_last [] [] s p all one = (one, tt)
declare_last [] (q ∷ ps) s p all one = absurd all
declare_last (t ∷ lines) [] s p all one = absurd all
declare_last (t ∷ lines) (q ∷ ps) s p all one = (all.0, declare_last lines ps s p all.1 one)

-- a put gives a promise its putter, and nothing else
given_name : (put : Putting) (p : PlannedPromise) (b : Bool) → (cond b (record p { putter = or_else p.putter (Some put.node) }) p).name ≡ p.name
given_name put p true = refl
given_name put p false = refl

given_line : (put : Putting) (s : Statement) (p : PlannedPromise) (b : Bool) → Declares s p → Declares s (cond b (record p { putter = or_else p.putter (Some put.node) }) p)
given_line put (text.Promise name len temp) p true one = one
given_line put (text.Finish name) p true one = one
given_line put s p false one = one
given_line put s p true one = absurd one

pub given_names : (put : Putting) (ps : List PlannedPromise) → names_of (map (given put) ps) ≡ names_of ps
given_names put [] = refl
given_names put (p ∷ ps) = ap (λ (n : List ℕ). n ∷ names_of (map (given put) ps)) (given_name put p (bytes_eq put.promise p.name)) ∙ ap (λ (l : List (List ℕ)). p.name ∷ l) (given_names put ps)

pub given_lines : (put : Putting) (lines : List Statement) (ps : List PlannedPromise) → DeclareAll lines ps → DeclareAll lines (map (given put) ps)
given_lines put [] [] all = tt
given_lines put [] (p ∷ ps) all = absurd all
given_lines put (s ∷ lines) [] all = absurd all
given_lines put (s ∷ lines) (p ∷ ps) all = (given_line put s p (bytes_eq put.promise p.name) all.0, given_lines put lines ps all.1)
