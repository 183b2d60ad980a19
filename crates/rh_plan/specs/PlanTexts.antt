-- What a plan says of its text: the lines of the text are those of the plan's promises, matrices and nodes, read by the names of promises,
-- matrices and locals.
use Rattle.std.specs.Prelude.{ℕ, ◌≡◌, ◌+◌, List, [], ◌∷◌, ◌++◌, ⊤, Option, Some, None, Bool, true, false, map, length, filter, slice_get, IsSomeAnd, ◌<◌, not, take}
use Rattle.std.specs.List.{flat_map, range_with_len}
use Rattle.rh_rules.specs.declared.node.TheConstants.{SCOPE_WORDS}
use Rattle.rh_task_text.specs.declared.statement.Statement.{Statement}
use Rattle.rh_task_text.specs.declared.statement.Statement.TheVariants as text
use Rattle.rh_task_text.specs.declared.statement.SchemeText.{SchemeText}
use Rattle.rh_task_text.specs.Program.{ProgramText, IsLawfulText}
use Rattle.rh_sparse.specs.declared.matrix.Cell.{Cell}
use Rattle.rh_sparse.specs.Matrix.{MatrixData}
use Rattle.rh_check.specs.declared.spec.Term.{Term}
use Rattle.rh_check.specs.declared.spec.Spec.TheVariants as specs
use Rattle.rh_check.specs.Users.{HandedChecks}
use Rattle.rh_rules.specs.Kept.{KeptCheck}
use Rattle.rh_rules.specs.declared.body.Step.{Step}
use Rattle.rh_rules.specs.declared.body.Step.TheVariants.{Lit, Gen, Add, Sub, Mul, Scale, Shift, Cut, Join, Sum, Count, Stencil1, Stencil2, Product, Put, DropAwait}
use Rattle.rh_rules.specs.declared.node.Kind.TheVariants.{Task, Group, Scope}
use Rattle.rh_rules.specs.declared.node.Node.{Node}
use Rattle.rh_rules.specs.declared.node.PlannedPromise.{PlannedPromise}
use Rattle.rh_rules.specs.Above.{planned_scheme}
use Rattle.rh_plan.specs.Plans.{PlanData}
use Rattle.rh_plan.specs.Planned.{IsPlanOf}

-- the number n is that of the name
abbrev pub IsNamed : List (List ℕ) → ℕ → List ℕ → Type 0
IsNamed names n name = slice_get names n ≡ Some name

-- the number is the first of that name: none before it has it
pub record IsFirstNamed (names : List (List ℕ)) (at : ℕ) (name : List ℕ) : Type 0 where
  pub named : IsNamed names at name
  pub first : (i : ℕ) → i < at → IsNamed names i name → ⊥

-- these are the numbers of these names, one by one
abbrev pub AreNamed : List (List ℕ) → List ℕ → List (List ℕ) → Type 0
AreNamed names [] [] = ⊤
AreNamed names [] (q ∷ qs) = ⊥
AreNamed names (n ∷ ns) [] = ⊥
AreNamed names (n ∷ ns) (q ∷ qs) = IsNamed names n q × AreNamed names ns qs

-- both are there, and the number is that of the name, or neither is
abbrev pub IsWhenNamed : List (List ℕ) → Option ℕ → Option (List ℕ) → Type 0
IsWhenNamed names None None = ⊤
IsWhenNamed names None (Some y) = ⊥
IsWhenNamed names (Some n) None = ⊥
IsWhenNamed names (Some n) (Some y) = IsNamed names n y

-- The line of a task says this step, where matrices, promises and locals have these names. Each other line of a task says a check.
abbrev pub SaysStep : List (List ℕ) → List (List ℕ) → List (List ℕ) → Statement → Step → Type 0
SaysStep matrices promises locals (text.LetLit x words) step = step ≡ Lit words
SaysStep matrices promises locals (text.LetGen x n start limit) step = step ≡ Gen n start limit
SaysStep matrices promises locals (text.LetAdd x a b) step = (i : ℕ) × (j : ℕ) × (step ≡ Add i j) × IsNamed locals i a × IsNamed locals j b
SaysStep matrices promises locals (text.LetSub x a b) step = (i : ℕ) × (j : ℕ) × (step ≡ Sub i j) × IsNamed locals i a × IsNamed locals j b
SaysStep matrices promises locals (text.LetMul x a b) step = (i : ℕ) × (j : ℕ) × (step ≡ Mul i j) × IsNamed locals i a × IsNamed locals j b
SaysStep matrices promises locals (text.LetScale x a k) step = (i : ℕ) × (step ≡ Scale i k) × IsNamed locals i a
SaysStep matrices promises locals (text.LetShift x a s) step = (i : ℕ) × (step ≡ Shift i s) × IsNamed locals i a
SaysStep matrices promises locals (text.LetCut x a from len) step = (i : ℕ) × (step ≡ Cut i from len) × IsNamed locals i a
SaysStep matrices promises locals (text.LetJoin x parts) step = (numbers : List ℕ) × (step ≡ Join numbers) × AreNamed locals numbers parts
SaysStep matrices promises locals (text.LetSum x a) step = (i : ℕ) × (step ≡ Sum i) × IsNamed locals i a
SaysStep matrices promises locals (text.LetCount x a) step = (i : ℕ) × (step ≡ Count i) × IsNamed locals i a
SaysStep matrices promises locals (text.LetStencil1 x l m r k s) step = (i : ℕ) × (j : ℕ) × (n : ℕ) × (step ≡ Stencil1 i j n k s) × AreNamed locals (i ∷ j ∷ n ∷ []) (l ∷ m ∷ r ∷ [])
SaysStep matrices promises locals (text.LetStencil2 x north south west east m cols k s) step =
    (a : ℕ) × (b : ℕ) × (c : ℕ) × (d : ℕ) × (e : ℕ) × (step ≡ Stencil2 a b c d e cols k s)
    × AreNamed locals (a ∷ b ∷ c ∷ d ∷ e ∷ []) (north ∷ south ∷ west ∷ east ∷ m ∷ [])
SaysStep matrices promises locals (text.LetProduct x a v) step = (m : ℕ) × (i : ℕ) × (step ≡ Product m i) × IsFirstNamed matrices m a × IsNamed locals i v
SaysStep matrices promises locals (text.Put promise local when) step = (q : ℕ) × (i : ℕ) × (w : Option ℕ) × (step ≡ Put q i w) × IsNamed promises q promise × IsNamed locals i local × IsWhenNamed locals w when
SaysStep matrices promises locals (text.DropAwait promise) step = (q : ℕ) × (step ≡ DropAwait q) × IsNamed promises q promise
SaysStep matrices promises locals s step = ⊥

-- the local that a line makes
abbrev pub made_by : Statement → List (List ℕ)
made_by (text.Promise name len temp) = []
made_by (text.Matrix name rows cols) = []
made_by (text.Row columns values) = []
made_by (text.Task name scheme awaits) = []
made_by (text.Finish name) = []
made_by (text.Group name awaits) = []
made_by text.End = []
made_by (text.LetLit x words) = x ∷ []
made_by (text.LetGen x n start limit) = x ∷ []
made_by (text.LetAdd x a b) = x ∷ []
made_by (text.LetSub x a b) = x ∷ []
made_by (text.LetMul x a b) = x ∷ []
made_by (text.LetScale x a k) = x ∷ []
made_by (text.LetShift x a s) = x ∷ []
made_by (text.LetCut x a from len) = x ∷ []
made_by (text.LetJoin x parts) = x ∷ []
made_by (text.LetSum x a) = x ∷ []
made_by (text.LetCount x a) = x ∷ []
made_by (text.LetStencil1 x l m r k s) = x ∷ []
made_by (text.LetStencil2 x north south west east m cols k s) = x ∷ []
made_by (text.LetProduct x a v) = x ∷ []
made_by (text.Put promise local when) = []
made_by (text.DropAwait promise) = []
made_by (text.CheckRange promise lo hi) = []
made_by (text.CheckTotal promise total) = []
made_by (text.CheckLinear promise base inputs factors) = []
made_by (text.CheckConserve promise l m r k s) = []
made_by (text.CheckConserve2 promise north south west east m cols k s) = []
made_by (text.CheckProduct promise a q) = []
made_by (text.CheckUser promise check) = []

-- The lines say the steps, one by one. Each `let` line makes the next local.
abbrev pub SayBody : List (List ℕ) → List (List ℕ) → List (List ℕ) → List Statement → List Step → Type 0
SayBody matrices promises locals [] [] = ⊤
SayBody matrices promises locals [] (step ∷ steps) = ⊥
SayBody matrices promises locals (s ∷ lines) [] = ⊥
SayBody matrices promises locals (s ∷ lines) (step ∷ steps) = SaysStep matrices promises locals s step × SayBody matrices promises (locals ++ made_by s) lines steps

-- these are the terms of these awaits and factors, one by one
abbrev pub AreTerms : List (List ℕ) → List Term → List (List ℕ) → List ℕ → Type 0
AreTerms awaits [] [] [] = ⊤
AreTerms awaits (t ∷ ts) (q ∷ qs) (c ∷ cs) = IsNamed awaits t.input q × (t.factor ≡ c) × AreTerms awaits ts qs cs
AreTerms awaits terms inputs factors = ⊥

-- The line says this check of what is put to the promise, where matrices, promises and awaits have these names. A handed-in check is the
-- first of its name, and what it asks is kept. No other line says a check.
abbrev pub SaysCheck : HandedChecks → List (List ℕ) → List (List ℕ) → List (List ℕ) → Statement → KeptCheck → Type 0
SaysCheck handed matrices promises awaits (text.CheckRange promise lo hi) check = IsNamed promises check.promise promise × (check.spec ≡ specs.Range lo hi)
SaysCheck handed matrices promises awaits (text.CheckTotal promise total) check = IsNamed promises check.promise promise × (check.spec ≡ specs.Total total)
SaysCheck handed matrices promises awaits (text.CheckLinear promise base inputs factors) check = IsNamed promises check.promise promise
    × (terms : List Term) × (check.spec ≡ specs.Linear base terms (length inputs)) × AreTerms awaits (take (length inputs) terms) inputs factors
SaysCheck handed matrices promises awaits (text.CheckConserve promise l m r k s) check = IsNamed promises check.promise promise
    × (i : ℕ) × (j : ℕ) × (n : ℕ) × (check.spec ≡ specs.Conserve i j n k s) × AreNamed awaits (i ∷ j ∷ n ∷ []) (l ∷ m ∷ r ∷ [])
SaysCheck handed matrices promises awaits (text.CheckConserve2 promise north south west east m cols k s) check = IsNamed promises check.promise promise
    × (a : ℕ) × (b : ℕ) × (c : ℕ) × (d : ℕ) × (e : ℕ) × (check.spec ≡ specs.Conserve2 a b c d e cols k s)
    × AreNamed awaits (a ∷ b ∷ c ∷ d ∷ e ∷ []) (north ∷ south ∷ west ∷ east ∷ m ∷ [])
SaysCheck handed matrices promises awaits (text.CheckProduct promise a q) check = IsNamed promises check.promise promise
    × (m : ℕ) × (x : ℕ) × (check.spec ≡ specs.Product m x) × IsFirstNamed matrices m a × IsNamed awaits x q
SaysCheck handed matrices promises awaits (text.CheckUser promise name) check = IsNamed promises check.promise promise
    × (at : ℕ) × (check.spec ≡ specs.User at) × IsFirstNamed handed.names at name × (check.user ≡ slice_get handed.specs at)
SaysCheck handed matrices promises awaits s check = ⊥

-- the lines say the checks, one by one
abbrev pub SayChecks : HandedChecks → List (List ℕ) → List (List ℕ) → List (List ℕ) → List Statement → List KeptCheck → Type 0
SayChecks handed matrices promises awaits [] [] = ⊤
SayChecks handed matrices promises awaits [] (check ∷ checks) = ⊥
SayChecks handed matrices promises awaits (s ∷ lines) [] = ⊥
SayChecks handed matrices promises awaits (s ∷ lines) (check ∷ checks) = SaysCheck handed matrices promises awaits s check × SayChecks handed matrices promises awaits lines checks

-- a `check` line
abbrev pub is_check : Statement → Bool
is_check (text.Promise name len temp) = false
is_check (text.Matrix name rows cols) = false
is_check (text.Row columns values) = false
is_check (text.Task name scheme awaits) = false
is_check (text.Finish name) = false
is_check (text.Group name awaits) = false
is_check text.End = false
is_check (text.LetLit x words) = false
is_check (text.LetGen x n start limit) = false
is_check (text.LetAdd x a b) = false
is_check (text.LetSub x a b) = false
is_check (text.LetMul x a b) = false
is_check (text.LetScale x a k) = false
is_check (text.LetShift x a s) = false
is_check (text.LetCut x a from len) = false
is_check (text.LetJoin x parts) = false
is_check (text.LetSum x a) = false
is_check (text.LetCount x a) = false
is_check (text.LetStencil1 x l m r k s) = false
is_check (text.LetStencil2 x north south west east m cols k s) = false
is_check (text.LetProduct x a v) = false
is_check (text.Put promise local when) = false
is_check (text.DropAwait promise) = false
is_check (text.CheckRange promise lo hi) = true
is_check (text.CheckTotal promise total) = true
is_check (text.CheckLinear promise base inputs factors) = true
is_check (text.CheckConserve promise l m r k s) = true
is_check (text.CheckConserve2 promise north south west east m cols k s) = true
is_check (text.CheckProduct promise a q) = true
is_check (text.CheckUser promise check) = true

abbrev pub check_lines : List Statement → List Statement
check_lines lines = filter is_check lines

abbrev pub step_lines : List Statement → List Statement
step_lines lines = filter (λ s. not (is_check s)) lines

-- the lines of a matrix: what its first line says, and the lines up to its `end`
pub record MatrixLines : Type 0 where
  pub name : List ℕ
  pub rows : ℕ
  pub cols : ℕ
  pub body : List Statement

abbrev pub matrix_lines : MatrixLines → List Statement
matrix_lines m = text.Matrix m.name m.rows m.cols ∷ (m.body ++ text.End ∷ [])

-- these are the cells of these columns and values, one by one
abbrev pub AreCells : List ℕ → List ℕ → List Cell → Type 0
AreCells [] [] [] = ⊤
AreCells (j ∷ columns) (v ∷ values) (c ∷ cells) = (c.col ≡ j) × (c.value ≡ v) × AreCells columns values cells
AreCells columns values cells = ⊥

-- the line says this row
abbrev pub SaysRow : Statement → List Cell → Type 0
SaysRow (text.Row columns values) row = AreCells columns values row
SaysRow s row = ⊥

-- the lines say the rows, one by one
abbrev pub SayRows : List Statement → List (List Cell) → Type 0
SayRows [] [] = ⊤
SayRows [] (row ∷ rows) = ⊥
SayRows (s ∷ lines) [] = ⊥
SayRows (s ∷ lines) (row ∷ rows) = SaysRow s row × SayRows lines rows

-- The lines are those of the matrix: it has the columns and as many rows as the first one says, and the rows that the others say.
pub record IsMatrixOf (lines : MatrixLines) (a : MatrixData) : Type 0 where
  pub cols : a.cols ≡ lines.cols
  pub count : length a.rows ≡ lines.rows
  pub rows : SayRows lines.body a.rows

-- the lines are those of the matrices, one by one
abbrev pub AreMatricesOf : List MatrixLines → List MatrixData → Type 0
AreMatricesOf [] [] = ⊤
AreMatricesOf [] (a ∷ matrices) = ⊥
AreMatricesOf (m ∷ lines) [] = ⊥
AreMatricesOf (m ∷ lines) (a ∷ matrices) = IsMatrixOf m a × AreMatricesOf lines matrices

-- the lines of a task: what its first line says, and the lines up to its `end`
pub record TaskLines : Type 0 where
  pub name : List ℕ
  pub scheme : SchemeText
  pub awaits : List (List ℕ)
  pub body : List Statement

abbrev pub lines_of : TaskLines → List Statement
lines_of t = text.Task t.name t.scheme t.awaits ∷ (t.body ++ text.End ∷ [])

-- The lines are those of the node: a task of their name and scheme in this group that awaits what they await, does what they say, and is
-- checked as they say. Its first locals are its awaits, and the others have the names of its `let` lines.
pub record IsTaskOf (handed : HandedChecks) (matrices promises : List (List ℕ)) (around : Option ℕ) (lines : TaskLines) (node : Node) : Type 0 where
  pub kind : node.kind ≡ Task
  pub name : node.name ≡ lines.name
  pub scheme : node.scheme ≡ planned_scheme lines.scheme
  pub group : node.group ≡ around
  pub awaits : AreNamed promises node.awaits lines.awaits
  pub body : SayBody matrices promises lines.awaits (step_lines lines.body) node.body
  pub checks : SayChecks handed matrices promises lines.awaits (check_lines lines.body) node.checks
  pub lets : node.lets ≡ flat_map made_by lines.body

-- a group of this name and these awaits in this group
pub record IsGroupOf (promises : List (List ℕ)) (around : Option ℕ) (named : List ℕ) (awaited : List (List ℕ)) (node : Node) : Type 0 where
  pub kind : node.kind ≡ Group
  pub name : node.name ≡ named
  pub group : node.group ≡ around
  pub awaits : AreNamed promises node.awaits awaited

-- a scope of this name and with these members in this group, which puts the promise of its name
pub record IsScopeOf (promises : List (List ℕ)) (around : Option ℕ) (named : List ℕ) (inside : List ℕ) (node : Node) : Type 0 where
  pub kind : node.kind ≡ Scope
  pub name : node.name ≡ named
  pub group : node.group ≡ around
  pub members : node.members ≡ inside
  pub own : AreNamed promises node.puts (named ∷ [])

-- The parts of a text: declarations, matrices, tasks, and scopes and groups that have parts inside.
pub data Parts : Type 0 where
  no_parts : Parts
  a_promise : (name : List ℕ) (len : ℕ) (temp : Bool) (rest : Parts) → Parts
  a_matrix : (matrix : MatrixLines) (rest : Parts) → Parts
  a_task : (task : TaskLines) (rest : Parts) → Parts
  a_scope : (name : List ℕ) (inside rest : Parts) → Parts
  a_group : (name : List ℕ) (awaits : List (List ℕ)) (inside rest : Parts) → Parts

-- the lines of the parts
abbrev pub lines_in : Parts → List Statement
lines_in no_parts = []
lines_in (a_promise name len temp rest) = text.Promise name len temp ∷ lines_in rest
lines_in (a_matrix m rest) = matrix_lines m ++ lines_in rest
lines_in (a_task t rest) = lines_of t ++ lines_in rest
lines_in (a_scope name inside rest) = text.Finish name ∷ (lines_in inside ++ text.End ∷ lines_in rest)
lines_in (a_group name awaits inside rest) = text.Group name awaits ∷ (lines_in inside ++ text.End ∷ lines_in rest)

-- how many nodes the parts are
abbrev pub nodes_in : Parts → ℕ
nodes_in no_parts = 0
nodes_in (a_promise name len temp rest) = nodes_in rest
nodes_in (a_matrix m rest) = nodes_in rest
nodes_in (a_task t rest) = 1 + nodes_in rest
nodes_in (a_scope name inside rest) = nodes_in inside + 1 + nodes_in rest
nodes_in (a_group name awaits inside rest) = 1 + nodes_in inside + nodes_in rest

-- the matrices among the parts, in the order of their lines
abbrev pub matrices_in : Parts → List MatrixLines
matrices_in no_parts = []
matrices_in (a_promise name len temp rest) = matrices_in rest
matrices_in (a_matrix m rest) = m ∷ matrices_in rest
matrices_in (a_task t rest) = matrices_in rest
matrices_in (a_scope name inside rest) = matrices_in inside ++ matrices_in rest
matrices_in (a_group name awaits inside rest) = matrices_in inside ++ matrices_in rest

abbrev pub matrix_names : List MatrixLines → List (List ℕ)
matrix_names lines = map (λ m. m.name) lines

-- The parts in this group are the nodes from this number on. A task has the next number, a group that before the nodes inside it, and a
-- scope that behind them: these are its members. What stands right in a group, or in scopes in it, has that group.
abbrev pub SayParts : HandedChecks → List (List ℕ) → List (List ℕ) → List Node → Option ℕ → ℕ → Parts → Type 0
SayParts handed matrices promises nodes group v no_parts = ⊤
SayParts handed matrices promises nodes group v (a_promise name len temp rest) = SayParts handed matrices promises nodes group v rest
SayParts handed matrices promises nodes group v (a_matrix m rest) = SayParts handed matrices promises nodes group v rest
SayParts handed matrices promises nodes group v (a_task t rest) = IsSomeAnd (slice_get nodes v) (IsTaskOf handed matrices promises group t) × SayParts handed matrices promises nodes group (v + 1) rest
SayParts handed matrices promises nodes group v (a_scope name inside rest) =
    SayParts handed matrices promises nodes group v inside
    × IsSomeAnd (slice_get nodes (v + nodes_in inside)) (IsScopeOf promises group name (range_with_len v (nodes_in inside)))
    × SayParts handed matrices promises nodes group (v + nodes_in inside + 1) rest
SayParts handed matrices promises nodes group v (a_group name awaits inside rest) =
    IsSomeAnd (slice_get nodes v) (IsGroupOf promises group name awaits)
    × SayParts handed matrices promises nodes (Some v) (v + 1) inside
    × SayParts handed matrices promises nodes group (v + 1 + nodes_in inside) rest

-- a `promise` or a `finish` line
abbrev pub is_declaration : Statement → Bool
is_declaration (text.Promise name len temp) = true
is_declaration (text.Matrix name rows cols) = false
is_declaration (text.Row columns values) = false
is_declaration (text.Task name scheme awaits) = false
is_declaration (text.Finish name) = true
is_declaration (text.Group name awaits) = false
is_declaration text.End = false
is_declaration (text.LetLit x words) = false
is_declaration (text.LetGen x n start limit) = false
is_declaration (text.LetAdd x a b) = false
is_declaration (text.LetSub x a b) = false
is_declaration (text.LetMul x a b) = false
is_declaration (text.LetScale x a k) = false
is_declaration (text.LetShift x a s) = false
is_declaration (text.LetCut x a from len) = false
is_declaration (text.LetJoin x parts) = false
is_declaration (text.LetSum x a) = false
is_declaration (text.LetCount x a) = false
is_declaration (text.LetStencil1 x l m r k s) = false
is_declaration (text.LetStencil2 x north south west east m cols k s) = false
is_declaration (text.LetProduct x a v) = false
is_declaration (text.Put promise local when) = false
is_declaration (text.DropAwait promise) = false
is_declaration (text.CheckRange promise lo hi) = false
is_declaration (text.CheckTotal promise total) = false
is_declaration (text.CheckLinear promise base inputs factors) = false
is_declaration (text.CheckConserve promise l m r k s) = false
is_declaration (text.CheckConserve2 promise north south west east m cols k s) = false
is_declaration (text.CheckProduct promise a q) = false
is_declaration (text.CheckUser promise check) = false

-- The line declares the promise: as many words as a `promise` line says, three words for a scope's own.
abbrev pub Declares : Statement → PlannedPromise → Type 0
Declares (text.Promise name len temp) p = (p.name ≡ name) × (p.len ≡ len) × (p.temp ≡ temp) × (p.scope ≡ false)
Declares (text.Finish name) p = (p.name ≡ name) × (p.len ≡ SCOPE_WORDS) × (p.temp ≡ false) × (p.scope ≡ true)
Declares s p = ⊥

-- the lines declare the promises, one by one
abbrev pub DeclareAll : List Statement → List PlannedPromise → Type 0
DeclareAll [] [] = ⊤
DeclareAll [] (p ∷ promises) = ⊥
DeclareAll (s ∷ lines) [] = ⊥
DeclareAll (s ∷ lines) (p ∷ promises) = Declares s p × DeclareAll lines promises

abbrev pub names_of : List PlannedPromise → List (List ℕ)
names_of promises = map (λ p. p.name) promises

-- The `promise` and `finish` lines are those of the promises, in order. All lines are those of parts, which are the nodes and the matrices. A
-- matrix, as a promise, has its place as its number.
pub record SayPlan (handed : HandedChecks) (statements : List Statement) (plan : PlanData) : Type 0 where
  pub declarations : DeclareAll (filter is_declaration statements) plan.promises
  pub parts : Parts
  pub lines : statements ≡ lines_in parts
  pub matrices : AreMatricesOf (matrices_in parts) plan.matrices
  pub count : length plan.nodes ≡ nodes_in parts
  pub nodes : SayParts handed (matrix_names (matrices_in parts)) (names_of plan.promises) plan.nodes None 0 parts

abbrev pub PlansSayTheirTexts : Type 0
PlansSayTheirTexts = (handed : HandedChecks) (text : ProgramText) (plan : PlanData) → IsLawfulText text → IsPlanOf handed text plan → SayPlan handed (map (λ item. item.statement) text.items) plan
