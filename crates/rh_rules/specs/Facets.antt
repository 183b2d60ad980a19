-- What planning asks of a statement, whatever its form: one row for each form. All that is said of lists of statements is said over these.
use Rattle.std.specs.Prelude.{ℕ, ◌+◌, ◌*◌, ◌==◌, ◌&&◌, ◌≡◌, ◌≤◌, ◌<◌, List, [], ◌∷◌, ◌++◌, Bool, true, false, not, Option, Some, None, length, nat_le, option_to_list, sum, slice_index, drop, replicate}
use Rattle.std.specs.List.{list_all}
use Rattle.rh_rules.specs.declared.node.TheConstants.{SCOPE_WORDS}
use Rattle.rh_task_text.specs.declared.statement.Statement.{Statement}
use Rattle.rh_task_text.specs.declared.statement.Statement.TheVariants as text
use Rattle.rh_task_text.specs.declared.statement.SchemeText.{SchemeText}
use Rattle.rh_sparse.specs.declared.matrix.Cell.{Cell}
use Rattle.rh_check.specs.declared.spec.Term.{Term}
use Rattle.rh_check.specs.declared.spec.Spec.{Spec}
use Rattle.rh_check.specs.declared.spec.Spec.TheVariants as specs
use Rattle.rh_rules.specs.declared.body.Step.{Step}
use Rattle.rh_rules.specs.declared.body.Step.TheVariants as steps
use Rattle.rh_rules.specs.declared.node.PlannedPromise.{PlannedPromise}
use Rattle.rh_rules.specs.declared.shape.Shape.{Shape}
use Rattle.rh_rules.specs.declared.shape.NamedShape.{NamedShape}
use Rattle.rh_rules.specs.Tables.{declared_promise, named_shape}

-- which block a line opens, or that it closes the innermost
pub data BlockLine : Type 0 where
  OpensMatrix : BlockLine
  OpensTask : List ℕ → BlockLine
  OpensScope : List ℕ → BlockLine
  OpensGroup : List ℕ → List (List ℕ) → BlockLine
  ClosesBlock : BlockLine
  WithinBlock : BlockLine

-- the same of each form
abbrev pub block_line : Statement → BlockLine
block_line (text.Promise name len temp) = WithinBlock
block_line (text.Matrix name rows cols) = OpensMatrix
block_line (text.Row columns values) = WithinBlock
block_line (text.Task name scheme awaits) = OpensTask name
block_line (text.Finish name) = OpensScope name
block_line (text.Group name awaits) = OpensGroup name awaits
block_line text.End = ClosesBlock
block_line (text.LetLit x words) = WithinBlock
block_line (text.LetGen x n start limit) = WithinBlock
block_line (text.LetAdd x a b) = WithinBlock
block_line (text.LetSub x a b) = WithinBlock
block_line (text.LetMul x a b) = WithinBlock
block_line (text.LetScale x a k) = WithinBlock
block_line (text.LetShift x a s) = WithinBlock
block_line (text.LetCut x a from len) = WithinBlock
block_line (text.LetJoin x parts) = WithinBlock
block_line (text.LetSum x a) = WithinBlock
block_line (text.LetCount x a) = WithinBlock
block_line (text.LetStencil1 x l m r k s) = WithinBlock
block_line (text.LetStencil2 x north south west east m cols k s) = WithinBlock
block_line (text.LetProduct x a v) = WithinBlock
block_line (text.Put promise local when) = WithinBlock
block_line (text.DropAwait promise) = WithinBlock
block_line (text.CheckRange promise lo hi) = WithinBlock
block_line (text.CheckTotal promise total) = WithinBlock
block_line (text.CheckLinear promise base inputs factors) = WithinBlock
block_line (text.CheckConserve promise l m r k s) = WithinBlock
block_line (text.CheckConserve2 promise north south west east m cols k s) = WithinBlock
block_line (text.CheckProduct promise a q) = WithinBlock
block_line (text.CheckUser promise check) = WithinBlock

-- how a statement changes which blocks are open
pub data Turn : Type 0 where
  Opens : Turn
  Closes : Turn
  Stays : Turn

abbrev pub turn_by : BlockLine → Turn
turn_by OpensMatrix = Opens
turn_by (OpensTask name) = Opens
turn_by (OpensScope name) = Opens
turn_by (OpensGroup name awaits) = Opens
turn_by ClosesBlock = Closes
turn_by WithinBlock = Stays

abbrev pub turn : Statement → Turn
turn s = turn_by (block_line s)

pub record Facets : Type 0 where
  -- the name that it declares: of a promise, matrix, task, group or scope
  pub declared : Option (List ℕ)
  -- the promise that it declares: a scope has one of three words
  pub promised : Option PlannedPromise
  -- the matrix that it declares, and the row that it adds to the open one
  pub shaped : Option NamedShape
  pub row : Option (List Cell)
  -- its await list
  pub awaited : List (List ℕ)
  -- the names that a task awaits, which are its first locals
  pub task_awaits : List (List ℕ)
  pub scheme : Option SchemeText
  -- the local that a `let` makes
  pub made : Option (List ℕ)
  -- the locals that it uses
  pub used : List (List ℕ)
  -- the matrix that it names
  pub matrix : Option (List ℕ)
  -- by the shape of that matrix and by the lengths of those locals: whether they fit, and how long the local is that is made
  pub fits : Shape → List ℕ → Bool
  pub len : Shape → List ℕ → ℕ
  -- by the number of that matrix and by the numbers of those locals: the planned step of a `let`
  pub step : ℕ → List ℕ → Option Step
  -- the promise that a `put` puts, and the await that a `drop` drops
  pub put_to : Option (List ℕ)
  pub dropped : Option (List ℕ)
  -- the promise that a check judges, and the awaits that it reads
  pub checked : Option (List ℕ)
  pub inputs : List (List ℕ)
  -- the handed-in check that a check names
  pub asked : Option (List ℕ)
  -- by the place of that among the handed-in checks, by the number of the matrix, and by the numbers of the awaits: what a check asks
  pub spec : ℕ → ℕ → List ℕ → Spec
  -- by the shape of the matrix, by the length of that promise and by the lengths of those awaits: whether they fit
  pub suits : Shape → ℕ → List ℕ → Bool

-- of a line that is no check
abbrev pub asks_nothing : List ℕ → Spec
asks_nothing ns = specs.Total 0

abbrev pub nothing : Facets
nothing = record {
  declared = None;
  promised = None;
  shaped = None;
  row = None;
  awaited = [];
  task_awaits = [];
  scheme = None;
  made = None;
  used = [];
  matrix = None;
  fits = λ shape ls. true;
  len = λ shape ls. 0;
  step = λ matrix ns. None;
  put_to = None;
  dropped = None;
  checked = None;
  inputs = [];
  asked = None;
  spec = λ at matrix ns. asks_nothing ns;
  suits = λ shape n ls. true;
}

-- a `let`: its name, the locals that it uses, whether their lengths fit, its length by theirs, and its step by their numbers
abbrev pub makes : List ℕ → List (List ℕ) → (List ℕ → Bool) → (List ℕ → ℕ) → (List ℕ → Step) → Facets
makes x used fits len step = record nothing { made = Some x; used = used; fits = λ shape ls. fits ls; len = λ shape ls. len ls; step = λ matrix ns. Some (step ns) }

-- a check: the promise that it judges, the awaits that it reads, and what it asks by their numbers
abbrev pub checks : List ℕ → List (List ℕ) → (List ℕ → Spec) → Facets
checks promise inputs spec = record nothing { checked = Some promise; inputs = inputs; spec = λ at matrix ns. spec ns }

-- a check of promises whose lengths fit
abbrev pub fitting : Facets → (ℕ → List ℕ → Bool) → Facets
fitting f suits = record f { suits = λ shape n ls. suits n ls }

-- a check that asks a handed-in one
abbrev pub asks : List ℕ → List ℕ → Facets
asks promise check = record nothing { checked = Some promise; asked = Some check; spec = λ at matrix ns. specs.User at }

-- the sum of an input times a factor
abbrev pub term : ℕ → ℕ → Term
term input factor = record { input = input; factor = factor }

-- the terms of inputs and factors, pair by pair
abbrev pub terms_of : List ℕ → List ℕ → List Term
terms_of [] factors = []
terms_of (n ∷ ns) [] = []
terms_of (n ∷ ns) (c ∷ factors) = term n c ∷ terms_of ns factors

-- sixteen terms of factor 0
unfoldable pub no_terms : List Term
no_terms = replicate 16 (term 0 0)

-- sixteen terms: those of the pairs, and behind them terms of factor 0
abbrev pub sixteen_terms : List ℕ → List ℕ → List Term
sixteen_terms ns factors = terms_of ns factors ++ drop (length ns) no_terms

abbrev pub first : List ℕ → ℕ
first ns = slice_index ns 0

abbrev pub second : List ℕ → ℕ
second ns = slice_index ns 1

abbrev pub always : List ℕ → Bool
always ls = true

abbrev pub one_word : List ℕ → ℕ
one_word ls = 1

abbrev pub are_equal : List ℕ → Bool
are_equal ls = first ls == second ls

-- `cols` words in the north and the south, one for each row in the west and the east, and rows of `cols` words
abbrev pub are_sides : ℕ → List ℕ → Bool
are_sides cols ls = slice_index ls 0 == cols && (slice_index ls 1 == cols && (slice_index ls 2 == slice_index ls 3 && slice_index ls 2 * cols == slice_index ls 4))

-- a cell in this column
abbrev pub cell : ℕ → ℕ → Cell
cell col value = record { col = col; value = value }

-- the cells of columns and values, pair by pair
abbrev pub cells_of : List ℕ → List ℕ → List Cell
cells_of [] values = []
cells_of (j ∷ columns) [] = []
cells_of (j ∷ columns) (v ∷ values) = cell j v ∷ cells_of columns values

unfoldable pub facets : Statement → Facets
facets (text.Promise name len temp) = record nothing { declared = Some name; promised = Some (declared_promise name len temp false) }
facets (text.Matrix name rows cols) = record nothing { declared = Some name; shaped = Some (named_shape name rows cols) }
facets (text.Row columns values) = record nothing { row = Some (cells_of columns values) }
facets (text.Task name scheme awaits) = record nothing { declared = Some name; awaited = awaits; task_awaits = awaits; scheme = Some scheme }
facets (text.Finish name) = record nothing { declared = Some name; promised = Some (declared_promise name SCOPE_WORDS false true) }
facets (text.Group name awaits) = record nothing { declared = Some name; awaited = awaits }
facets text.End = nothing
facets (text.LetLit x words) = makes x [] always (λ ls. length words) (λ ns. steps.Lit words)
facets (text.LetGen x n start limit) = makes x [] always (λ ls. n) (λ ns. steps.Gen n start limit)
facets (text.LetAdd x a b) = makes x (a ∷ b ∷ []) are_equal first (λ ns. steps.Add (first ns) (second ns))
facets (text.LetSub x a b) = makes x (a ∷ b ∷ []) are_equal first (λ ns. steps.Sub (first ns) (second ns))
facets (text.LetMul x a b) = makes x (a ∷ b ∷ []) are_equal first (λ ns. steps.Mul (first ns) (second ns))
facets (text.LetScale x a k) = makes x (a ∷ []) always first (λ ns. steps.Scale (first ns) k)
facets (text.LetShift x a s) = makes x (a ∷ []) always first (λ ns. steps.Shift (first ns) s)
facets (text.LetCut x a from len) = makes x (a ∷ []) (λ ls. nat_le (from + len) (first ls)) (λ ls. len) (λ ns. steps.Cut (first ns) from len)
facets (text.LetJoin x parts) = makes x parts always sum steps.Join
facets (text.LetSum x a) = makes x (a ∷ []) always one_word (λ ns. steps.Sum (first ns))
facets (text.LetCount x a) = makes x (a ∷ []) always one_word (λ ns. steps.Count (first ns))
facets (text.LetStencil1 x l m r k s) = makes x (l ∷ m ∷ r ∷ []) always second (λ ns. steps.Stencil1 (first ns) (second ns) (slice_index ns 2) k s)
facets (text.LetStencil2 x north south west east m cols k s) = makes x (north ∷ south ∷ west ∷ east ∷ m ∷ []) (are_sides cols) (λ ls. slice_index ls 4)
    (λ ns. steps.Stencil2 (first ns) (second ns) (slice_index ns 2) (slice_index ns 3) (slice_index ns 4) cols k s)
facets (text.LetProduct x a v) = record nothing {
  made = Some x;
  used = v ∷ [];
  matrix = Some a;
  fits = λ shape ls. first ls == shape.cols;
  len = λ shape ls. shape.rows;
  step = λ matrix ns. Some (steps.Product matrix (first ns));
}
facets (text.Put promise local when) = record nothing { used = local ∷ option_to_list when; fits = λ shape ls. list_all (λ n. n == 1) (drop 1 ls); put_to = Some promise }
facets (text.DropAwait promise) = record nothing { dropped = Some promise }
facets (text.CheckRange promise lo hi) = checks promise [] (λ ns. specs.Range lo hi)
facets (text.CheckTotal promise total) = checks promise [] (λ ns. specs.Total total)
facets (text.CheckLinear promise base inputs factors) = checks promise inputs (λ ns. specs.Linear base (sixteen_terms ns factors) (length ns))
facets (text.CheckConserve promise l m r k s) = fitting (checks promise (l ∷ m ∷ r ∷ []) (λ ns. specs.Conserve (first ns) (second ns) (slice_index ns 2) k s)) (λ n ls. n == second ls)
facets (text.CheckConserve2 promise north south west east m cols k s) = fitting (checks promise (north ∷ south ∷ west ∷ east ∷ m ∷ [])
    (λ ns. specs.Conserve2 (first ns) (second ns) (slice_index ns 2) (slice_index ns 3) (slice_index ns 4) cols k s)) (λ n ls. n == slice_index ls 4 && are_sides cols ls)
facets (text.CheckProduct promise a q) = record nothing {
  checked = Some promise;
  inputs = q ∷ [];
  matrix = Some a;
  spec = λ at matrix ns. specs.Product matrix (first ns);
  suits = λ shape n ls. n == shape.rows && first ls == shape.cols;
}
facets (text.CheckUser promise check) = asks promise check
