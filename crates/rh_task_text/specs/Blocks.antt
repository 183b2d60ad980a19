-- The blocks that are open below some statements, and what stands in them. The statements above a line are listed with the nearest first.
use Rattle.std.specs.Prelude.{ℕ, ◌≡◌, ◌+◌, List, [], ◌∷◌, Bool, true, false, Option, Some, None, drop, nat_le, nat_lt, if◌then◌else◌}
use Rattle.rh_words.specs.declared.keyword.Keyword.{Keyword}
use Rattle.rh_words.specs.declared.keyword.Keyword.TheVariants.{LetWord, CheckWord}
use Rattle.rh_task_text.specs.declared.form.Standing.{Standing}
use Rattle.rh_task_text.specs.declared.form.Standing.TheVariants.{Outside, InMatrix, InTask, Anywhere}
use Rattle.rh_task_text.specs.declared.form.Block.{Block}
use Rattle.rh_task_text.specs.declared.form.Block.TheVariants.{TaskBlock, MatrixBlock, ScopeBlock}
use Rattle.rh_task_text.specs.declared.form.Change.{Change}
use Rattle.rh_task_text.specs.declared.form.Change.TheVariants.{Opens, Closes, Stays}
use Rattle.rh_task_text.specs.declared.form.FormKind.{FormKind}
use Rattle.rh_task_text.specs.declared.form.FormKind.TheVariants.{RowForm, EndForm}
use Rattle.rh_task_text.specs.declared.statement.Statement.{Statement}
use Rattle.rh_task_text.specs.declared.statement.Statement.TheVariants.{Promise, Matrix, Row, Task, Finish, Group, End, LetLit, LetGen, LetAdd, LetSub, LetMul, LetScale, LetShift, LetCut, LetJoin, LetSum, LetCount, LetStencil1, LetStencil2, LetProduct, Put, DropAwait, CheckRange, CheckTotal, CheckLinear, CheckConserve, CheckConserve2, CheckProduct, CheckUser}
use Rattle.rh_task_text.specs.Forms.{form}
use Rattle.rh_task_text.specs.Statements.{kind_of}

-- how a statement changes which blocks are open
abbrev pub change_by : Statement → Change
change_by (Promise name len temp) = Stays
change_by (Matrix name rows cols) = Opens (MatrixBlock rows cols)
change_by (Row columns values) = Stays
change_by (Task name scheme awaits) = Opens TaskBlock
change_by (Finish name) = Opens ScopeBlock
change_by (Group name awaits) = Opens ScopeBlock
change_by End = Closes
change_by (LetLit x words) = Stays
change_by (LetGen x n start limit) = Stays
change_by (LetAdd x a b) = Stays
change_by (LetSub x a b) = Stays
change_by (LetMul x a b) = Stays
change_by (LetScale x a k) = Stays
change_by (LetShift x a s) = Stays
change_by (LetCut x a from len) = Stays
change_by (LetJoin x parts) = Stays
change_by (LetSum x a) = Stays
change_by (LetCount x a) = Stays
change_by (LetStencil1 x l m r k s) = Stays
change_by (LetStencil2 x north south west east m cols k s) = Stays
change_by (LetProduct x a v) = Stays
change_by (Put promise local when) = Stays
change_by (DropAwait promise) = Stays
change_by (CheckRange promise lo hi) = Stays
change_by (CheckTotal promise sum) = Stays
change_by (CheckLinear promise base inputs factors) = Stays
change_by (CheckConserve promise l m r k s) = Stays
change_by (CheckConserve2 promise north south west east m cols k s) = Stays
change_by (CheckProduct promise a q) = Stays
change_by (CheckUser promise check) = Stays

-- the blocks after a change: it opens one within the others, or closes the innermost
abbrev pub changed : Change → List Block → List Block
changed (Opens block) blocks = block ∷ blocks
changed Closes blocks = drop 1 blocks
changed Stays blocks = blocks

-- the blocks that are open, the innermost first
abbrev pub open_blocks : List Statement → List Block
open_blocks [] = []
open_blocks (s ∷ above) = changed (change_by s) (open_blocks above)

-- the innermost of these blocks, where one is open
abbrev pub innermost : List Block → Option Block
innermost [] = None
innermost (block ∷ blocks) = Some block

-- right in this block, or outside of all, a statement that stands so has a place
abbrev pub may_stand : Standing → Option Block → Bool
may_stand Anywhere here = true
may_stand InTask (Some TaskBlock) = true
may_stand InMatrix (Some (MatrixBlock rows cols)) = true
may_stand Outside None = true
may_stand Outside (Some ScopeBlock) = true
may_stand standing here = false

abbrev pub is_row_form : FormKind → Bool
is_row_form RowForm = true
is_row_form kind = false

-- how many `row` lines the open matrix has
abbrev pub rows_here : List Statement → ℕ
rows_here [] = 0
rows_here (s ∷ above) = if is_row_form (kind_of s) then rows_here above + 1 else 0

-- how many rows the block has at its end
abbrev pub rows_wanted : Option Block → ℕ
rows_wanted (Some (MatrixBlock rows cols)) = rows
rows_wanted here = 0

-- After so many rows of the block a statement of this form may come: a row while rows are missing, an end when none is.
abbrev pub rows_fit : ℕ → Option Block → FormKind → Bool
rows_fit rows here RowForm = nat_lt rows (rows_wanted here)
rows_fit rows here EndForm = nat_le (rows_wanted here) rows
rows_fit rows here kind = true

abbrev pub is_in_task : Standing → Bool
is_in_task InTask = true
is_in_task standing = false

abbrev pub is_let : Keyword → Bool
is_let LetWord = true
is_let word = false

abbrev pub is_check : Keyword → Bool
is_check CheckWord = true
is_check word = false

-- one more line of the open task, where it stands in one, and counts or not
abbrev pub count_line : Standing → Bool → ℕ → ℕ
count_line standing counts lines = if is_in_task standing then (if counts then lines + 1 else lines) else 0

-- how many `let` lines the open task has
abbrev pub lets_here : List Statement → ℕ
lets_here [] = 0
lets_here (s ∷ above) = count_line (form (kind_of s)).standing (is_let (form (kind_of s)).first) (lets_here above)

-- how many `check` lines the open task has
abbrev pub checks_here : List Statement → ℕ
checks_here [] = 0
checks_here (s ∷ above) = count_line (form (kind_of s)).standing (is_check (form (kind_of s)).first) (checks_here above)

-- the statement has a place below these, and comes at the right count of rows
abbrev pub Stands : List Statement → Statement → Type 0
Stands above s = (may_stand (form (kind_of s)).standing (innermost (open_blocks above)) ≡ true) × (rows_fit (rows_here above) (innermost (open_blocks above)) (kind_of s) ≡ true)

-- an end where no block is open
abbrev pub ends_nothing : Option Block → FormKind → Bool
ends_nothing None EndForm = true
ends_nothing here kind = false
