-- Which numbers and how many parts a statement may have.
use Rattle.std.specs.Prelude.{ℕ, ◌&&◌, List, [], ◌∷◌, Bool, true, Option, Some, length, nat_le, nat_lt}
use Rattle.std.specs.List.{list_all}
use Rattle.rh_words.specs.declared.limits.TheConstants.{MAX_PROMISE_WORDS, MAX_MATRIX_SIDE, MAX_ROW_CELLS, MAX_CELL_VALUE, MAX_AWAITS, MAX_PARTS, MAX_TERMS, MAX_SHIFT, MAX_NESTING, MAX_LETS, MAX_CHECKS}
use Rattle.rh_words.specs.declared.keyword.Keyword.{Keyword}
use Rattle.rh_words.specs.declared.keyword.Keyword.TheVariants.{FinishWord, GroupWord, LetWord, CheckWord}
use Rattle.rh_task_text.specs.declared.form.Block.{Block}
use Rattle.rh_task_text.specs.declared.form.Block.TheVariants.{MatrixBlock}
use Rattle.rh_task_text.specs.declared.statement.Statement.{Statement}
use Rattle.rh_task_text.specs.declared.statement.Statement.TheVariants.{Promise, Matrix, Row, Task, Finish, Group, End, LetLit, LetGen, LetAdd, LetSub, LetMul, LetScale, LetShift, LetCut, LetJoin, LetSum, LetCount, LetStencil1, LetStencil2, LetProduct, Put, DropAwait, CheckRange, CheckTotal, CheckLinear, CheckConserve, CheckConserve2, CheckProduct, CheckUser}
use Rattle.rh_task_text.specs.Forms.{form}
use Rattle.rh_task_text.specs.Statements.{kind_of}
use Rattle.rh_task_text.specs.Blocks.{open_blocks, innermost, lets_here, checks_here}

-- how many words a promise or a local may have
abbrev pub is_size : ℕ → Bool
is_size n = nat_le 1 n && nat_le n MAX_PROMISE_WORDS

-- how many rows or columns a matrix may have
abbrev pub is_side : ℕ → Bool
is_side n = nat_le 1 n && nat_le n MAX_MATRIX_SIDE

-- each is above the one before it, and the first above this
abbrev pub ascend_from : ℕ → List ℕ → Bool
ascend_from before [] = true
ascend_from before (j ∷ js) = nat_lt before j && ascend_from j js

-- each is above the one before it
abbrev pub ascend : List ℕ → Bool
ascend [] = true
ascend (j ∷ js) = ascend_from j js

-- how many columns the block has
abbrev pub columns_here : Option Block → ℕ
columns_here (Some (MatrixBlock rows cols)) = cols
columns_here here = 0

-- not too many cells, the columns ascending and below the matrix's, the values within their limit
abbrev pub is_row : ℕ → List ℕ → List ℕ → Bool
is_row cols columns values = nat_le (length columns) MAX_ROW_CELLS && (ascend columns && (list_all (λ j. nat_lt j cols) columns && list_all (λ v. nat_le v MAX_CELL_VALUE) values))

-- the statement's own numbers and lists are within their limits, right in this block
abbrev pub own_limits : Option Block → Statement → Bool
own_limits here (Promise name len temp) = is_size len
own_limits here (Matrix name rows cols) = is_side rows && is_side cols
own_limits here (Row columns values) = is_row (columns_here here) columns values
own_limits here (Task name scheme awaits) = nat_le (length awaits) MAX_AWAITS
own_limits here (Finish name) = true
own_limits here (Group name awaits) = nat_le (length awaits) MAX_AWAITS
own_limits here End = true
own_limits here (LetLit x words) = nat_le (length words) MAX_PROMISE_WORDS
own_limits here (LetGen x n start limit) = is_size n && nat_lt 0 limit
own_limits here (LetAdd x a b) = true
own_limits here (LetSub x a b) = true
own_limits here (LetMul x a b) = true
own_limits here (LetScale x a k) = true
own_limits here (LetShift x a s) = nat_le s MAX_SHIFT
own_limits here (LetCut x a from len) = nat_lt 0 len
own_limits here (LetJoin x parts) = nat_le (length parts) MAX_PARTS
own_limits here (LetSum x a) = true
own_limits here (LetCount x a) = true
own_limits here (LetStencil1 x l m r k s) = nat_le s MAX_SHIFT
own_limits here (LetStencil2 x north south west east m cols k s) = nat_lt 0 cols && nat_le s MAX_SHIFT
own_limits here (LetProduct x a v) = true
own_limits here (Put promise local when) = true
own_limits here (DropAwait promise) = true
own_limits here (CheckRange promise lo hi) = true
own_limits here (CheckTotal promise sum) = true
own_limits here (CheckLinear promise base inputs factors) = nat_le (length inputs) MAX_TERMS
own_limits here (CheckConserve promise l m r k s) = nat_le s MAX_SHIFT
own_limits here (CheckConserve2 promise north south west east m cols k s) = nat_lt 0 cols && nat_le s MAX_SHIFT
own_limits here (CheckProduct promise a q) = true
own_limits here (CheckUser promise check) = true

-- where so many blocks are open, and the task has so many `let` and `check` lines, there is room for one more line that begins so
abbrev pub has_room : ℕ → ℕ → ℕ → Keyword → Bool
has_room depth lets checks FinishWord = nat_lt depth MAX_NESTING
has_room depth lets checks GroupWord = nat_lt depth MAX_NESTING
has_room depth lets checks LetWord = nat_lt lets MAX_LETS
has_room depth lets checks CheckWord = nat_lt checks MAX_CHECKS
has_room depth lets checks word = true

-- the statement is within the limits below these
abbrev pub is_within : List Statement → Statement → Bool
is_within above s = has_room (length (open_blocks above)) (lets_here above) (checks_here above) (form (kind_of s)).first && own_limits (innermost (open_blocks above)) s
