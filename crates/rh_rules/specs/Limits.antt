-- What the grammar's limits give of a statement alone.
use Rattle.std.specs.Prelude.{ℕ, ◌≡◌, ◌≤◌, ◌<◌, ◌^◌, ⊤, length}
use Rattle.std.specs.List.{AllByRecursion}
use Rattle.rh_words.specs.declared.limits.TheConstants.{MAX_PROMISE_WORDS, MAX_AWAITS, MAX_SHIFT, MAX_PARTS, MAX_TERMS, MAX_MATRIX_SIDE, MAX_CELL_VALUE}
use Rattle.rh_task_text.specs.declared.statement.Statement.{Statement}
use Rattle.rh_task_text.specs.declared.statement.Statement.TheVariants.{Promise, Matrix, Row, Task, Finish, Group, End, LetLit, LetGen, LetAdd, LetSub, LetMul, LetScale, LetShift, LetCut, LetJoin, LetSum, LetCount, LetStencil1, LetStencil2, LetProduct, Put, DropAwait, CheckRange, CheckTotal, CheckLinear, CheckConserve, CheckConserve2, CheckProduct, CheckUser}

-- the numbers and lists of the statement are within the limits of the grammar
abbrev pub IsWithinLimits : Statement → Type 0
IsWithinLimits (Promise name len temp) = (1 ≤ len) × (len ≤ MAX_PROMISE_WORDS)
IsWithinLimits (Matrix name rows cols) = (1 ≤ rows) × (rows ≤ MAX_MATRIX_SIDE) × (1 ≤ cols) × (cols ≤ MAX_MATRIX_SIDE)
IsWithinLimits (Row columns values) = (length columns ≡ length values) × AllByRecursion (λ v. v ≤ MAX_CELL_VALUE) values
IsWithinLimits (Task name scheme awaits) = length awaits ≤ MAX_AWAITS
IsWithinLimits (Finish name) = ⊤
IsWithinLimits (Group name awaits) = length awaits ≤ MAX_AWAITS
IsWithinLimits End = ⊤
IsWithinLimits (LetLit x words) = (0 < length words) × (length words ≤ MAX_PROMISE_WORDS) × AllByRecursion (λ w. w < 2 ^ 64) words
IsWithinLimits (LetGen x n start limit) = (0 < n) × (n ≤ MAX_PROMISE_WORDS) × (0 < limit)
IsWithinLimits (LetAdd x a b) = ⊤
IsWithinLimits (LetSub x a b) = ⊤
IsWithinLimits (LetMul x a b) = ⊤
IsWithinLimits (LetScale x a k) = ⊤
IsWithinLimits (LetShift x a s) = s ≤ MAX_SHIFT
IsWithinLimits (LetCut x a from len) = 0 < len
IsWithinLimits (LetJoin x parts) = (0 < length parts) × (length parts ≤ MAX_PARTS)
IsWithinLimits (LetSum x a) = ⊤
IsWithinLimits (LetCount x a) = ⊤
IsWithinLimits (LetStencil1 x l m r k s) = s ≤ MAX_SHIFT
IsWithinLimits (LetStencil2 x north south west east m cols k s) = (0 < cols) × (s ≤ MAX_SHIFT)
IsWithinLimits (LetProduct x a v) = ⊤
IsWithinLimits (Put promise local when) = ⊤
IsWithinLimits (DropAwait promise) = ⊤
IsWithinLimits (CheckRange promise lo hi) = ⊤
IsWithinLimits (CheckTotal promise total) = ⊤
IsWithinLimits (CheckLinear promise base inputs factors) = (length inputs ≤ MAX_TERMS) × (length inputs ≡ length factors)
IsWithinLimits (CheckConserve promise l m r k s) = s ≤ MAX_SHIFT
IsWithinLimits (CheckConserve2 promise north south west east m cols k s) = (0 < cols) × (s ≤ MAX_SHIFT)
IsWithinLimits (CheckProduct promise a q) = ⊤
IsWithinLimits (CheckUser promise check) = ⊤
