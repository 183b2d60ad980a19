-- What the grammar gives of a statement: its limits, and words below 2 ^ 64.
use Rattle.std.proofs.Common.{◌≡◌, ℕ, zero, suc, ◌+◌, ◌<◌, ◌≤◌, ◌^◌, subst, get_or, drop, List, [], ◌∷◌, Bool, true, false, Some, None, refl, arith, length, map, sym}
use Rattle.std.specs.Prelude.{nat_le, nat_lt, ◌&&◌, if◌then◌else◌}
use Rattle.std.specs.List.{AllByRecursion, list_all}
use Rattle.std.proofs.lemmas.Option.{none-some}
use Rattle.std.proofs.lemmas.List.Elements.{All-from_recursion}
use Rattle.std.proofs.lemmas.Bool.{false≢true, and_parts}
use Rattle.std.proofs.lemmas.Bool.Decides.{nat_tests}
use Rattle.rh_words.specs.declared.reason.Reason.{Reason}
use Rattle.rh_words.specs.declared.value.Value.TheVariants.{ANumber}
use Rattle.rh_words.specs.Values.{AreSayable}
use Rattle.rh_task_text.specs.declared.statement.Statement.{Statement}
use Rattle.rh_task_text.specs.declared.statement.Statement.TheVariants as text
use Rattle.rh_task_text.specs.Forms.{form}
use Rattle.rh_task_text.specs.Statements.{kind_of}
use Rattle.rh_task_text.specs.Blocks.{open_blocks, innermost, lets_here, checks_here}
use Rattle.rh_task_text.specs.Limits.{own_limits, has_room, is_size, is_side, is_row, columns_here, ascend, ascend_from}
use Rattle.rh_task_text.specs.LineReasons.{statement_reason}
use Rattle.rh_task_text.specs.Program.{IsLawful, AllStand}
use Rattle.rh_task_text.specs.declared.form.Block.{Block}
use Rattle.rh_sparse.specs.declared.matrix.Cell.{Cell}
use Rattle.rh_sparse.specs.Matrix.{IsCell, Ascends, IsRow}
use Rattle.rh_rules.specs.Facets.{cell, cells_of}
use Rattle.rh_rules.specs.Limits.{IsWithinLimits}

second_true : (a b : Bool) → (a && b) ≡ true → b ≡ true
second_true true b e = e
second_true false b e = absurd (false≢true e)

first_true : (a b : Bool) → (a && b) ≡ true → a ≡ true
first_true true b e = refl
first_true false b e = absurd (false≢true e)

-- neither of two reasons
unlimited : (a b : Bool) (r q : Reason) → (if a then Some r else (if b then None else Some q)) ≡ None → (a ≡ false) × (b ≡ true)
unlimited true b r q e = absurd (none-some r (sym e))
unlimited false true r q e = (refl, refl)
unlimited false false r q e = absurd (none-some q (sym e))

pub limits_kept : (above : List Statement) (s : Statement) → statement_reason above s ≡ None → own_limits (innermost (open_blocks above)) s ≡ true
limits_kept above s e = second_true (has_room (length (open_blocks above)) (lets_here above) (checks_here above) (form (kind_of s)).first) _ (unlimited _ _ _ _ e).1

words_below : (words : List ℕ) → AreSayable (map ANumber words) → AllByRecursion (λ w. w < 2 ^ 64) words
words_below [] e = tt
words_below (w ∷ words) e = (e.0, words_below words e.1)

between : (n most : ℕ) → (nat_le 1 n && nat_le n most) ≡ true → (1 ≤ n) × (n ≤ most)
between n most e =
    let low : nat_le 1 n ≡ true = first_true (nat_le 1 n) (nat_le n most) e in
    let high : nat_le n most ≡ true = second_true (nat_le 1 n) (nat_le n most) e in
    (grind (arith, nat_tests), grind (arith, nat_tests))

at_most : (n m : ℕ) → nat_le n m ≡ true → n ≤ m
at_most n m e = grind (arith, nat_tests)

below : (n m : ℕ) → nat_lt n m ≡ true → n < m
below n m e = grind (arith, nat_tests)

gen_limits : (n limit : ℕ) → (is_size n && nat_lt 0 limit) ≡ true → (0 < n) × (n ≤ 4096) × (0 < limit)
gen_limits n limit e =
    let sized = between n 4096 (first_true (is_size n) (nat_lt 0 limit) e) in
    (omega (arith, sized.0), sized.1, below 0 limit (second_true (is_size n) (nat_lt 0 limit) e))

matrix_limits : (rows cols : ℕ) → (is_side rows && is_side cols) ≡ true → (1 ≤ rows) × (rows ≤ 4096) × (1 ≤ cols) × (cols ≤ 4096)
matrix_limits rows cols e =
    let high = between rows 4096 (first_true (is_side rows) (is_side cols) e) in
    let wide = between cols 4096 (second_true (is_side rows) (is_side cols) e) in
    (high.0, high.1, wide.0, wide.1)

small_values : (values : List ℕ) → list_all (λ v. nat_le v 1048575) values ≡ true → AllByRecursion (λ v. v ≤ 1048575) values
small_values [] e = tt
small_values (v ∷ values) e =
    (at_most v 1048575 (first_true (nat_le v 1048575) (list_all (λ w. nat_le w 1048575) values) e), small_values values (second_true (nat_le v 1048575) (list_all (λ w. nat_le w 1048575) values) e))

-- the parts of the limits of a row
pub record IsRowText (cols : ℕ) (columns values : List ℕ) : Type 0 where
  pub few : length columns ≤ 2048
  pub ascending : ascend columns ≡ true
  pub below : list_all (λ j. nat_lt j cols) columns ≡ true
  pub small : AllByRecursion (λ v. v ≤ 1048575) values

pub row_limits : (cols : ℕ) (columns values : List ℕ) → is_row cols columns values ≡ true → IsRowText cols columns values
row_limits cols columns values e =
    let (few, rest) = and_parts (nat_le (length columns) 2048) _ e in
    let (ascending, more) = and_parts (ascend columns) _ rest in
    let (inside, small) = and_parts (list_all (λ j. nat_lt j cols) columns) (list_all (λ v. nat_le v 1048575) values) more in
    record { few = at_most (length columns) 2048 few; ascending = ascending; below = inside; small = small_values values small }

cells_counted : (columns values : List ℕ) → length columns ≡ length values → length (cells_of columns values) ≡ length columns
cells_counted [] values same = refl
cells_counted (j ∷ columns) [] same = absurd (omega arith)
cells_counted (j ∷ columns) (v ∷ values) same = let rest = cells_counted columns values (omega arith) in omega arith

cells_lawful : (cols : ℕ) (columns values : List ℕ) → list_all (λ j. nat_lt j cols) columns ≡ true → AllByRecursion (λ v. v ≤ 1048575) values → AllByRecursion (IsCell cols) (cells_of columns values)
cells_lawful cols [] values inside small = tt
cells_lawful cols (j ∷ columns) [] inside small = tt
cells_lawful cols (j ∷ columns) (v ∷ values) inside small =
    let (first, rest) = and_parts (nat_lt j cols) (list_all (λ i. nat_lt i cols) columns) inside in
    (record { column = below j cols first; value = small.0 }, cells_lawful cols columns values rest small.1)

no_cells : Ascends []
no_cells k d low = absurd (omega arith)

alone : (a : Cell) → Ascends (a ∷ [])
alone a k d low = absurd (omega arith)

-- one more cell before those that ascend
before_all : (a b : Cell) (cells : List Cell) → a.col < b.col → Ascends (b ∷ cells) → Ascends (a ∷ b ∷ cells)
before_all a b cells h all zero d low = h
before_all a b cells h all (suc k) d low =
    let next : suc (k + 1) ≡ suc k + 1 = omega arith in
    subst (λ (n : ℕ). (get_or (b ∷ cells) k d).col < (get_or (a ∷ b ∷ cells) n d).col) next (all k d (omega arith))

cells_ascend : (j v : ℕ) (columns values : List ℕ) → ascend_from j columns ≡ true → Ascends (cell j v ∷ cells_of columns values)
cells_ascend j v [] values e = alone (cell j v)
cells_ascend j v (i ∷ columns) [] e = alone (cell j v)
cells_ascend j v (i ∷ columns) (w ∷ values) e =
    let (first, rest) = and_parts (nat_lt j i) (ascend_from i columns) e in
    before_all (cell j v) (cell i w) (cells_of columns values) (below j i first) (cells_ascend i w columns values rest)

row_ascends : (columns values : List ℕ) → ascend columns ≡ true → Ascends (cells_of columns values)
row_ascends [] values e = no_cells
row_ascends (j ∷ columns) [] e = no_cells
row_ascends (j ∷ columns) (v ∷ values) e = cells_ascend j v columns values e

-- the cells of a row within its limits are a row of a matrix of so many columns
pub row_lawful : (cols : ℕ) (columns values : List ℕ) → length columns ≡ length values → IsRowText cols columns values → IsRow cols (cells_of columns values)
row_lawful cols columns values same h =
    let counted = cells_counted columns values same in
    let few : length columns ≤ 2048 = h.few in
    record {
      few = omega arith;
      cells = All-from_recursion (IsCell cols) (cells_of columns values) (cells_lawful cols columns values h.below h.small);
      ascending = row_ascends columns values h.ascending;
    }

-- the matrices among these blocks have 4,096 columns at most
abbrev AreNarrow : List Block → Type 0
AreNarrow blocks = AllByRecursion (λ b. columns_here (Some b) ≤ 4096) blocks

outer : (blocks : List Block) → AreNarrow blocks → AreNarrow (drop 1 blocks)
outer [] h = tt
outer (b ∷ bs) h = h.1

narrow : (above : List Statement) → AllStand above → AreNarrow (open_blocks above)
narrow [] h = tt
narrow (text.Matrix name rows cols ∷ above) h = ((matrix_limits rows cols (limits_kept above (text.Matrix name rows cols) h.0.limited)).3, narrow above h.1)
narrow (text.End ∷ above) h = outer (open_blocks above) (narrow above h.1)
narrow (text.Task name scheme awaits ∷ above) h = (omega arith, narrow above h.1)
narrow (text.Finish name ∷ above) h = (omega arith, narrow above h.1)
narrow (text.Group name awaits ∷ above) h = (omega arith, narrow above h.1)
narrow (s ∷ above) h = narrow above h.1

innermost_narrow : (blocks : List Block) → AreNarrow blocks → columns_here (innermost blocks) ≤ 4096
innermost_narrow [] h = omega arith
innermost_narrow (b ∷ bs) h = h.0

-- the open matrix has 4,096 columns at most
pub columns_small : (above : List Statement) → AllStand above → columns_here (innermost (open_blocks above)) ≤ 4096
columns_small above h = innermost_narrow (open_blocks above) (narrow above h)

-- columns of so many are below that
pub columns_below : (cols most : ℕ) (columns : List ℕ) → cols ≤ most → list_all (λ j. nat_lt j cols) columns ≡ true → AllByRecursion (λ j. j < most) columns
columns_below cols most [] few inside = tt
columns_below cols most (j ∷ columns) few inside =
    let (first, rest) = and_parts (nat_lt j cols) (list_all (λ i. nat_lt i cols) columns) inside in
    let h : j < cols = below j cols first in
    (omega arith, columns_below cols most columns few rest)

pub within : (above : List Statement) (s : Statement) → IsLawful above s → IsWithinLimits s
within above (text.Promise name len temp) l = between len 4096 (limits_kept above (text.Promise name len temp) l.limited)
within above (text.Matrix name rows cols) l = matrix_limits rows cols (limits_kept above (text.Matrix name rows cols) l.limited)
within above (text.Row columns values) l = (l.whole, (row_limits (columns_here (innermost (open_blocks above))) columns values (limits_kept above (text.Row columns values) l.limited)).small)
within above (text.Task name scheme awaits) l = at_most (length awaits) 16 (limits_kept above (text.Task name scheme awaits) l.limited)
within above (text.Group name awaits) l = at_most (length awaits) 16 (limits_kept above (text.Group name awaits) l.limited)
within above (text.LetLit x words) l = (l.whole, at_most (length words) 4096 (limits_kept above (text.LetLit x words) l.limited), words_below words l.sayable.1.1.1)
within above (text.LetGen x n start limit) l = gen_limits n limit (limits_kept above (text.LetGen x n start limit) l.limited)
within above (text.LetShift x a s) l = at_most s 63 (limits_kept above (text.LetShift x a s) l.limited)
within above (text.LetCut x a from len) l = below 0 len (limits_kept above (text.LetCut x a from len) l.limited)
within above (text.LetJoin x parts) l = (l.whole, at_most (length parts) 16 (limits_kept above (text.LetJoin x parts) l.limited))
within above (text.LetStencil1 x a m r k s) l = at_most s 63 (limits_kept above (text.LetStencil1 x a m r k s) l.limited)
within above (text.LetStencil2 x north south west east m cols k s) l =
    let both : (nat_lt 0 cols && nat_le s 63) ≡ true = limits_kept above (text.LetStencil2 x north south west east m cols k s) l.limited in
    (below 0 cols (first_true (nat_lt 0 cols) (nat_le s 63) both), at_most s 63 (second_true (nat_lt 0 cols) (nat_le s 63) both))
within above (text.CheckConserve promise a m r k s) l = at_most s 63 (limits_kept above (text.CheckConserve promise a m r k s) l.limited)
within above (text.CheckConserve2 promise north south west east m cols k s) l =
    let both : (nat_lt 0 cols && nat_le s 63) ≡ true = limits_kept above (text.CheckConserve2 promise north south west east m cols k s) l.limited in
    (below 0 cols (first_true (nat_lt 0 cols) (nat_le s 63) both), at_most s 63 (second_true (nat_lt 0 cols) (nat_le s 63) both))
within above (text.CheckLinear promise base inputs factors) l = (at_most (length inputs) 16 (limits_kept above (text.CheckLinear promise base inputs factors) l.limited), l.whole.1)
within above s l = tt
