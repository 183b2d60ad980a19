-- Below lawful statements all counts are small.
use Rattle.std.proofs.Common.{◌≡◌, ℕ, ◌+◌, ◌<◌, ◌≤◌, List, [], ◌∷◌, Some, None, Bool, true, false, cond, drop, length, refl, arith}
use Rattle.std.specs.Prelude.{nat_le}
use Rattle.std.proofs.lemmas.Bool.{ltb-true, leb-true}
use Rattle.rh_words.specs.declared.reason.Reason.{Reason}
use Rattle.rh_words.specs.declared.keyword.Keyword.{Keyword}
use Rattle.rh_words.specs.declared.keyword.Keyword.TheVariants.{LetWord, CheckWord}
use Rattle.rh_task_text.specs.declared.form.Standing.{Standing}
use Rattle.rh_task_text.specs.declared.form.Block.{Block}
use Rattle.rh_task_text.specs.declared.statement.Statement.{Statement}
use Rattle.rh_task_text.specs.declared.statement.Statement.TheVariants.{Matrix, Task, Finish, Group, End}
use Rattle.rh_task_text.specs.Forms.{form}
use Rattle.rh_task_text.specs.Statements.{kind_of}
use Rattle.rh_task_text.specs.Blocks.{open_blocks, innermost, rows_wanted, rows_here, is_in_task, is_let, is_check, count_line, lets_here, checks_here}
use Rattle.rh_task_text.specs.Limits.{is_within, is_side, has_room, own_limits}
use Rattle.rh_task_text.specs.LineReasons.{statement_reason}
use Rattle.rh_task_text.specs.Program.{AllStand}
use Rattle.rh_words.proofs.WordsInPlaces.{both}
use Rattle.rh_task_text.proofs.OpenBlocksClose.{rows_kept}

no_reason : (a b : Bool) (r q : Reason) → cond a (Some r) (cond b None (Some q)) ≡ None → b ≡ true
no_reason true b r q e = cc
no_reason false true r q e = refl
no_reason false false r q e = cc

-- a statement without a reason is within its limits
pub within : (above : List Statement) (s : Statement) → statement_reason above s ≡ None → is_within above s ≡ true
within above s e = no_reason _ _ _ _ e

-- there is room for such a line
pub has_its_room : (above : List Statement) (s : Statement) → statement_reason above s ≡ None → has_room (length (open_blocks above)) (lets_here above) (checks_here above) (form (kind_of s)).first ≡ true
has_its_room above s e = (both (has_room (length (open_blocks above)) (lets_here above) (checks_here above) (form (kind_of s)).first) (own_limits (innermost (open_blocks above)) s) (within above s e)).0

-- its own numbers are within their limits
keeps_its_own : (above : List Statement) (s : Statement) → statement_reason above s ≡ None → own_limits (innermost (open_blocks above)) s ≡ true
keeps_its_own above s e = (both (has_room (length (open_blocks above)) (lets_here above) (checks_here above) (form (kind_of s)).first) (own_limits (innermost (open_blocks above)) s) (within above s e)).1

-- the matrices among these blocks want 4,096 rows at most
abbrev AreSized : List Block → Type 0
AreSized [] = Unit {0}
AreSized (block ∷ blocks) = (rows_wanted (Some block) ≤ 4096) × AreSized blocks

outer : (blocks : List Block) → AreSized blocks → AreSized (drop 1 blocks)
outer [] h = h
outer (b ∷ bs) h = h.1

sized : (above : List Statement) → AllStand above → AreSized (open_blocks above)
sized [] h = tt
sized (Matrix name rows cols ∷ above) h =
    let size = both (nat_le 1 rows) (nat_le rows 4096) (both (is_side rows) (is_side cols) (keeps_its_own above (Matrix name rows cols) h.0.limited)).0 in
    (leb-true rows 4096 size.1, sized above h.1)
sized (End ∷ above) h = outer (open_blocks above) (sized above h.1)
sized (Task name scheme awaits ∷ above) h = (omega arith, sized above h.1)
sized (Finish name ∷ above) h = (omega arith, sized above h.1)
sized (Group name awaits ∷ above) h = (omega arith, sized above h.1)
sized (s ∷ above) h = sized above h.1

wanted : (blocks : List Block) → AreSized blocks → rows_wanted (innermost blocks) ≤ 4096
wanted [] h = omega arith
wanted (b ∷ bs) h = h.0

-- a matrix has 4,096 rows at most
pub rows_small : (above : List Statement) → AllStand above → rows_here above ≤ 4096
rows_small above h =
    let most = wanted (open_blocks above) (sized above h) in
    let kept = rows_kept above h in omega arith

room_let : (depth lets checks : ℕ) (w : Keyword) → has_room depth lets checks w ≡ true → is_let w ≡ true → lets < 32
room_let depth lets checks LetWord h e = ltb-true lets 32 h
room_let depth lets checks w h e = cc

room_check : (depth lets checks : ℕ) (w : Keyword) → has_room depth lets checks w ≡ true → is_check w ≡ true → checks < 16
room_check depth lets checks CheckWord h e = ltb-true checks 16 h
room_check depth lets checks w h e = cc

counted : (most : ℕ) (standing : Standing) (counts : Bool) (lines : ℕ) → lines ≤ most → (counts ≡ true → lines < most) → count_line standing counts lines ≤ most
counted most standing counts lines h less = by_standing (is_in_task standing) where
  by_standing : (b : Bool) → cond b (cond counts (lines + 1) lines) 0 ≤ most
  by_standing false = omega arith
  by_standing true = by_count counts less where
    by_count : (t : Bool) → (t ≡ true → lines < most) → cond t (lines + 1) lines ≤ most
    by_count true room = let more = room refl in omega arith
    by_count false room = h

-- a task has 32 `let` lines at most
pub lets_small : (above : List Statement) → AllStand above → lets_here above ≤ 32
lets_small [] h = omega arith
lets_small (s ∷ above) h =
    let room = has_its_room above s h.0.limited in
    counted 32 (form (kind_of s)).standing (is_let (form (kind_of s)).first) (lets_here above) (lets_small above h.1) (λ e. room_let (length (open_blocks above)) (lets_here above) (checks_here above) (form (kind_of s)).first room e)

-- a task has 16 `check` lines at most
pub checks_small : (above : List Statement) → AllStand above → checks_here above ≤ 16
checks_small [] h = omega arith
checks_small (s ∷ above) h =
    let room = has_its_room above s h.0.limited in
    counted 16 (form (kind_of s)).standing (is_check (form (kind_of s)).first) (checks_here above) (checks_small above h.1) (λ e. room_check (length (open_blocks above)) (lets_here above) (checks_here above) (form (kind_of s)).first room e)
