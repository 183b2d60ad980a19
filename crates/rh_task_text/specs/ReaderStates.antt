-- What a reader knows of the items of the lines above, and what reading one more line answers.
use Rattle.std.specs.Prelude.{ℕ, ◌≡◌, ◌+◌, if◌then◌else◌, List, [], ◌∷◌, ◌++◌, true, ◌⊎◌, Option, Some, None, length}
use Rattle.rh_words.specs.Text.{lines_of, words_of, is_printable, SaysNothing}
use Rattle.rh_words.specs.declared.reason.Reason.{Reason}
use Rattle.rh_words.specs.declared.value.Value.{Value}
use Rattle.rh_task_text.specs.declared.form.Block.{Block}
use Rattle.rh_task_text.specs.declared.form.FormKind.{FormKind}
use Rattle.rh_task_text.specs.declared.statement.Statement.{Statement}
use Rattle.rh_task_text.specs.declared.statement.Item.{Item}
use Rattle.rh_task_text.specs.declared.form.Change.{Change}
use Rattle.rh_task_text.specs.declared.line.Head.{Head}
use Rattle.rh_task_text.specs.Blocks.{open_blocks, changed, is_row_form, is_let, is_check, count_line, rows_here, lets_here, checks_here}
use Rattle.rh_task_text.specs.Statements.{States}
use Rattle.rh_task_text.specs.LineReasons.{statement_reason}
use Rattle.rh_task_text.specs.Program.{IsItem, IsBody, IsFirstLine, AllStand, upward}

-- a reader's state below the items: the open blocks, the rows of the innermost, and the `let` and `check` lines of the open task
pub record IsStateBelow (items : List Item) (blocks : List Block) (rows lets checks : ℕ) : Type 0 where
  pub blocks_are : blocks ≡ open_blocks (upward items)
  pub rows_are : rows ≡ rows_here (upward items)
  pub lets_are : lets ≡ lets_here (upward items)
  pub checks_are : checks ≡ checks_here (upward items)
  pub lawful : AllStand (upward items)

-- What is open below a line of this form, which changes the blocks so: before it these blocks, rows and lines.
pub record FollowsLine (head : Head) (change : Change) (blocks : List Block) (rows lets checks : ℕ) (blocks2 : List Block) (rows2 lets2 checks2 : ℕ) : Type 0 where
  pub blocks_are : blocks2 ≡ changed change blocks
  pub rows_are : rows2 ≡ (if is_row_form head.kind then rows + 1 else 0)
  pub lets_are : lets2 ≡ count_line head.standing (is_let head.first) lets
  pub checks_are : checks2 ≡ count_line head.standing (is_check head.first) checks

-- the statement with the number of its line
abbrev pub an_item : ℕ → Statement → Item
an_item line statement = record { line = line; statement = statement }

-- below items with this state the first of the reasons 8 and 9 that holds of the statement is this, or none is
abbrev pub IsReasonBelow : List Block → ℕ → ℕ → ℕ → Statement → Option Reason → Type 0
IsReasonBelow blocks rows lets checks s reason = (items : List Item) → IsStateBelow items blocks rows lets checks → reason ≡ statement_reason (upward items) s

-- the statement of these values, which keeps its limits, is put below these items, with this number of its line
abbrev pub AddsStatement : List Item → FormKind → List Value → ℕ → List Item → Type 0
AddsStatement items kind values line new = (s : Statement) × States kind values s × (statement_reason (upward items) s ≡ None) × (new ≡ items ++ an_item line s ∷ [])

-- this reason holds of the statement of these values below these items
abbrev pub IsOverLimits : List Item → FormKind → List Value → Reason → Type 0
IsOverLimits items kind values reason = (s : Statement) × States kind values s × (statement_reason (upward items) s ≡ Some reason)

-- the line of this number makes these items of those above it
abbrev pub AddsLine : List Item → ℕ → List ℕ → List Item → Type 0
AddsLine items number line new =
    (is_printable line ≡ true)
    × ((SaysNothing (words_of line) × (new ≡ items))
    ⊎ ((item : Item) × (new ≡ items ++ item ∷ []) × IsItem (upward items) number line item))

-- The lines up to this number are read, and these lines are left.
pub record IsBegun (bytes : List ℕ) (number : ℕ) (left : List (List ℕ)) (items : List Item) : Type 0 where
  pub first : List ℕ
  pub done : List (List ℕ)
  pub whole : lines_of bytes ≡ first ∷ (done ++ left)
  pub header : IsFirstLine first
  pub body : IsBody [] 2 done items
  pub count : number ≡ 2 + length done
