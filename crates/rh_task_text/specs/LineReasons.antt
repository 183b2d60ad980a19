-- The form of a line's words, and the reasons that they give.
use Rattle.std.specs.Prelude.{ℕ, List, ◌∷◌, Option, Some, None, not, if◌then◌else◌, find}
use Rattle.rh_words.specs.declared.reason.Reason.{Reason}
use Rattle.rh_words.specs.declared.reason.Reason.TheVariants.{Statement as BadStatement, Count, EndExtra, Limit}
use Rattle.rh_words.specs.declared.value.Place.TheVariants.{WordPlace}
use Rattle.rh_task_text.specs.declared.form.Block.{Block}
use Rattle.rh_task_text.specs.declared.form.FormKind.{FormKind}
use Rattle.rh_task_text.specs.declared.statement.Statement.{Statement}
use Rattle.rh_task_text.specs.Forms.{Form, form, kinds}
use Rattle.rh_task_text.specs.Statements.{kind_of}
use Rattle.rh_task_text.specs.Blocks.{open_blocks, innermost, may_stand, rows_fit, rows_here, ends_nothing}
use Rattle.rh_task_text.specs.Limits.{is_within}
use Rattle.rh_words.specs.Places.{agrees, places_reason}

-- the first of the reasons 4 to 6 that holds of the words of this form
abbrev pub form_reason : Form → List (List ℕ) → Option Reason
form_reason f ws = places_reason (WordPlace f.first ∷ f.places) f.more f.again ws

-- The form of the words is the first of the table that they agree with.
unfoldable pub kind_chosen : List (List ℕ) → Option FormKind
kind_chosen ws = find (λ k. agrees (WordPlace (form k).first ∷ (form k).choice) ws) kinds

abbrev pub or_else : Option Reason → Option Reason → Option Reason
or_else (Some r) o = Some r
or_else None o = o

-- the first of the reasons 3 to 6 that holds of the words, of this form, right in this block after so many rows
abbrev pub reason_in : Option Block → ℕ → List (List ℕ) → Option FormKind → Option Reason
reason_in here rows ws None = Some BadStatement
reason_in here rows ws (Some k) =
    if not (may_stand (form k).standing here) then Some BadStatement
    else or_else (form_reason (form k) ws) (if rows_fit rows here k then None else Some Count)

-- the first of the reasons 3 to 6 that holds of the words below these statements
abbrev pub words_reason : List Statement → List (List ℕ) → Option Reason
words_reason above ws = reason_in (innermost (open_blocks above)) (rows_here above) ws (kind_chosen ws)

-- the first of the reasons 8 and 9 that holds of the statement below these
abbrev pub statement_reason : List Statement → Statement → Option Reason
statement_reason above s = if ends_nothing (innermost (open_blocks above)) (kind_of s) then Some EndExtra else (if is_within above s then None else Some Limit)
