-- What reading a line's words answers, right in a block after some of its rows.
use Rattle.std.specs.Prelude.{ℕ, ◌≡◌, ◌⊎◌, List, Option, Some, None, true, false}
use Rattle.rh_task_text.specs.declared.form.Block.{Block}
use Rattle.rh_task_text.specs.declared.form.FormKind.{FormKind}
use Rattle.rh_task_text.specs.declared.statement.Statement.{Statement}
use Rattle.rh_task_text.specs.Forms.{form}
use Rattle.rh_words.specs.declared.value.Value.{Value}
use Rattle.rh_words.specs.Values.{SayWords}
use Rattle.rh_task_text.specs.Statements.{Spells, FitForm, kind_of}
use Rattle.rh_words.specs.declared.reason.Reason.{Reason}
use Rattle.rh_words.specs.declared.reason.Reason.TheVariants.{Limit}
use Rattle.rh_task_text.specs.Blocks.{may_stand, rows_fit, ends_nothing}
use Rattle.rh_task_text.specs.Limits.{own_limits}
use Rattle.rh_task_text.specs.LineReasons.{kind_chosen, reason_in}

-- the form may stand here, with this row or end
abbrev pub StandsIn : Option Block → ℕ → FormKind → Type 0
StandsIn here rows k = (may_stand (form k).standing here ≡ true) × (rows_fit rows here k ≡ true)

-- the words are of this form, which may stand here, and say these values
pub record SaysForm (here : Option Block) (rows : ℕ) (ws : List (List ℕ)) (k : FormKind) (vs : List Value) : Type 0 where
  pub chosen : kind_chosen ws ≡ Some k
  pub stands : StandsIn here rows k
  pub says : SayWords ws vs
  pub fits : FitForm (form k) vs

-- the words are read so
pub record IsRead (here : Option Block) (rows : ℕ) (ws : List (List ℕ)) (k : FormKind) (s : Statement) : Type 0 where
  pub spelled : Spells ws s
  pub kind_is : kind_of s ≡ k
  pub stands : StandsIn here rows (kind_of s)
  pub unreasoned : reason_in here rows ws (kind_chosen ws) ≡ None

-- The words spell a statement that is longer than its limits allow, and nothing before holds of them.
pub record IsTooLong (here : Option Block) (rows : ℕ) (ws : List (List ℕ)) (reason : Reason) : Type 0 where
  pub statement : Statement
  pub spelled : Spells ws statement
  pub unreasoned : reason_in here rows ws (kind_chosen ws) ≡ None
  pub continues : ends_nothing here (kind_of statement) ≡ false
  pub over : own_limits here statement ≡ false
  pub is : reason ≡ Limit

-- why the words are refused
abbrev pub IsRefusedIn : Option Block → ℕ → List (List ℕ) → Reason → Type 0
IsRefusedIn here rows ws reason = (reason_in here rows ws (kind_chosen ws) ≡ Some reason) ⊎ IsTooLong here rows ws reason
