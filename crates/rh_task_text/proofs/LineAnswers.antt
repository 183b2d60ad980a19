-- What tests and refusals say.
use Rattle.std.proofs.Common.{◌≡◌, ℕ, List, ◌∷◌, Option, Some, None, Bool, true, false, cond, ap, sym, subst, inl, inr, ◌∙◌}
use Rattle.std.specs.Prelude.{IsTrue, ◌↔◌, ◌&&◌, Err}
use Rattle.rh_words.specs.Text.{words_of, is_printable, SaysNothing}
use Rattle.rh_words.specs.declared.reason.Reason.TheVariants.{EndExtra, Limit}
use Rattle.rh_task_text.specs.Limits.{own_limits}
use Rattle.std.proofs.lemmas.Bool.{false≢true}
use Rattle.rh_words.specs.declared.reason.Reason.{Reason}
use Rattle.rh_words.specs.declared.reason.Fault.{Fault}
use Rattle.rh_words.specs.declared.reason.Fault.TheVariants.{Refused, OutOfMemory}
use Rattle.rh_task_text.specs.declared.form.Block.{Block}
use Rattle.rh_task_text.specs.declared.form.FormKind.{FormKind}
use Rattle.rh_task_text.specs.declared.statement.Statement.{Statement}
use Rattle.rh_task_text.specs.declared.statement.Item.{Item}
use Rattle.rh_task_text.specs.Statements.{kind_of}
use Rattle.rh_task_text.specs.Blocks.{open_blocks, innermost, rows_here, ends_nothing}
use Rattle.rh_task_text.specs.LineReasons.{kind_chosen, reason_in, statement_reason}
use Rattle.rh_task_text.specs.LineReadings.{StandsIn, IsRead, IsRefusedIn}
use Rattle.rh_task_text.specs.Program.{ProgramText, FirstBad, IsReason, IsLawful, upward}
use Rattle.rh_words.specs.Refusals.{OnRefused, fault_at}
use Rattle.rh_task_text.proofs.LawfulLines.{spelled_lawful}
use Rattle.rh_task_text.specs.ReaderStates.{IsBegun}
use Rattle.rh_task_text.proofs.Prefixes.{begun-bad}

-- a test that answered false
pub out_of_false : (b : Bool) (P : Type 0) → IsTrue b ↔ P → b ≡ false → P → ⊥
out_of_false b P iff e p = false≢true (sym e ∙ iff.1 p)

-- a test that answered true
pub out_of_true : (b : Bool) (P : Type 0) → IsTrue b ↔ P → b ≡ true → P
out_of_true b P iff e = iff.0 e

-- the refusal of a line is that of the text
pub refused_text : (bytes : List ℕ) (number : ℕ) (line : List ℕ) (left : List (List ℕ)) (items : List Item) (fault : Fault Reason) → IsBegun bytes number (line ∷ left) items → OnRefused {X = Unit {0}} (Err fault) (λ reason. IsReason (upward items) line reason) → OnRefused {X = ProgramText} (Err (fault_at number fault)) (λ refusal. FirstBad bytes refusal.line refusal.reason)
refused_text bytes number line left items OutOfMemory begun refused = tt
refused_text bytes number line left items (Refused reason) begun refused = begun-bad bytes number line left items reason begun refused

-- what was read below these statements may stand there
pub read_lawful : (above : List Statement) (here : Option Block) (rows : ℕ) (ws : List (List ℕ)) (k : FormKind) (s : Statement) → here ≡ innermost (open_blocks above) → rows ≡ rows_here above → IsRead here rows ws k s → statement_reason above s ≡ None → IsLawful above s
read_lawful above here rows ws k s at count read limited =
    let stands = subst (λ (b : Option Block). StandsIn b rows (kind_of s)) at read.stands in
    spelled_lawful above ws s read.spelled (subst (λ (n : ℕ). StandsIn (innermost (open_blocks above)) n (kind_of s)) count stands) limited

limit_reason : (ends room own : Bool) (reason : Reason) → ends ≡ false → own ≡ false → reason ≡ Limit → cond ends (Some EndExtra) (cond (room && own) None (Some Limit)) ≡ Some reason
limit_reason true room own reason e f g = cc
limit_reason false true true reason e f g = cc
limit_reason false true false reason e f g = ap Some (sym g)
limit_reason false false own reason e f g = ap Some (sym g)

limit_at : (above : List Statement) (s : Statement) (reason : Reason) → ends_nothing (innermost (open_blocks above)) (kind_of s) ≡ false → own_limits (innermost (open_blocks above)) s ≡ false → reason ≡ Limit → statement_reason above s ≡ Some reason
limit_at above s reason continues over is = limit_reason _ _ _ reason continues over is

-- words that are refused are those of a line that is refused
pub refused_line : (above : List Statement) (line : List ℕ) (here : Option Block) (rows : ℕ) (reason : Reason) → here ≡ innermost (open_blocks above) → rows ≡ rows_here above → is_printable line ≡ true → (SaysNothing (words_of line) → ⊥) → IsRefusedIn here rows (words_of line) reason → IsReason above line reason
refused_line above line here rows reason at count printable says refused =
    let whole = subst (λ (b : Option Block). IsRefusedIn b rows (words_of line) reason) at refused in
    let all = subst (λ (n : ℕ). IsRefusedIn (innermost (open_blocks above)) n (words_of line) reason) count whole in
    inr (
      printable,
      says,
      elim all [
        | inl worded ↦ inl worded
        | inr long ↦ inr (long.statement, long.spelled, long.unreasoned, limit_at above long.statement reason long.continues long.over long.is)
      ],
    )

-- a statement that was read and is over its limits is the reason of its line
pub limited_line : (above : List Statement) (line : List ℕ) (here : Option Block) (rows : ℕ) (k : FormKind) (s : Statement) (reason : Reason) → here ≡ innermost (open_blocks above) → rows ≡ rows_here above → is_printable line ≡ true → (SaysNothing (words_of line) → ⊥) → IsRead here rows (words_of line) k s → statement_reason above s ≡ Some reason → IsReason above line reason
limited_line above line here rows k s reason at count printable says read refused =
    let placed = subst (λ (b : Option Block). reason_in b rows (words_of line) (kind_chosen (words_of line)) ≡ None) at read.unreasoned in
    let none = subst (λ (n : ℕ). reason_in (innermost (open_blocks above)) n (words_of line) (kind_chosen (words_of line)) ≡ None) count placed in
    inr (printable, says, inr (s, read.spelled, none, refused))
