-- No reason 3 to 6 holds of words exactly where they spell a statement that has a place.
use Rattle.std.proofs.Common.{◌≡◌, ℕ, List, ◌∷◌, Option, Some, None, Bool, true, false, refl, ap, sym, ◌∙◌, subst, cond}
use Rattle.std.specs.Prelude.{not}
use Rattle.rh_words.specs.declared.reason.Reason.{Reason}
use Rattle.rh_words.specs.declared.reason.Reason.TheVariants.{Statement as BadStatement, Count}
use Rattle.rh_task_text.specs.declared.form.Block.{Block}
use Rattle.rh_task_text.specs.declared.form.FormKind.{FormKind}
use Rattle.rh_words.specs.declared.value.Place.TheVariants.{WordPlace}
use Rattle.rh_words.specs.declared.value.Value.{Value}
use Rattle.rh_task_text.specs.declared.statement.Statement.{Statement}
use Rattle.rh_task_text.specs.Forms.{Form, form}
use Rattle.rh_words.specs.Values.{SayWords}
use Rattle.rh_task_text.specs.Statements.{said, Spells, FitForm, kind_of, States}
use Rattle.rh_task_text.specs.Blocks.{open_blocks, innermost, may_stand, rows_fit, rows_here, Stands}
use Rattle.rh_task_text.specs.LineReasons.{kind_chosen, form_reason, or_else, reason_in, words_reason}
use Rattle.rh_task_text.specs.LineReadings.{StandsIn, SaysForm, IsRead}
use Rattle.rh_words.proofs.WordsInPlaces.{fitted, unreasoned}
use Rattle.rh_task_text.proofs.FormsOfStatements.{stated, shaped}
use Rattle.rh_task_text.proofs.ChosenForms.{kind_said}

refused : {X : Type 0} (b : Bool) (x : X) (o : Option X) → cond (not b) (Some x) o ≡ None → (b ≡ true) × (o ≡ None)
refused true x o e = (refl, e)
refused false x o e = cc

step : {X : Type 0} (b : Bool) (x : X) (o : Option X) → b ≡ true → o ≡ None → cond (not b) (Some x) o ≡ None
step true x o e f = f
step false x o e f = cc

-- words that say values of the form's shape are without a reason
form_fits : (f : Form) (ws : List (List ℕ)) (vs : List Value) → SayWords ws vs → FitForm f vs → form_reason f ws ≡ None
form_fits f ws vs says fits = fitted (WordPlace f.first ∷ f.places) f.more f.again ws vs says fits

-- words without a reason say values of the form's shape
fits_form : (f : Form) (ws : List (List ℕ)) → form_reason f ws ≡ None → (vs : List Value) × SayWords ws vs × FitForm f vs
fits_form f ws e = unreasoned (WordPlace f.first ∷ f.places) f.more f.again ws e

fit_rows : (b : Bool) → b ≡ true → cond b None (Some Count) ≡ None
fit_rows true e = refl
fit_rows false e = cc

rows_fitted : (b : Bool) → cond b None (Some Count) ≡ None → b ≡ true
rows_fitted true e = refl
rows_fitted false e = cc

-- words of this form, which say values of its shape and may stand here, are without a reason
pub reason-fits : (here : Option Block) (rows : ℕ) (ws : List (List ℕ)) (k : FormKind) (vs : List Value) → kind_chosen ws ≡ Some k → SayWords ws vs → FitForm (form k) vs → StandsIn here rows k → reason_in here rows ws (kind_chosen ws) ≡ None
reason-fits here rows ws k vs chosen says fits stands =
    ap (λ (o : Option FormKind). reason_in here rows ws o) chosen
    ∙ step _ _ _ stands.0 (ap (λ (o : Option Reason). or_else o (cond (rows_fit rows here k) None (Some Count))) (form_fits (form k) ws vs says fits) ∙ fit_rows _ stands.1)

-- words without a reason spell a statement that has a place
abbrev SpellsIn : Option Block → ℕ → List (List ℕ) → Type 0
SpellsIn here rows ws = (s : Statement) × Spells ws s × StandsIn here rows (kind_of s)

none_both : (o p : Option Reason) → or_else o p ≡ None → (o ≡ None) × (p ≡ None)
none_both None p e = (refl, e)
none_both (Some r) p e = cc

none_of : (here : Option Block) (rows : ℕ) (ws : List (List ℕ)) (o : Option FormKind) → reason_in here rows ws o ≡ None → SpellsIn here rows ws
none_of here rows ws None e = cc
none_of here rows ws (Some k) e =
    let a = refused _ _ _ e in
    let b = none_both _ _ a.1 in
    let vs = fits_form (form k) ws b.0 in
    let s = stated k vs.0 vs.2 in
    let says = subst (λ (l : List Value). SayWords ws l) (sym s.1.0) vs.1 in
    (s.0, (says, s.1.1), subst (λ (j : FormKind). StandsIn here rows j) (sym s.1.2) (a.0, rows_fitted _ b.1))

abbrev pub SpellsPlaced : List Statement → List (List ℕ) → Type 0
SpellsPlaced above ws = (s : Statement) × Spells ws s × Stands above s

pub words-none : (above : List Statement) (ws : List (List ℕ)) → words_reason above ws ≡ None → SpellsPlaced above ws
words-none above ws e = none_of (innermost (open_blocks above)) (rows_here above) ws (kind_chosen ws) e

-- words that spell a statement that has a place are without a reason
pub words-spelled : (above : List Statement) (ws : List (List ℕ)) (s : Statement) → Spells ws s → Stands above s → words_reason above ws ≡ None
words-spelled above ws s spelled stands = reason-fits (innermost (open_blocks above)) (rows_here above) ws (kind_of s) (said s) (kind_said s ws spelled.0) spelled.0 (shaped s spelled.1) stands

-- Judging words: each way that they are refused, and the way that they are read.

pub chosen_none : (here : Option Block) (rows : ℕ) (ws : List (List ℕ)) → kind_chosen ws ≡ None → reason_in here rows ws (kind_chosen ws) ≡ Some BadStatement
chosen_none here rows ws chosen = ap (λ (o : Option FormKind). reason_in here rows ws o) chosen

pub out_of_place : (here : Option Block) (rows : ℕ) (ws : List (List ℕ)) (k : FormKind) → kind_chosen ws ≡ Some k → may_stand (form k).standing here ≡ false → reason_in here rows ws (kind_chosen ws) ≡ Some BadStatement
out_of_place here rows ws k chosen out = ap (λ (o : Option FormKind). reason_in here rows ws o) chosen ∙ rw out refl

pub badly_formed : (here : Option Block) (rows : ℕ) (ws : List (List ℕ)) (k : FormKind) (r : Reason) → kind_chosen ws ≡ Some k → may_stand (form k).standing here ≡ true → form_reason (form k) ws ≡ Some r → reason_in here rows ws (kind_chosen ws) ≡ Some r
badly_formed here rows ws k r chosen stands bad = ap (λ (o : Option FormKind). reason_in here rows ws o) chosen ∙ rw (stands, bad) refl

pub rows_out : (here : Option Block) (rows : ℕ) (ws : List (List ℕ)) (k : FormKind) → kind_chosen ws ≡ Some k → may_stand (form k).standing here ≡ true → form_reason (form k) ws ≡ None → rows_fit rows here k ≡ false → reason_in here rows ws (kind_chosen ws) ≡ Some Count
rows_out here rows ws k chosen stands none out = ap (λ (o : Option FormKind). reason_in here rows ws o) chosen ∙ rw (stands, none, out) refl

pub unreasoned_in : (here : Option Block) (rows : ℕ) (ws : List (List ℕ)) (k : FormKind) → kind_chosen ws ≡ Some k → may_stand (form k).standing here ≡ true → rows_fit rows here k ≡ true → form_reason (form k) ws ≡ None → reason_in here rows ws (kind_chosen ws) ≡ None
unreasoned_in here rows ws k chosen stands fit none = ap (λ (o : Option FormKind). reason_in here rows ws o) chosen ∙ rw (stands, none, fit) refl

pub read_as : (here : Option Block) (rows : ℕ) (ws : List (List ℕ)) (k : FormKind) (vs : List Value) (s : Statement) → SaysForm here rows ws k vs → States k vs s → IsRead here rows ws k s
read_as here rows ws k vs s read states = record {
  spelled = (subst (λ (l : List Value). SayWords ws l) (sym states.0) read.says, states.1);
  kind_is = states.2;
  stands = subst (λ (j : FormKind). StandsIn here rows j) (sym states.2) read.stands;
  unreasoned = reason-fits here rows ws k vs read.chosen read.says read.fits read.stands;
}
