-- What is open below one more statement, and what its line says.
use Rattle.std.proofs.Common.{◌≡◌, ℕ, ◌+◌, List, [], ◌∷◌, ◌++◌, None, true, cond, get_or, length, set, take, refl, ap, sym, ◌∙◌, subst, inr}
use Rattle.std.specs.Prelude.{Option, Result, Ok, Err, OnOk}
use Rattle.rh_words.specs.Text.{words_of, is_printable, SaysNothing}
use Rattle.rh_words.specs.Refusals.{OnRefused}
use Rattle.rh_words.specs.declared.reason.Fault.{Fault}
use Rattle.rh_words.specs.declared.reason.Fault.TheVariants.{Refused, OutOfMemory}
use Rattle.rh_words.specs.declared.keyword.Keyword.{Keyword}
use Rattle.rh_words.specs.declared.reason.Reason.{Reason}
use Rattle.rh_words.specs.declared.value.Value.{Value}
use Rattle.rh_task_text.specs.declared.form.Block.{Block}
use Rattle.rh_task_text.specs.declared.form.Standing.{Standing}
use Rattle.rh_task_text.specs.declared.form.FormKind.{FormKind}
use Rattle.rh_task_text.specs.declared.line.Head.{Head}
use Rattle.rh_task_text.specs.declared.statement.Statement.{Statement}
use Rattle.rh_task_text.specs.declared.statement.Item.{Item}
use Rattle.rh_task_text.specs.Forms.{form}
use Rattle.rh_task_text.specs.FormRows.{IsHead}
use Rattle.rh_task_text.specs.Statements.{kind_of, States}
use Rattle.rh_task_text.specs.Blocks.{open_blocks, innermost, rows_here, lets_here, checks_here, is_row_form, is_let, is_check, count_line, change_by, changed}
use Rattle.rh_task_text.specs.LineReasons.{statement_reason}
use Rattle.rh_task_text.specs.LineReadings.{SaysForm}
use Rattle.rh_task_text.specs.Program.{IsReason, IsLawful, upward}
use Rattle.rh_task_text.specs.ReaderStates.{IsStateBelow, FollowsLine, AddsLine, AddsStatement, IsOverLimits, an_item}
use Rattle.rh_task_text.proofs.BodiesBelow.{upward-push}
use Rattle.rh_task_text.proofs.StatementReasons.{read_as}
use Rattle.rh_task_text.proofs.LineAnswers.{read_lawful, limited_line}

-- another item in the place of the last
last_set : (items : List Item) (last item : Item) → set (items ++ last ∷ []) (length items) item ≡ items ++ item ∷ []
last_set [] last item = refl
last_set (first ∷ items) last item = ap (λ (l : List Item). first ∷ l) (last_set items last item)

last_got : (items : List Item) (last other : Item) → get_or (items ++ last ∷ []) (length items) other ≡ last
last_got [] last other = refl
last_got (first ∷ items) last other = last_got items last other

-- a statement is made in the place of the last item, whose line stays
pub last_stated : (items all : List Item) (at line : ℕ) (last now : Item) (s : Statement) → at ≡ length items → all ≡ items ++ last ∷ [] → now ≡ get_or all at now → last.line ≡ line → set all at (an_item now.line s) ≡ items ++ an_item line s ∷ []
last_stated items all at line last now s at_is all_is now_is line_is =
    let found : now ≡ last = now_is ∙ ap (λ (l : List Item). get_or l at now) all_is ∙ ap (λ (k : ℕ). get_or (items ++ last ∷ []) k now) at_is ∙ last_got items last now in
    ap (λ (l : List Item). set l at (an_item now.line s)) all_is
    ∙ ap (λ (k : ℕ). set (items ++ last ∷ []) k (an_item now.line s)) at_is
    ∙ last_set items last (an_item now.line s)
    ∙ ap (λ (n : ℕ). items ++ an_item n s ∷ []) (ap (λ (i : Item). i.line) found ∙ line_is)

item_front : (items : List Item) (last : Item) → take (length items) (items ++ last ∷ []) ≡ items
item_front [] last = refl
item_front (i ∷ items) last = ap (λ (l : List Item). i ∷ l) (item_front items last)

-- the last item is taken away, whatever it has become
pub taken_back : (items all : List Item) (at : ℕ) (last now : Item) → at ≡ length items → all ≡ items ++ last ∷ [] → take at (set all at now) ≡ items
taken_back items all at last now at_is all_is =
    ap (λ (l : List Item). take at (set l at now)) all_is
    ∙ ap (λ (k : ℕ). take k (set (items ++ last ∷ []) k now)) at_is
    ∙ ap (λ (l : List Item). take (length items) l) (last_set items last now)
    ∙ item_front items now

-- the state below one more statement
pub state_added : (items : List Item) (line : ℕ) (s : Statement) (head : Head) (words : List (List ℕ)) (values : List Value) (blocks blocks2 : List Block) (rows lets checks rows2 lets2 checks2 : ℕ)
    → IsStateBelow items blocks rows lets checks → IsHead head → SaysForm (innermost (open_blocks (upward items))) (rows_here (upward items)) words head.kind values → States head.kind values s → statement_reason (upward items) s ≡ None
    → FollowsLine head (change_by s) blocks rows lets checks blocks2 rows2 lets2 checks2 → IsStateBelow (items ++ an_item line s ∷ []) blocks2 rows2 lets2 checks2
state_added items line s head words values blocks blocks2 rows lets checks rows2 lets2 checks2 state is_head says states limited follows =
    let above = upward items in
    let read = read_as (innermost (open_blocks above)) (rows_here above) words head.kind values s says states in
    let lawful : IsLawful above s = read_lawful above (innermost (open_blocks above)) (rows_here above) words head.kind s refl refl read limited in
    let push : upward (items ++ an_item line s ∷ []) ≡ s ∷ above = upward-push items (an_item line s) in
    let kind : head.kind ≡ kind_of s = sym states.2 in
    let blocks_are : blocks2 ≡ open_blocks (s ∷ above) = follows.blocks_are ∙ ap (λ (bs : List Block). changed (change_by s) bs) state.blocks_are in
    let rows_are : rows2 ≡ rows_here (s ∷ above) =
    follows.rows_are ∙ ap (λ (k : FormKind). cond (is_row_form k) (rows + 1) 0) kind ∙ ap (λ (n : ℕ). cond (is_row_form (kind_of s)) (n + 1) 0) state.rows_are in
    let lets_are : lets2 ≡ lets_here (s ∷ above) =
    follows.lets_are
    ∙ ap (λ (d : Standing). count_line d (is_let head.first) lets) is_head.standing_is
    ∙ ap (λ (w : Keyword). count_line (form head.kind).standing (is_let w) lets) is_head.first_is
    ∙ ap (λ (k : FormKind). count_line (form k).standing (is_let (form k).first) lets) kind
    ∙ ap (λ (n : ℕ). count_line (form (kind_of s)).standing (is_let (form (kind_of s)).first) n) state.lets_are in
    let checks_are : checks2 ≡ checks_here (s ∷ above) =
    follows.checks_are
    ∙ ap (λ (d : Standing). count_line d (is_check head.first) checks) is_head.standing_is
    ∙ ap (λ (w : Keyword). count_line (form head.kind).standing (is_check w) checks) is_head.first_is
    ∙ ap (λ (k : FormKind). count_line (form k).standing (is_check (form k).first) checks) kind
    ∙ ap (λ (n : ℕ). count_line (form (kind_of s)).standing (is_check (form (kind_of s)).first) n) state.checks_are in
    record {
      blocks_are = rw push blocks_are;
      rows_are = rw push rows_are;
      lets_are = rw push lets_are;
      checks_are = rw push checks_are;
      lawful = rw push (lawful, state.lawful);
    }

-- a line whose statement was put below the items
pub added_line : (items new : List Item) (number : ℕ) (line : List ℕ) (kind : FormKind) (values : List Value) → is_printable line ≡ true → SaysForm (innermost (open_blocks (upward items))) (rows_here (upward items)) (words_of line) kind values → AddsStatement items kind values number new → AddsLine items number line new
added_line items new number line kind values printable says added =
    let above = upward items in
    let read = read_as (innermost (open_blocks above)) (rows_here above) (words_of line) kind values added.0 says added.1 in
    (printable, inr (an_item number added.0, added.3, record { numbered = refl; spelled = read.spelled; placed = read.stands; limited = added.2 }))

-- a line whose statement is over its limits
pub over_line : (items : List Item) (line : List ℕ) (kind : FormKind) (values : List Value) (reason : Reason) → is_printable line ≡ true → (SaysNothing (words_of line) → ⊥) → SaysForm (innermost (open_blocks (upward items))) (rows_here (upward items)) (words_of line) kind values → IsOverLimits items kind values reason → IsReason (upward items) line reason
over_line items line kind values reason printable nothing says over =
    let above = upward items in
    let read = read_as (innermost (open_blocks above)) (rows_here above) (words_of line) kind values over.0 says over.1 in
    limited_line above line (innermost (open_blocks above)) (rows_here above) kind over.0 reason refl refl printable nothing read over.2

-- what a refusal says follows from what it said
pub refused_by : {X : Type 0} (r : Result X (Fault Reason)) (P Q : Reason → Type 0) → ((reason : Reason) → P reason → Q reason) → OnRefused r P → OnRefused r Q
refused_by (Ok x) P Q follows said = tt
refused_by (Err OutOfMemory) P Q follows said = tt
refused_by (Err (Refused reason)) P Q follows said = follows reason said

-- what holds of a success follows from what held of it
pub ok_by : {X : Type 0} (r : Result X (Fault Reason)) (P Q : Type 0) → (P → Q) → OnOk r P → OnOk r Q
ok_by (Ok x) P Q follows said = follows said
ok_by (Err fault) P Q follows said = tt

-- what is said in the open block, after so many of its rows
pub said_here : (items : List Item) (here : Option Block) (rows : ℕ) (words : List (List ℕ)) (kind : FormKind) (read values : List Value) → here ≡ innermost (open_blocks (upward items)) → rows ≡ rows_here (upward items) → values ≡ read → SaysForm here rows words kind read
    → SaysForm (innermost (open_blocks (upward items))) (rows_here (upward items)) words kind values
said_here items here rows words kind read values here_is rows_are same says =
    let kept = subst (λ (l : List Value). SaysForm here rows words kind l) (sym same) says in
    let placed = subst (λ (b : Option Block). SaysForm b rows words kind values) here_is kept in
    subst (λ (n : ℕ). SaysForm (innermost (open_blocks (upward items))) n words kind values) rows_are placed
