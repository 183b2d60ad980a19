-- A line with more words than the longest statement within its limits spells one that is over them.
use Rattle.std.proofs.Common.{◌≡◌, ℕ, suc, ◌+◌, ◌<◌, ◌≤◌, ◌*◌, List, [], ◌∷◌, Option, Some, None, Bool, true, false, length, refl, ap, sym, ◌∙◌, subst, arith}
use Rattle.std.specs.Prelude.{◌&&◌, MatchBool}
use Rattle.std.proofs.lemmas.Bool.{lt-leb}
use Rattle.std.proofs.lemmas.List.{length-map}
use Rattle.rh_words.specs.declared.reason.Reason.TheVariants.{Limit}
use Rattle.rh_words.specs.declared.value.Place.TheVariants.{WordPlace}
use Rattle.rh_words.specs.declared.value.Value.{Value}
use Rattle.rh_words.specs.declared.value.Value.TheVariants.{AName, ANumber}
use Rattle.rh_words.specs.Values.{SayWords}
use Rattle.rh_words.specs.Places.{places_reason, FitPlaces}
use Rattle.rh_words.specs.PlaceWalks.{Places, places}
use Rattle.rh_words.proofs.WordsInPlaces.{fitted, unreasoned}
use Rattle.rh_task_text.specs.declared.form.Block.{Block}
use Rattle.rh_task_text.specs.declared.form.FormKind.{FormKind}
use Rattle.rh_task_text.specs.declared.form.FormKind.TheVariants.{EndForm}
use Rattle.rh_task_text.specs.declared.table.Form.{Form as CodeForm}
use Rattle.rh_task_text.specs.declared.statement.SchemeText.TheVariants.{Plain, Replicate, Replay, Abft}
use Rattle.rh_task_text.specs.declared.statement.Statement.{Statement}
use Rattle.rh_task_text.specs.declared.statement.Statement.TheVariants.{Promise, Matrix, Row, Task, Finish, Group, End, LetLit, LetGen, LetAdd, LetSub, LetMul, LetScale, LetShift, LetCut, LetJoin, LetSum, LetCount, LetStencil1, LetStencil2, LetProduct, Put, DropAwait, CheckRange, CheckTotal, CheckLinear, CheckConserve, CheckConserve2, CheckProduct, CheckUser}
use Rattle.rh_task_text.specs.Forms.{form}
use Rattle.rh_task_text.specs.FormRows.{IsForm}
use Rattle.rh_task_text.specs.Statements.{said, awaits_said, pairs_said, terms_said, FitForm}
use Rattle.rh_task_text.specs.Blocks.{may_stand, rows_fit, ends_nothing}
use Rattle.rh_task_text.specs.Limits.{own_limits}
use Rattle.rh_task_text.specs.LineReasons.{kind_chosen, form_reason}
use Rattle.rh_task_text.specs.LineReadings.{IsTooLong}
use Rattle.rh_task_text.proofs.FormsOfStatements.{stated}
use Rattle.rh_task_text.proofs.StatementReasons.{unreasoned_in}

-- words and what they say are equally many
length-said : (ws : List (List ℕ)) (vs : List Value) → SayWords ws vs → length vs ≡ length ws
length-said ws [] h = ap (λ (l : List (List ℕ)). length l) (sym h)
length-said ws (v ∷ vs) (w, rest, is, here, there) = ap suc (length-said rest vs there) ∙ ap (λ (l : List (List ℕ)). length l) (sym is)

length-pairs-le : (js ns : List ℕ) → length (pairs_said js ns) ≤ length js
length-pairs-le [] ns = omega arith
length-pairs-le (j ∷ js) [] = omega arith
length-pairs-le (j ∷ js) (n ∷ ns) = let rest = length-pairs-le js ns in omega arith

length-terms-le : (qs : List (List ℕ)) (cs : List ℕ) → length (terms_said qs cs) ≤ 2 * length qs
length-terms-le [] cs = omega arith
length-terms-le (q ∷ qs) [] = omega arith
length-terms-le (q ∷ qs) (c ∷ cs) = let rest = length-terms-le qs cs in omega arith

length-awaits-le : (qs : List (List ℕ)) → length (awaits_said qs) ≤ length qs + 1
length-awaits-le [] = omega arith
length-awaits-le (q ∷ qs) = omega (arith, length-map qs (λ (n : List ℕ). AName n))

false_first : (a b : Bool) → a ≡ false → (a && b) ≡ false
false_first false b e = refl
false_first true b e = cc

-- a statement of so many words is over its limits
over_limits : (here : Option Block) (s : Statement) → 4099 < length (said s) → own_limits here s ≡ false
over_limits here (Promise name len true) long = absurd (omega arith)
over_limits here (Promise name len false) long = absurd (omega arith)
over_limits here (Matrix name rows cols) long = absurd (omega arith)
over_limits here (Row columns values) long = false_first _ _ (lt-leb (length columns) 2048 (omega (arith, length-pairs-le columns values)))
over_limits here (Task name Plain awaits) long = lt-leb (length awaits) 16 (omega (arith, length-awaits-le awaits))
over_limits here (Task name Replicate awaits) long = lt-leb (length awaits) 16 (omega (arith, length-awaits-le awaits))
over_limits here (Task name (Replay limit) awaits) long = lt-leb (length awaits) 16 (omega (arith, length-awaits-le awaits))
over_limits here (Task name Abft awaits) long = lt-leb (length awaits) 16 (omega (arith, length-awaits-le awaits))
over_limits here (Finish name) long = absurd (omega arith)
over_limits here (Group name awaits) long = lt-leb (length awaits) 16 (omega (arith, length-awaits-le awaits))
over_limits here End long = absurd (omega arith)
over_limits here (LetLit x words) long = lt-leb (length words) 4096 (omega (arith, length-map words (λ (n : ℕ). ANumber n)))
over_limits here (LetGen x n start limit) long = absurd (omega arith)
over_limits here (LetAdd x a b) long = absurd (omega arith)
over_limits here (LetSub x a b) long = absurd (omega arith)
over_limits here (LetMul x a b) long = absurd (omega arith)
over_limits here (LetScale x a k) long = absurd (omega arith)
over_limits here (LetShift x a s) long = absurd (omega arith)
over_limits here (LetCut x a from len) long = absurd (omega arith)
over_limits here (LetJoin x parts) long = lt-leb (length parts) 16 (omega (arith, length-map parts (λ (n : List ℕ). AName n)))
over_limits here (LetSum x a) long = absurd (omega arith)
over_limits here (LetCount x a) long = absurd (omega arith)
over_limits here (LetStencil1 x l m r k s) long = absurd (omega arith)
over_limits here (LetStencil2 x north south west east m cols k s) long = absurd (omega arith)
over_limits here (LetProduct x a v) long = absurd (omega arith)
over_limits here (Put promise local None) long = absurd (omega arith)
over_limits here (Put promise local (Some y)) long = absurd (omega arith)
over_limits here (DropAwait promise) long = absurd (omega arith)
over_limits here (CheckRange promise lo hi) long = absurd (omega arith)
over_limits here (CheckTotal promise sum) long = absurd (omega arith)
over_limits here (CheckLinear promise base inputs factors) long = lt-leb (length inputs) 16 (omega (arith, length-terms-le inputs factors))
over_limits here (CheckConserve promise l m r k s) long = absurd (omega arith)
over_limits here (CheckConserve2 promise north south west east m cols k s) long = absurd (omega arith)
over_limits here (CheckProduct promise a q) long = absurd (omega arith)
over_limits here (CheckUser promise check) long = absurd (omega arith)

-- an `end` has one word
end_short : (vs : List Value) → FitForm (form EndForm) vs → length vs ≤ 1
end_short [] h = omega arith
end_short (v ∷ []) h = omega arith
end_short (v ∷ u ∷ vs) h = absurd h.1

not_end : (here : Option Block) (k : FormKind) → (k ≡ EndForm → ⊥) → ends_nothing here k ≡ false
not_end None EndForm h = absurd (h refl)
not_end None k h = refl
not_end (Some b) k h = refl

-- what the words of a form that were read come to, by the form's row in code
abbrev Kept : Bool → List (List ℕ) → Places → List Value → Type 0
Kept kept ws ps values =
    MatchBool kept (SayWords ws values × FitPlaces ps.here ps.more ps.again values)
    ((places_reason ps.here ps.more ps.again ws ≡ None) × (4099 < length ws))

abbrev pub KeptForm : Bool → List (List ℕ) → FormKind → List Value → Type 0
KeptForm kept ws k values = MatchBool kept (SayWords ws values × FitForm (form k) values) ((form_reason (form k) ws ≡ None) × (4099 < length ws))

pub kept_form : (kept : Bool) (ws : List (List ℕ)) (k : FormKind) (row : CodeForm) (ps : Places) (values : List Value) → ps ≡ places row.places.now row.more.now row.again.now → IsForm row (form k) → Kept kept ws ps values → KeptForm kept ws k values
kept_form kept ws k row ps values is h told =
    let all : ps ≡ places (WordPlace (form k).first ∷ (form k).places) (form k).more (form k).again = is ∙ rw (h.places_are, h.more_is, h.again_is) refl in
    subst (λ (p : Places). Kept kept ws p values) all told

-- in either case the words have no reason of their own
pub kept_unreasoned : (kept : Bool) (ws : List (List ℕ)) (k : FormKind) (values : List Value) → KeptForm kept ws k values → form_reason (form k) ws ≡ None
kept_unreasoned true ws k values h = fitted (WordPlace (form k).first ∷ (form k).places) (form k).more (form k).again ws values h.0 h.1
kept_unreasoned false ws k values h = h.0

-- words that are too many spell a statement that is over its limits
pub too_long : (here : Option Block) (rows : ℕ) (ws : List (List ℕ)) (k : FormKind) (values : List Value) → kind_chosen ws ≡ Some k → may_stand (form k).standing here ≡ true → rows_fit rows here k ≡ true → KeptForm false ws k values → IsTooLong here rows ws Limit
too_long here rows ws k values chosen stands fit h =
    let vs = unreasoned (WordPlace (form k).first ∷ (form k).places) (form k).more (form k).again ws h.0 in
    let s = stated k vs.0 vs.2 in
    let many : length vs.0 ≡ length ws = length-said ws vs.0 vs.1 in
    let long_vs : 4099 < length vs.0 = subst (λ (n : ℕ). 4099 < n) (sym many) h.1 in
    let long : 4099 < length (said s.0) = subst (λ (l : List Value). 4099 < length l) (sym s.1.0) long_vs in
    let other : k ≡ EndForm → ⊥ = λ e. let short = end_short vs.0 (subst (λ (j : FormKind). FitForm (form j) vs.0) e vs.2) in absurd (omega arith) in
    record {
      statement = s.0;
      spelled = (subst (λ (l : List Value). SayWords ws l) (sym s.1.0) vs.1, s.1.1);
      unreasoned = unreasoned_in here rows ws k chosen stands fit h.0;
      continues = subst (λ (j : FormKind). ends_nothing here j ≡ false) (sym s.1.2) (not_end here k other);
      over = over_limits here s.0 long;
      is = refl;
    }
