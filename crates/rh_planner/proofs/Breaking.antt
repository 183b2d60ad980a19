-- Items keep the rules, or one of them is the first to break one; never both.
use Rattle.std.proofs.Common.{◌≡◌, ℕ, List, [], ◌∷◌, ◌++◌, Option, Some, None, refl, sym, ap, ◌∙◌, subst, inl, inr, ◌⊎◌, append_assoc, append-nil}
use Rattle.std.proofs.lemmas.Option.{none-some}
use Rattle.rh_words.specs.declared.reason.Reason.{Reason}
use Rattle.rh_task_text.specs.declared.statement.Statement.{Statement}
use Rattle.rh_task_text.specs.declared.statement.Item.{Item}
use Rattle.rh_task_text.specs.Program.{ProgramText, upward}
use Rattle.rh_check.specs.Users.{HandedChecks}
use Rattle.rh_rules.specs.Rules.{reason_at, AllKeep}
use Rattle.rh_planner.specs.Planned.{look_above, FirstBreak}
use Rattle.rh_planner.proofs.Wholes.{upward_append}

abbrev pub Breaks : HandedChecks → ProgramText → Type 0
Breaks handed text = (line : ℕ) × (reason : Reason) × FirstBreak handed text line reason

break_from : (handed : HandedChecks) (text : ProgramText) (before rest : List Item) → text.items ≡ before ++ rest → AllKeep (look_above handed) (upward before) → AllKeep (look_above handed) (upward text.items) ⊎ Breaks handed text
break_from handed text before [] whole kept = inl (subst (λ (l : List Item). AllKeep (look_above handed) (upward l)) (sym (whole ∙ append-nil before)) kept)
break_from handed text before (item ∷ rest) whole kept = elim (reason_at (look_above handed) (upward before) item.statement) as (λ (o : Option Reason). reason_at (look_above handed) (upward before) item.statement ≡ o → AllKeep (look_above handed) (upward text.items) ⊎ Breaks handed text) [
  | None ↦ λ e. break_from handed text (before ++ item ∷ []) rest (whole ∙ sym (append_assoc before (item ∷ []) rest)) (subst (AllKeep (look_above handed)) (sym (upward_append before item [])) (e, kept))
  | Some reason ↦ λ e. inr (item.line, reason, record { before = before; item = item; after = rest; whole = whole; kept = kept; broken = e; at = refl })
] refl

-- every text keeps the rules or has a first break
pub kept_or_broken : (handed : HandedChecks) (text : ProgramText) → AllKeep (look_above handed) (upward text.items) ⊎ Breaks handed text
kept_or_broken handed text = break_from handed text [] text.items refl tt

kept_at : (handed : HandedChecks) (below : List Statement) (s : Statement) (above : List Statement) → AllKeep (look_above handed) (below ++ s ∷ above) → reason_at (look_above handed) above s ≡ None
kept_at handed [] s above kept = kept.0
kept_at handed (b ∷ below) s above kept = kept_at handed below s above kept.1

-- a text that keeps the rules has no first break
pub kept_unbroken : (handed : HandedChecks) (text : ProgramText) (line : ℕ) (reason : Reason) → AllKeep (look_above handed) (upward text.items) → FirstBreak handed text line reason → ⊥
kept_unbroken handed text line reason kept break =
    let here : upward text.items ≡ upward break.after ++ break.item.statement ∷ upward break.before = ap (λ (l : List Item). upward l) break.whole ∙ upward_append break.before break.item break.after in
    none-some reason (sym (kept_at handed (upward break.after) break.item.statement (upward break.before) (subst (AllKeep (look_above handed)) here kept)) ∙ break.broken)

-- two splits of one list, each with what keeps the rules before and a break, are one
split_once : (a b : List Item) (x y : Item) (c d : List Item) → a ++ x ∷ c ≡ b ++ y ∷ d → ((n : List Item) (m : List Item) → (b ≡ a ++ x ∷ m) → ⊥) → ((m : List Item) → (a ≡ b ++ y ∷ m) → ⊥) → (a ≡ b) × (x ≡ y)
split_once [] [] x y c d e f g = (refl, cc)
split_once [] (z ∷ b) x y c d e f g =
    let same : x ≡ z = cc in
    absurd (f [] b (ap (λ (w : Item). w ∷ b) (sym same)))
split_once (z ∷ a) [] x y c d e f g =
    let same : y ≡ z = cc in
    absurd (g a (ap (λ (w : Item). w ∷ a) (sym same)))
split_once (z ∷ a) (w ∷ b) x y c d e f g =
    let same : z ≡ w = cc in
    let rest : a ++ x ∷ c ≡ b ++ y ∷ d = cc in
    let more = split_once a b x y c d rest (λ n m h. f n m (ap (λ (v : Item). v ∷ b) (sym same) ∙ ap (λ (l : List Item). z ∷ l) h)) (λ m h. g m (ap (λ (v : Item). v ∷ a) same ∙ ap (λ (l : List Item). w ∷ l) h)) in
    (ap (λ (v : Item). v ∷ a) same ∙ ap (λ (l : List Item). w ∷ l) more.0, more.1)

-- an item before a break keeps the rules
kept_before : (handed : HandedChecks) (before m : List Item) (a : List Item) (x : Item) (reason : Reason) → AllKeep (look_above handed) (upward before) → before ≡ a ++ x ∷ m → reason_at (look_above handed) (upward a) x.statement ≡ Some reason → ⊥
kept_before handed before m a x reason kept whole broken =
    none-some reason (sym (kept_at handed (upward m) x.statement (upward a) (subst (AllKeep (look_above handed)) (ap (λ (l : List Item). upward l) whole ∙ upward_append a x m) kept)) ∙ broken)

pub one_break : (handed : HandedChecks) (text : ProgramText) (l m : ℕ) (r q : Reason) → FirstBreak handed text l r → FirstBreak handed text m q → (l ≡ m) × (r ≡ q)
one_break handed text l m r q a b =
    let same = split_once a.before b.before a.item b.item a.after b.after (sym a.whole ∙ b.whole)
    (λ n rest h. kept_before handed b.before rest a.before a.item r b.kept h a.broken)
    (λ rest h. kept_before handed a.before rest b.before b.item q a.kept h b.broken) in (
      a.at ∙ ap (λ (i : Item). i.line) same.1 ∙ sym b.at,
      of_some r q (sym a.broken ∙ ap (λ (l : List Item). reason_at (look_above handed) (upward l) a.item.statement) same.0 ∙ ap (λ (i : Item). reason_at (look_above handed) (upward b.before) i.statement) same.1 ∙ b.broken),
    )
  where
    of_some : (r q : Reason) → Some r ≡ Some q → r ≡ q
    of_some r q e = cc
