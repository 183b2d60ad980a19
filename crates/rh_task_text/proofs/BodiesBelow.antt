-- Lines that are read below other lines.
use Rattle.std.proofs.Common.{◌≡◌, ℕ, suc, ◌+◌, List, [], ◌∷◌, ◌++◌, map, reverse, length, refl, ap, sym, ◌∙◌, subst, inl, inr, arith, append_assoc}
use Rattle.std.proofs.lemmas.List.{map-append, reverse-append}
use Rattle.rh_words.specs.Text.{words_of}
use Rattle.rh_task_text.specs.declared.statement.Statement.{Statement}
use Rattle.rh_task_text.specs.declared.statement.Item.{Item}
use Rattle.rh_task_text.specs.Program.{IsItem, IsBody, upward}
use Rattle.rh_task_text.proofs.StatementsOfForms.{Spells-same}
use Rattle.rh_task_text.proofs.ChosenForms.{nothing_spelled}

pub upward-cons : (item : Item) (items : List Item) (above : List Statement) → upward (item ∷ items) ++ above ≡ upward items ++ (item.statement ∷ above)
upward-cons item items above =
    let statements : List Statement = map (λ (i : Item). i.statement) items in
    ap (λ (l : List Statement). l ++ above) (reverse-append (item.statement ∷ []) statements) ∙ append_assoc (reverse statements) (item.statement ∷ []) above

-- the last item is the nearest
pub upward-push : (items : List Item) (item : Item) → upward (items ++ item ∷ []) ≡ item.statement ∷ upward items
upward-push items item = rw (map-append, reverse-append) refl

-- an item at a line is the only one
IsItem-same : (above : List Statement) (n : ℕ) (line : List ℕ) (a b : Item) → IsItem above n line a → IsItem above n line b → a ≡ b
IsItem-same above n line a b ha hb =
    let number : a.line ≡ b.line = ha.numbered ∙ sym hb.numbered in
    let statement : a.statement ≡ b.statement = Spells-same (words_of line) a.statement b.statement ha.spelled hb.spelled in
    ap (λ (k : ℕ). let item : Item = record { line = k; statement = a.statement } in item) number
    ∙ ap (λ (s : Statement). let item : Item = record { line = b.line; statement = s } in item) statement

moved : (above : List Statement) (n : ℕ) (lines more : List (List ℕ)) (line : List ℕ) (others : List Item) → IsBody above (n + length (line ∷ lines)) more others → IsBody above ((n + 1) + length lines) more others
moved above n lines more line others h =
    let e : n + suc (length lines) ≡ (n + 1) + length lines = omega arith in
    subst (λ (k : ℕ). IsBody above k more others) e h

moved_back : (above : List Statement) (n : ℕ) (lines more : List (List ℕ)) (line : List ℕ) (others : List Item) → IsBody above ((n + 1) + length lines) more others → IsBody above (n + length (line ∷ lines)) more others
moved_back above n lines more line others h =
    let e : (n + 1) + length lines ≡ n + suc (length lines) = omega arith in
    subst (λ (k : ℕ). IsBody above k more others) e h

pub below_item : (above : List Statement) (item : Item) (items rest : List Item) → items ≡ item ∷ rest → upward items ++ above ≡ upward rest ++ (item.statement ∷ above)
below_item above item items rest e = ap (λ (l : List Item). upward l ++ above) e ∙ upward-cons item rest above

-- one body after another
pub IsBody-append : (above : List Statement) (n : ℕ) (lines more : List (List ℕ)) (items others : List Item) → IsBody above n lines items → IsBody (upward items ++ above) (n + length lines) more others → IsBody above n (lines ++ more) (items ++ others)
IsBody-append above n [] more items others first second =
    let none : n + 0 ≡ n = omega arith in
    let at = subst (λ (its : List Item). IsBody (upward its ++ above) (n + 0) more others) first second in
    let here = subst (λ (k : ℕ). IsBody above k more others) none at in
    subst (λ (its : List Item). IsBody above n more (its ++ others)) (sym first) here
IsBody-append above n (line ∷ lines) more items others first second =
    let next = moved (upward items ++ above) n lines more line others second in (
      first.0,
      elim first.1 [
        | inl a ↦ inl (a.0, IsBody-append above (n + 1) lines more items others a.1 next)
        | inr b ↦
            let after = subst (λ (l : List Statement). IsBody l ((n + 1) + length lines) more others) (below_item above b.0 items b.1 b.2) next in
            inr (b.0, b.1 ++ others, ap (λ (l : List Item). l ++ others) b.2, b.3, IsBody-append (b.0.statement ∷ above) (n + 1) lines more b.1 others b.4 after)
      ],
    )

-- what is read of the first lines is read of them in any body
abbrev Splits : List Statement → ℕ → List (List ℕ) → List (List ℕ) → List Item → List Item → Type 0
Splits above n lines more items all = (others : List Item) × (all ≡ items ++ others) × IsBody (upward items ++ above) (n + length lines) more others

split_on : (above : List Statement) (n : ℕ) (line : List ℕ) (lines more : List (List ℕ)) (items all : List Item) → Splits above (n + 1) lines more items all → Splits above n (line ∷ lines) more items all
split_on above n line lines more items all (others, e, body) = (others, e, moved_back (upward items ++ above) n lines more line others body)

split_item : (above : List Statement) (n : ℕ) (line : List ℕ) (lines more : List (List ℕ)) (item : Item) (items rest all tail : List Item) → items ≡ item ∷ rest → all ≡ item ∷ tail → Splits (item.statement ∷ above) (n + 1) lines more rest tail → Splits above n (line ∷ lines) more items all
split_item above n line lines more item items rest all tail is all_is (others, e, body) =
    let whole : items ++ others ≡ item ∷ (rest ++ others) = ap (λ (l : List Item). l ++ others) is in
    let after = subst (λ (l : List Statement). IsBody l ((n + 1) + length lines) more others) (sym (below_item above item items rest is)) body in
    (others, (all_is ∙ ap (λ (l : List Item). item ∷ l) e ∙ sym whole), moved_back (upward items ++ above) n lines more line others after)

pub IsBody-split : (above : List Statement) (n : ℕ) (lines more : List (List ℕ)) (items all : List Item) → IsBody above n lines items → IsBody above n (lines ++ more) all → Splits above n lines more items all
IsBody-split above n [] more items all first second =
    let none : n ≡ n + 0 = omega arith in
    let here = subst (λ (k : ℕ). IsBody above k more all) none second in
    (all, ap (λ (l : List Item). l ++ all) (sym first), subst (λ (its : List Item). IsBody (upward its ++ above) (n + 0) more all) (sym first) here)
IsBody-split above n (line ∷ lines) more items all first second =
    elim first.1 [
      | inl a ↦ elim second.1 [
        | inl b ↦ split_on above n line lines more items all (IsBody-split above (n + 1) lines more items all a.1 b.1)
        | inr b ↦ absurd (nothing_spelled (words_of line) b.0.statement a.0 b.3.spelled)
      ]
      | inr a ↦ elim second.1 [
        | inl b ↦ absurd (nothing_spelled (words_of line) a.0.statement b.0 a.3.spelled)
        | inr b ↦
            let same : b.0 ≡ a.0 = IsItem-same above n line b.0 a.0 b.3 a.3 in
            let tail = subst (λ (i : Item). IsBody (i.statement ∷ above) (n + 1) (lines ++ more) b.1) same b.4 in
            let whole : all ≡ a.0 ∷ b.1 = b.2 ∙ ap (λ (i : Item). i ∷ b.1) same in
            split_item above n line lines more a.0 items a.1 all b.1 a.2 whole (IsBody-split (a.0.statement ∷ above) (n + 1) lines more a.1 b.1 a.4 tail)
      ]
    ]
