-- Texts that are read up to a line.
use Rattle.std.proofs.Common.{◌≡◌, ℕ, suc, ◌+◌, ◌<◌, ◌≤◌, List, [], ◌∷◌, ◌++◌, length, take, drop, refl, ap, sym, ◌∙◌, subst, inl, inr, arith, cond, Some, None, true, append_assoc, append-nil, length-append}
use Rattle.std.specs.Prelude.{codes}
use Rattle.std.proofs.lemmas.Bool.Decides.{eqb_tells}
use Rattle.std.proofs.lemmas.Bool.{false≢true}
use Rattle.std.proofs.lemmas.List.{take-append-drop, take-append-le}
use Rattle.std.proofs.Math.Seq.{take-append_seam}
use Rattle.rh_words.specs.Text.{lines_of, words_of, onto_first, SaysNothing, header_reason, is_printable}
use Rattle.rh_words.specs.declared.reason.Reason.{Reason}
use Rattle.rh_words.specs.declared.reason.Reason.TheVariants.{Byte, Header, EndMissing}
use Rattle.rh_task_text.specs.declared.statement.Statement.{Statement}
use Rattle.rh_task_text.specs.declared.statement.Item.{Item}
use Rattle.rh_task_text.specs.Blocks.{open_blocks, Stands}
use Rattle.rh_task_text.specs.LineReasons.{statement_reason}
use Rattle.rh_task_text.specs.Program.{version_text, upward, IsItem, IsBody, IsProgram, IsReason, Reads, Begins, FirstBad, IsFirstLine}
use Rattle.rh_task_text.specs.ReaderStates.{AddsLine, IsBegun}
use Rattle.rh_task_text.specs.Statements.{Spells}
use Rattle.rh_task_text.proofs.StatementsOfForms.{Spells-same}
use Rattle.rh_task_text.proofs.StatementReasons.{words-spelled}
use Rattle.rh_task_text.proofs.BodiesBelow.{IsBody-append, IsBody-split}
use Rattle.rh_task_text.proofs.ProgramLines.{BeginsLines, begins_text, begins_lines}
use Rattle.rh_task_text.proofs.OpenBlocksClose.{Begins-done}

-- lines say one list of items
pub items_same : (done : List (List ℕ)) (items its : List Item) → IsBody [] 2 done items → IsBody [] 2 done its → its ≡ items
items_same done items its body other =
    let rest = IsBody-split [] 2 done [] items its body (subst (λ (ls : List (List ℕ)). IsBody [] 2 ls its) (sym (append-nil done)) other) in
    rest.1 ∙ ap (λ (l : List Item). items ++ l) rest.2 ∙ append-nil items

-- a text begins with fewer of the lines
Begins-front : (lines more : List (List ℕ)) → BeginsLines (lines ++ more) → BeginsLines lines
Begins-front lines more (rest, items, program) = (more ++ rest, items, subst (λ (ls : List (List ℕ)). IsProgram ls items) (append_assoc lines more rest) program)

pub begun-header : (bytes : List ℕ) (first : List ℕ) (left : List (List ℕ)) → lines_of bytes ≡ first ∷ left → IsFirstLine first → IsBegun bytes 2 left []
begun-header bytes first left whole header = record { first = first; done = []; whole = whole; header = header; body = refl; count = refl }

one_line : (above : List Statement) (n : ℕ) (line : List ℕ) (items new : List Item) → AddsLine items n line new → (others : List Item) × (new ≡ items ++ others) × IsBody (upward items ++ []) n (line ∷ []) others
one_line above n line items new adds =
    elim adds.1 [
      | inl a ↦ ([], a.1 ∙ sym (append-nil items), (adds.0, inl (a.0, refl)))
      | inr b ↦ (b.0 ∷ [], b.1, (adds.0, inr (b.0, [], refl, subst (λ (l : List Statement). IsItem l n line b.0) (sym (append-nil (upward items))) b.2, refl)))
    ]

pub begun-line : (bytes : List ℕ) (number : ℕ) (line : List ℕ) (left : List (List ℕ)) (items new : List Item) → IsBegun bytes number (line ∷ left) items → AddsLine items number line new → IsBegun bytes (number + 1) left new
begun-line bytes number line left items new begun adds =
    let one = one_line [] number line items new adds in
    let at = subst (λ (k : ℕ). IsBody (upward items ++ []) k (line ∷ []) one.0) begun.count one.2 in
    let body = IsBody-append [] 2 begun.done (line ∷ []) items one.0 begun.body at in
    record {
      first = begun.first;
      done = begun.done ++ line ∷ [];
      whole = begun.whole ∙ ap (λ (l : List (List ℕ)). begun.first ∷ l) (sym (append_assoc begun.done (line ∷ []) left));
      header = begun.header;
      body = subst (λ (its : List Item). IsBody [] 2 (begun.done ++ line ∷ []) its) (sym one.1) body;
      count = let c = begun.count in let l = length-append begun.done (line ∷ []) in let l2 : length (begun.done ++ line ∷ []) ≡ length begun.done + 1 = l in omega arith;
    }

pub begun-end : (bytes : List ℕ) (number : ℕ) (items : List Item) → IsBegun bytes number [] items → open_blocks (upward items) ≡ [] → Reads bytes (version_text 1 items)
begun-end bytes number items begun closed =
    let body = subst (λ (ls : List (List ℕ)). IsBody [] 2 ls items) (sym (append-nil begun.done)) begun.body in
    (refl, subst (λ (ls : List (List ℕ)). IsProgram ls items) (sym begun.whole) (begun.header, body, closed))

-- a text begins with the lines above
above_good : (bytes : List ℕ) (number : ℕ) (left : List (List ℕ)) (items : List Item) → IsBegun bytes number left items → (k : ℕ) → k < number → Begins (take k (lines_of bytes))
above_good bytes number left items begun k below =
    let lines : List (List ℕ) = begun.first ∷ begun.done in
    let count = begun.count in
    let short : k ≤ length lines = omega arith in
    let good = Begins-done begun.first begun.done items begun.header begun.body in
    let cut : take k (lines_of bytes) ≡ take k lines = ap (λ (ls : List (List ℕ)). take k ls) begun.whole ∙ take-append-le k lines left short in
    let split = subst (λ (ls : List (List ℕ)). BeginsLines ls) (sym (take-append-drop k lines)) good in
    subst (λ (ls : List (List ℕ)). Begins ls) (sym cut) (begins_text (take k lines) (Begins-front (take k lines) (drop k lines) split))

-- the line says something, and nothing that may stand below the items
abbrev IsRefusedLine : List Item → List ℕ → Type 0
IsRefusedLine items line =
    is_printable line ≡ true → (SaysNothing (words_of line) → ⊥)
    × ((s : Statement) → Spells (words_of line) s → Stands (upward items) s → statement_reason (upward items) s ≡ None → ⊥)

-- a line that has a reason is refused
reason_refuses : (items : List Item) (line : List ℕ) (reason : Reason) → IsReason (upward items) line reason → IsRefusedLine items line
reason_refuses items line reason why = λ printable. elim why [
  | inl byte ↦ absurd (false≢true (sym byte.0 ∙ printable))
  | inr rest ↦ (
    rest.1,
    λ s spelled stands limited. elim rest.2 [
      | inl worded ↦ (let e = words-spelled (upward items) (words_of line) s spelled stands in let f = worded in cc)
      | inr stated ↦ (
          let same : stated.0 ≡ s = Spells-same (words_of line) stated.0 s stated.1 spelled in
          let reasoned = subst (λ (u : Statement). statement_reason (upward items) u ≡ Some reason) same stated.3 in cc
          )
    ],
  )
]

line_bad : (number : ℕ) (first line : List ℕ) (done : List (List ℕ)) (items : List Item) → IsBody [] 2 done items → IsRefusedLine items line → BeginsLines (first ∷ (done ++ line ∷ [])) → ⊥
line_bad number first line done items body refused (more, all, program) =
    let lines : (done ++ line ∷ []) ++ more ≡ done ++ (line ∷ more) = append_assoc done (line ∷ []) more in
    let whole = subst (λ (ls : List (List ℕ)). IsBody [] 2 ls all) lines program.1 in
    let rest = IsBody-split [] 2 done (line ∷ more) items all body whole in
    let here = rest.2 in
    let bad = refused here.0 in
    elim here.1 [
      | inl a ↦ bad.0 a.0
      | inr b ↦ bad.1 b.0.statement b.3.spelled (subst (λ (l : List Statement). Stands l b.0.statement) (append-nil (upward items)) b.3.placed) (subst (λ (l : List Statement). statement_reason l b.0.statement ≡ None) (append-nil (upward items)) b.3.limited)
    ]

pub begun-bad : (bytes : List ℕ) (number : ℕ) (line : List ℕ) (left : List (List ℕ)) (items : List Item) (reason : Reason) → IsBegun bytes number (line ∷ left) items → IsReason (upward items) line reason → FirstBad bytes number reason
begun-bad bytes number line left items reason begun why =
    let lines : List (List ℕ) = begun.first ∷ (begun.done ++ line ∷ []) in
    let count = begun.count in
    let long = length-append begun.done (line ∷ left) in
    let total : length (lines_of bytes) ≡ suc (length begun.done + suc (length left)) = ap (λ (ls : List (List ℕ)). length ls) begun.whole ∙ ap suc long in
    let shape : lines_of bytes ≡ lines ++ left = begun.whole ∙ ap (λ (l : List (List ℕ)). begun.first ∷ l) (sym (append_assoc begun.done (line ∷ []) left)) in
    let some : length lines ≡ number = omega (arith, length-append begun.done (line ∷ [])) in
    let cut : take number (lines_of bytes) ≡ lines = ap (λ (ls : List (List ℕ)). take number ls) shape ∙ ap (λ (k : ℕ). take k (lines ++ left)) (sym some) ∙ take-append_seam lines left in
    record {
      good_above = above_good bytes number (line ∷ left) items begun;
      bad = λ within begins. line_bad number begun.first line begun.done items begun.body (reason_refuses items line reason why) (begins_lines lines (subst (λ (ls : List (List ℕ)). Begins ls) cut begins));
      bad_end = λ end text reads. absurd (omega arith);
      within = omega arith;
      why = inr (inl (record { first = begun.first; done = begun.done; bad = line; left = left; items = items; whole = begun.whole; read = begun.body; at = begun.count; why = why }));
    }

pub begun-open : (bytes : List ℕ) (number : ℕ) (items : List Item) → IsBegun bytes number [] items → (open_blocks (upward items) ≡ [] → ⊥) → FirstBad bytes number EndMissing
begun-open bytes number items begun opened =
    let count = begun.count in
    let whole : lines_of bytes ≡ begun.first ∷ begun.done = begun.whole ∙ ap (λ (l : List (List ℕ)). begun.first ∷ l) (append-nil begun.done) in
    let total : length (lines_of bytes) ≡ suc (length begun.done) = ap (λ (ls : List (List ℕ)). length ls) whole in
    record {
      good_above = above_good bytes number [] items begun;
      bad = λ within begins. absurd (omega arith);
      bad_end = λ end text reads.
          let program = subst (λ (ls : List (List ℕ)). IsProgram ls text.items) whole reads.1 in
          let same = items_same begun.done items text.items begun.body program.1 in
          opened (subst (λ (l : List Item). open_blocks (upward l) ≡ []) same program.2);
      within = omega arith;
      why = inr (inr (omega arith, omega arith, refl));
    }

header_begins : Begins []
header_begins = begins_text [] ((codes "rhc 1") ∷ [], [], (refl, refl, refl))

first_bad : (lines : List (List ℕ)) → (first : List ℕ) (left : List (List ℕ)) → lines ≡ first ∷ left → (IsFirstLine first → ⊥) → Begins (take 1 lines) → ⊥
first_bad lines first left is bad begins =
    let at = begins_lines (first ∷ []) (subst (λ (ls : List (List ℕ)). Begins (take 1 ls)) is begins) in
    bad at.2.0

pub header-bad : (bytes : List ℕ) (first : List ℕ) (left : List (List ℕ)) → lines_of bytes ≡ first ∷ left → (IsFirstLine first → ⊥) → FirstBad bytes 1 (cond (is_printable first) Header Byte)
header-bad bytes first left is bad =
    let total : length (lines_of bytes) ≡ suc (length left) = ap (λ (ls : List (List ℕ)). length ls) is in
    record {
      good_above = λ k below. let e : 0 ≡ k = omega arith in subst (λ (n : ℕ). Begins (take n (lines_of bytes))) e header_begins;
      bad = λ within begins. first_bad (lines_of bytes) first left is bad begins;
      bad_end = λ end text reads. absurd (omega arith);
      within = omega arith;
      why = inl (refl, ap (λ (ls : List (List ℕ)). header_reason ls) (sym is));
    }

pub no_lines-bad : (bytes : List ℕ) → lines_of bytes ≡ [] → FirstBad bytes 1 Header
no_lines-bad bytes is =
    let total : length (lines_of bytes) ≡ 0 = ap (λ (ls : List (List ℕ)). length ls) is in
    record {
      good_above = λ k below. let e : 0 ≡ k = omega arith in subst (λ (n : ℕ). Begins (take n (lines_of bytes))) e header_begins;
      bad = λ within begins. absurd (omega arith);
      bad_end = λ end text reads. subst (λ (ls : List (List ℕ)). IsProgram ls text.items) is reads.1;
      within = omega arith;
      why = inl (refl, ap (λ (ls : List (List ℕ)). header_reason ls) (sym is));
    }

length-onto_first-le : (b : ℕ) (pieces : List (List ℕ)) → length (onto_first b pieces) ≤ length pieces + 1
length-onto_first-le b [] = omega arith
length-onto_first-le b (p ∷ ps) = omega arith

-- a text has no more lines than bytes
length-lines_of-le : (bs : List ℕ) → length (lines_of bs) ≤ length bs
length-lines_of-le [] = omega arith
length-lines_of-le (b ∷ bs) =
    let rest = length-lines_of-le bs in
    let longer = length-onto_first-le b (lines_of bs) in
    elim (eqb_tells b 10) [ inl feed ↦ rw feed.0 (omega arith) | inr other ↦ rw other.0 (omega arith) ]

-- The number of a line that is left is below the number of bytes and 2.
pub number-le : (bytes : List ℕ) (number : ℕ) (line : List ℕ) (left : List (List ℕ)) (items : List Item) → IsBegun bytes number (line ∷ left) items → number ≤ length bytes
number-le bytes number line left items begun =
    let count = begun.count in
    let long = length-append begun.done (line ∷ left) in
    let total : length (lines_of bytes) ≡ suc (length begun.done + suc (length left)) = ap (λ (ls : List (List ℕ)). length ls) begun.whole ∙ ap suc long in
    omega (arith, length-lines_of-le bytes)
