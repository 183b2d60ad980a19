-- Each text is read or has a first bad line, decided line by line.
use Rattle.std.proofs.Common.{◌≡◌, ℕ, ◌+◌, List, [], ◌∷◌, ◌++◌, Option, Some, None, Bool, true, false, cond, refl, sym, ◌∙◌, ◌⊎◌, inl, inr}
use Rattle.std.specs.Prelude.{codes}
use Rattle.std.specs.Str.{bytes_eq}
use Rattle.std.proofs.lemmas.Bool.{false≢true}
use Rattle.std.proofs.lemmas.Bool.Decides.{eqb_tells}
use Rattle.std.proofs.lemmas.Slice.Eq.{bytes_eq-Decides}
use Rattle.rh_words.specs.Text.{lines_of, words_of, SaysNothing, is_printable}
use Rattle.rh_words.specs.declared.reason.Reason.{Reason}
use Rattle.rh_words.specs.declared.reason.Reason.TheVariants.{Byte, Header, EndMissing}
use Rattle.rh_task_text.specs.declared.form.Block.{Block}
use Rattle.rh_task_text.specs.declared.statement.Statement.{Statement}
use Rattle.rh_task_text.specs.declared.statement.Item.{Item}
use Rattle.rh_task_text.specs.Statements.{Spells}
use Rattle.rh_task_text.specs.Blocks.{open_blocks, Stands}
use Rattle.rh_task_text.specs.LineReasons.{words_reason, statement_reason}
use Rattle.rh_task_text.specs.Program.{ProgramText, version_text, IsReason, Reads, FirstBad, upward}
use Rattle.rh_task_text.specs.ReaderStates.{AddsLine}
use Rattle.rh_task_text.proofs.StatementReasons.{words-none}
use Rattle.rh_task_text.specs.ReaderStates.{IsBegun}
use Rattle.rh_task_text.proofs.Prefixes.{begun-header, begun-line, begun-bad, begun-open, begun-end, header-bad, no_lines-bad}

abbrev Decided : Type 0 → Type 0
Decided P = P ⊎ (P → ⊥)

nothing : (words : List (List ℕ)) → Decided (SaysNothing words)
nothing [] = inl tt
nothing ([] ∷ words) = inr (λ h. h)
nothing ((b ∷ bs) ∷ words) = elim (eqb_tells b 35) [ inl same ↦ inl same.1 | inr other ↦ inr other.1 ]

-- what a line makes of the items above it, or why it is refused
abbrev Judged : List Item → ℕ → List ℕ → Type 0
Judged items number line = ((new : List Item) × AddsLine items number line new) ⊎ ((reason : Reason) × IsReason (upward items) line reason)

by_statement : (items : List Item) (number : ℕ) (line : List ℕ) (s : Statement) (o : Option Reason) → statement_reason (upward items) s ≡ o → is_printable line ≡ true → (SaysNothing (words_of line) → ⊥) → words_reason (upward items) (words_of line) ≡ None → Spells (words_of line) s → Stands (upward items) s → Judged items number line
by_statement items number line s None e printable says none spelled stands =
    let item : Item = record { line = number; statement = s } in
    inl (items ++ item ∷ [], (printable, inr (item, refl, record { numbered = refl; spelled = spelled; placed = stands; limited = e })))
by_statement items number line s (Some r) e printable says none spelled stands = inr (r, inr (printable, says, inr (s, spelled, none, e)))

by_words : (items : List Item) (number : ℕ) (line : List ℕ) (o : Option Reason) → words_reason (upward items) (words_of line) ≡ o → is_printable line ≡ true → (SaysNothing (words_of line) → ⊥) → Judged items number line
by_words items number line None e printable says =
    let s = words-none (upward items) (words_of line) e in
    by_statement items number line s.0 (statement_reason (upward items) s.0) refl printable says e s.1 s.2
by_words items number line (Some r) e printable says = inr (r, inr (printable, says, inl e))

judged : (items : List Item) (number : ℕ) (line : List ℕ) → Judged items number line
judged items number line = by_bytes (is_printable line) refl where
  by_bytes : (b : Bool) → is_printable line ≡ b → Judged items number line
  by_bytes false e = inr (Byte, inl (e, refl))
  by_bytes true e = elim (nothing (words_of line)) [
    | inl says ↦ inl (items, (e, inl (says, refl)))
    | inr says ↦ by_words items number line (words_reason (upward items) (words_of line)) refl e says
  ]

-- what bytes are read as, or where they are bad
abbrev pub IsDecided : List ℕ → Type 0
IsDecided bytes = ((text : ProgramText) × Reads bytes text) ⊎ ((line : ℕ) × (reason : Reason) × FirstBad bytes line reason)

at_end : (bytes : List ℕ) (number : ℕ) (items : List Item) (blocks : List Block) → open_blocks (upward items) ≡ blocks → IsBegun bytes number [] items → IsDecided bytes
at_end bytes number items [] closed begun = inl (version_text 1 items, begun-end bytes number items begun closed)
at_end bytes number items (block ∷ blocks) opened begun = inr (number, EndMissing, begun-open bytes number items begun (λ closed. let e = opened in cc))

by_lines : (left : List (List ℕ)) (bytes : List ℕ) (number : ℕ) (items : List Item) → IsBegun bytes number left items → IsDecided bytes
by_lines [] bytes number items begun = at_end bytes number items (open_blocks (upward items)) refl begun
by_lines (line ∷ left) bytes number items begun =
    elim (judged items number line) [
      | inl adds ↦ by_lines left bytes (number + 1) adds.0 (begun-line bytes number line left items adds.0 begun adds.1)
      | inr refused ↦ inr (number, refused.0, begun-bad bytes number line left items refused.0 begun refused.1)
    ]

same_words : (a b : List ℕ) → Decided (a ≡ b)
same_words a b = by_test (bytes_eq a b) refl where
  by_test : (t : Bool) → bytes_eq a b ≡ t → Decided (a ≡ b)
  by_test true e = inl ((bytes_eq-Decides a b).0 e)
  by_test false e = inr (λ same. false≢true (sym e ∙ (bytes_eq-Decides a b).1 same))

header : (words : List (List ℕ)) → Decided (words ≡ codes "rhc" ∷ codes "1" ∷ [])
header [] = inr (λ e. cc)
header (a ∷ []) = inr (λ e. cc)
header (a ∷ b ∷ []) = elim (same_words a (codes "rhc")) [
  | inl first ↦ elim (same_words b (codes "1")) [ inl second ↦ inl cc | inr second ↦ inr (λ e. second cc) ]
  | inr first ↦ inr (λ e. first cc)
]
header (a ∷ b ∷ c ∷ words) = inr (λ e. cc)

by_first : (bytes : List ℕ) (lines : List (List ℕ)) → lines_of bytes ≡ lines → IsDecided bytes
by_first bytes [] is = inr (1, Header, no_lines-bad bytes is)
by_first bytes (first ∷ left) is = elim (header (words_of first)) [
  | inl good ↦ by_lines left bytes 2 [] (begun-header bytes first left is good)
  | inr bad ↦ inr (1, cond (is_printable first) Header Byte, header-bad bytes first left is bad)
]

pub decided : (bytes : List ℕ) → IsDecided bytes
decided bytes = by_first bytes (lines_of bytes) refl
