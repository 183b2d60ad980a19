-- What a text is read as, and its first bad line.
use Rattle.std.proofs.Common.{◌≡◌, ℕ, ◌+◌, ◌≤◌, ◌<◌, List, [], ◌∷◌, length, drop, ap, subst, sym, ◌∙◌, inl, inr, arith}
use Rattle.std.proofs.lemmas.List.{take-append-drop}
use Rattle.std.proofs.lemmas.Bool.{cases_lt}
use Rattle.rh_words.specs.Text.{lines_of}
use Rattle.rh_words.specs.declared.reason.Reason.{Reason}
use Rattle.rh_task_text.specs.declared.statement.Item.{Item}
use Rattle.rh_task_text.specs.Program.{ProgramText, IsProgram, Reads, Why, FirstBad}
use Rattle.rh_task_text.proofs.Prefixes.{items_same}
use Rattle.rh_task_text.proofs.OneReason.{same_reason}

program_same : (lines : List (List ℕ)) (a b : List Item) → IsProgram lines a → IsProgram lines b → a ≡ b
program_same [] a b first second = absurd first
program_same (line ∷ lines) a b first second = items_same lines b a second.1 first.1

-- bytes are read as one text
pub Reads-same : (bytes : List ℕ) (a b : ProgramText) → Reads bytes a → Reads bytes b → a ≡ b
Reads-same bytes a b first second =
    let version : a.version ≡ b.version = first.0 ∙ sym second.0 in
    let items : a.items ≡ b.items = program_same (lines_of bytes) a.items b.items first.1 second.1 in
    ap (λ (n : ℕ). let text : ProgramText = record { version = n; items = a.items } in text) version
    ∙ ap (λ (its : List Item). let text : ProgramText = record { version = b.version; items = its } in text) items

-- what is read has no first bad line
pub Reads-not_bad : (bytes : List ℕ) (text : ProgramText) (line : ℕ) (reason : Reason) → Reads bytes text → FirstBad bytes line reason → ⊥
Reads-not_bad bytes text line reason reads bad =
    let lines : List (List ℕ) = lines_of bytes in
    let within : line ≤ length lines + 1 = bad.within in
    elim (cases_lt (length lines) line) [
      | inr short ↦ bad.bad short (bytes, text, drop line lines, reads, sym (take-append-drop line lines))
      | inl long ↦ bad.bad_end (omega arith) text reads
    ]

-- no first bad line stands above another
not_above : (bytes : List ℕ) (l m : ℕ) (r q : Reason) → FirstBad bytes l r → FirstBad bytes m q → l < m → ⊥
not_above bytes l m r q a b less =
    let within = b.within in
    a.bad (omega arith) (b.good_above l less)

pub FirstBad-same : (bytes : List ℕ) (l m : ℕ) (r q : Reason) → FirstBad bytes l r → FirstBad bytes m q → (l ≡ m) × (r ≡ q)
FirstBad-same bytes l m r q a b =
    elim (cases_lt l m) [
      | inl less ↦ absurd (not_above bytes l m r q a b less)
      | inr most ↦ elim (cases_lt m l) [
        | inl more ↦ absurd (not_above bytes m l q r b a more)
        | inr least ↦ (
            let same : l ≡ m = omega arith in
            (same, same_reason (lines_of bytes) m r q (subst (λ (n : ℕ). Why (lines_of bytes) n r) same a.why) b.why)
            )
      ]
    ]
