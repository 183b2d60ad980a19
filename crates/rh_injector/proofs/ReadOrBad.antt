-- Each fault text is read or has a first bad line, decided line by line.
use Rattle.std.proofs.Common.{◌≡◌, ℕ, ◌+◌, List, [], ◌∷◌, ◌++◌, Option, Some, None, Bool, true, false, cond, refl, sym, ◌∙◌, ◌⊎◌, inl, inr}
use Rattle.std.specs.Prelude.{codes}
use Rattle.std.specs.Str.{bytes_eq}
use Rattle.std.proofs.lemmas.Bool.{false≢true}
use Rattle.std.proofs.lemmas.Bool.Decides.{eqb_tells}
use Rattle.std.proofs.lemmas.Slice.Eq.{bytes_eq-Decides}
use Rattle.rh_words.specs.Text.{lines_of, words_of, SaysNothing, is_printable}
use Rattle.rh_words.specs.declared.reason.Reason.{Reason}
use Rattle.rh_words.specs.declared.reason.Reason.TheVariants.{Byte, Header}
use Rattle.rh_injector.specs.declared.fault_text.FaultLine.{FaultLine}
use Rattle.rh_injector.specs.FaultTexts.{words_reason, IsReason, Reads, FirstBad}
use Rattle.rh_injector.specs.ReaderStates.{AddsLine, IsBegun}
use Rattle.rh_injector.proofs.FaultWords.{unreasoned_said}
use Rattle.rh_injector.proofs.FaultPrefixes.{begun-header, begun-line, begun-bad, begun-end, header-bad, no_lines-bad}

abbrev Decided : Type 0 → Type 0
Decided P = P ⊎ (P → ⊥)

nothing : (words : List (List ℕ)) → Decided (SaysNothing words)
nothing [] = inl tt
nothing ([] ∷ words) = inr (λ h. h)
nothing ((b ∷ bs) ∷ words) = elim (eqb_tells b 35) [ inl same ↦ inl same.1 | inr other ↦ inr other.1 ]

-- what a line makes of the faults above it, or why it is refused
abbrev Judged : List FaultLine → ℕ → List ℕ → Type 0
Judged faults number line = ((new : List FaultLine) × AddsLine faults number line new) ⊎ ((reason : Reason) × IsReason line reason)

by_words : (faults : List FaultLine) (number : ℕ) (line : List ℕ) (o : Option Reason) → words_reason (words_of line) ≡ o → is_printable line ≡ true → (SaysNothing (words_of line) → ⊥) → Judged faults number line
by_words faults number line None e printable says =
    let fault = unreasoned_said number (words_of line) e in
    inl (faults ++ fault.0 ∷ [], (printable, inr (fault.0, refl, record { numbered = fault.1; spelled = fault.2 })))
by_words faults number line (Some r) e printable says = inr (r, inr (printable, says, e))

judged : (faults : List FaultLine) (number : ℕ) (line : List ℕ) → Judged faults number line
judged faults number line = by_bytes (is_printable line) refl where
  by_bytes : (b : Bool) → is_printable line ≡ b → Judged faults number line
  by_bytes false e = inr (Byte, inl (e, refl))
  by_bytes true e = elim (nothing (words_of line)) [
    | inl says ↦ inl (faults, (e, inl (says, refl)))
    | inr says ↦ by_words faults number line (words_reason (words_of line)) refl e says
  ]

-- what bytes are read as, or where they are bad
abbrev pub IsDecided : List ℕ → Type 0
IsDecided bytes = ((faults : List FaultLine) × Reads bytes faults) ⊎ ((line : ℕ) × (reason : Reason) × FirstBad bytes line reason)

by_lines : (left : List (List ℕ)) (bytes : List ℕ) (number : ℕ) (faults : List FaultLine) → IsBegun bytes number left faults → IsDecided bytes
by_lines [] bytes number faults begun = inl (faults, begun-end bytes number faults begun)
by_lines (line ∷ left) bytes number faults begun =
    elim (judged faults number line) [
      | inl adds ↦ by_lines left bytes (number + 1) adds.0 (begun-line bytes number line left faults adds.0 begun adds.1)
      | inr refused ↦ inr (number, refused.0, begun-bad bytes number line left faults refused.0 begun refused.1)
    ]

same_words : (a b : List ℕ) → Decided (a ≡ b)
same_words a b = by_test (bytes_eq a b) refl where
  by_test : (t : Bool) → bytes_eq a b ≡ t → Decided (a ≡ b)
  by_test true e = inl ((bytes_eq-Decides a b).0 e)
  by_test false e = inr (λ same. false≢true (sym e ∙ (bytes_eq-Decides a b).1 same))

header : (words : List (List ℕ)) → Decided (words ≡ codes "rhf" ∷ codes "1" ∷ [])
header [] = inr (λ e. cc)
header (a ∷ []) = inr (λ e. cc)
header (a ∷ b ∷ []) = elim (same_words a (codes "rhf")) [
  | inl first ↦ elim (same_words b (codes "1")) [ inl second ↦ inl cc | inr second ↦ inr (λ e. second cc) ]
  | inr first ↦ inr (λ e. first cc)
]
header (a ∷ b ∷ c ∷ words) = inr (λ e. cc)

by_first : (bytes : List ℕ) (lines : List (List ℕ)) → lines_of bytes ≡ lines → IsDecided bytes
by_first bytes [] is = inr (1, Header, no_lines-bad bytes is)
by_first bytes (first ∷ left) is = elim (header (words_of first)) [
  | inl good ↦ by_lines left bytes 2 [] (begun-header bytes first left is good)
  | inr bad ↦ inr (1, cond (is_printable first) Header Byte, header-bad bytes first left is bad)
]

pub decided : (bytes : List ℕ) → IsDecided bytes
decided bytes = by_first bytes (lines_of bytes) refl
