-- Fault texts that are read up to a line.
use Rattle.std.proofs.Common.{◌≡◌, ℕ, suc, ◌+◌, ◌<◌, ◌≤◌, List, [], ◌∷◌, ◌++◌, length, take, drop, refl, ap, sym, ◌∙◌, subst, inl, inr, arith, cond, append_assoc, append-nil, length-append}
use Rattle.std.specs.Prelude.{codes}
use Rattle.std.proofs.lemmas.Bool.Decides.{eqb_tells}
use Rattle.std.proofs.lemmas.Bool.{false≢true}
use Rattle.std.proofs.lemmas.List.{take-append-drop, take-append-le}
use Rattle.std.proofs.Math.Seq.{take-append_seam}
use Rattle.rh_words.specs.Text.{lines_of, words_of, onto_first, header_reason, is_printable}
use Rattle.rh_words.specs.declared.reason.Reason.{Reason}
use Rattle.rh_words.specs.declared.reason.Reason.TheVariants.{Byte, Header}
use Rattle.rh_words.proofs.JoinedLines.{AreOneLine, IsOneLine, header_one, joined, lines_of-joined, printable_line}
use Rattle.rh_injector.specs.declared.fault_text.FaultLine.{FaultLine}
use Rattle.rh_injector.specs.FaultTexts.{IsBody, AreFaultText, IsFirstLine, IsReason, Reads, Begins, FirstBad}
use Rattle.rh_injector.specs.ReaderStates.{AddsLine, IsBegun}
use Rattle.rh_injector.proofs.FaultWords.{said_unreasoned}
use Rattle.rh_injector.proofs.FaultBodies.{IsBody-append, IsBody-parts}

body_one : (n : ℕ) (lines : List (List ℕ)) (faults : List FaultLine) → IsBody n lines faults → AreOneLine lines
body_one n [] faults body = tt
body_one n (line ∷ lines) faults body = (
  printable_line line body.0,
  elim body.1 [ inl a ↦ body_one (n + 1) lines faults a.1 | inr b ↦ body_one (n + 1) lines b.1 b.4 ],
)

first_one : (line : List ℕ) → IsFirstLine line → IsOneLine line
first_one line header = header_one (codes "rhf") (codes "1") line ((λ e. absurd (omega arith)), ((λ e. absurd (omega arith)), ((λ e. absurd (omega arith)), tt))) ((λ e. absurd (omega arith)), tt) header

text_one : (lines : List (List ℕ)) (faults : List FaultLine) → AreFaultText lines faults → AreOneLine lines
text_one [] faults text = absurd text
text_one (first ∷ lines) faults text = (first_one first text.0, body_one 2 lines faults text.1)

-- lines that are a fault text are those of some bytes, so a text begins with the first of them
begins_front : (lines more : List (List ℕ)) (faults : List FaultLine) → AreFaultText (lines ++ more) faults → Begins lines
begins_front lines more faults text =
    let is = lines_of-joined (lines ++ more) (text_one (lines ++ more) faults text) in
    (joined (lines ++ more), faults, more, subst (λ (ls : List (List ℕ)). AreFaultText ls faults) (sym is) text, is)

-- what begins a text begins lines that are one
begun_lines : (lines : List (List ℕ)) → Begins lines → (more : List (List ℕ)) × (faults : List FaultLine) × AreFaultText (lines ++ more) faults
begun_lines lines (bytes, faults, more, reads, is) = (more, faults, subst (λ (ls : List (List ℕ)). AreFaultText ls faults) is reads)

pub begun-header : (bytes : List ℕ) (first : List ℕ) (left : List (List ℕ)) → lines_of bytes ≡ first ∷ left → IsFirstLine first → IsBegun bytes 2 left []
begun-header bytes first left whole header = record { first = first; done = []; whole = whole; header = header; body = refl; count = refl }

one_line : (n : ℕ) (line : List ℕ) (faults new : List FaultLine) → AddsLine faults n line new → (others : List FaultLine) × (new ≡ faults ++ others) × IsBody n (line ∷ []) others
one_line n line faults new adds =
    elim adds.1 [
      | inl a ↦ ([], a.1 ∙ sym (append-nil faults), (adds.0, inl (a.0, refl)))
      | inr b ↦ (b.0 ∷ [], b.1, (adds.0, inr (b.0, [], refl, b.2, refl)))
    ]

pub begun-line : (bytes : List ℕ) (number : ℕ) (line : List ℕ) (left : List (List ℕ)) (faults new : List FaultLine) → IsBegun bytes number (line ∷ left) faults → AddsLine faults number line new → IsBegun bytes (number + 1) left new
begun-line bytes number line left faults new begun adds =
    let one = one_line number line faults new adds in
    let at = subst (λ (k : ℕ). IsBody k (line ∷ []) one.0) begun.count one.2 in
    let body = IsBody-append 2 begun.done (line ∷ []) faults one.0 begun.body at in
    record {
      first = begun.first;
      done = begun.done ++ line ∷ [];
      whole = begun.whole ∙ ap (λ (l : List (List ℕ)). begun.first ∷ l) (sym (append_assoc begun.done (line ∷ []) left));
      header = begun.header;
      body = subst (λ (its : List FaultLine). IsBody 2 (begun.done ++ line ∷ []) its) (sym one.1) body;
      count = let c = begun.count in let l : length (begun.done ++ line ∷ []) ≡ length begun.done + 1 = length-append begun.done (line ∷ []) in omega arith;
    }

pub begun-end : (bytes : List ℕ) (number : ℕ) (faults : List FaultLine) → IsBegun bytes number [] faults → Reads bytes faults
begun-end bytes number faults begun =
    let body = subst (λ (ls : List (List ℕ)). IsBody 2 ls faults) (sym (append-nil begun.done)) begun.body in
    subst (λ (ls : List (List ℕ)). AreFaultText ls faults) (sym begun.whole) (begun.header, body)

-- a text begins with the lines above
above_good : (bytes : List ℕ) (number : ℕ) (left : List (List ℕ)) (faults : List FaultLine) → IsBegun bytes number left faults → (k : ℕ) → k < number → Begins (take k (lines_of bytes))
above_good bytes number left faults begun k below =
    let lines : List (List ℕ) = begun.first ∷ begun.done in
    let count = begun.count in
    let short : k ≤ length lines = omega arith in
    let cut : take k (lines_of bytes) ≡ take k lines = ap (λ (ls : List (List ℕ)). take k ls) begun.whole ∙ take-append-le k lines left short in
    let text = subst (λ (ls : List (List ℕ)). AreFaultText ls faults) (sym (take-append-drop k lines)) (begun.header, begun.body) in
    subst (λ (ls : List (List ℕ)). Begins ls) (sym cut) (begins_front (take k lines) (drop k lines) faults text)

-- a line with a reason is in no fault text
line_bad : (first line : List ℕ) (done : List (List ℕ)) (reason : Reason) → IsReason line reason → Begins (first ∷ (done ++ line ∷ [])) → ⊥
line_bad first line done reason why begins =
    let all = begun_lines (first ∷ (done ++ line ∷ [])) begins in
    let front = (IsBody-parts 2 (done ++ line ∷ []) all.0 all.1 all.2.1).0 in
    let here = (IsBody-parts 2 done (line ∷ []) front.0 front.1).1.1 in
    elim why [
      | inl byte ↦ false≢true (sym byte.0 ∙ here.0)
      | inr rest ↦ elim here.1 [
        | inl a ↦ rest.1 a.0
        | inr b ↦ (let e = rest.2 in let f = said_unreasoned (words_of line) b.0 b.3.spelled in absurd (cc))
      ]
    ]

pub begun-bad : (bytes : List ℕ) (number : ℕ) (line : List ℕ) (left : List (List ℕ)) (faults : List FaultLine) (reason : Reason) → IsBegun bytes number (line ∷ left) faults → IsReason line reason → FirstBad bytes number reason
begun-bad bytes number line left faults reason begun why =
    let lines : List (List ℕ) = begun.first ∷ (begun.done ++ line ∷ []) in
    let count = begun.count in
    let long = length-append begun.done (line ∷ left) in
    let total : length (lines_of bytes) ≡ suc (length begun.done + suc (length left)) = ap (λ (ls : List (List ℕ)). length ls) begun.whole ∙ ap suc long in
    let shape : lines_of bytes ≡ lines ++ left = begun.whole ∙ ap (λ (l : List (List ℕ)). begun.first ∷ l) (sym (append_assoc begun.done (line ∷ []) left)) in
    let some : length lines ≡ number = omega (arith, length-append begun.done (line ∷ [])) in
    let cut : take number (lines_of bytes) ≡ lines = ap (λ (ls : List (List ℕ)). take number ls) shape ∙ ap (λ (k : ℕ). take k (lines ++ left)) (sym some) ∙ take-append_seam lines left in
    record {
      good_above = above_good bytes number (line ∷ left) faults begun;
      bad = λ within begins. line_bad begun.first line begun.done reason why (subst (λ (ls : List (List ℕ)). Begins ls) cut begins);
      within = omega arith;
      why = inr (record { first = begun.first; done = begun.done; bad = line; left = left; whole = begun.whole; at = begun.count; why = why });
    }

header_begins : Begins []
header_begins = begins_front [] ((codes "rhf 1") ∷ []) [] (refl, refl)

first_bad : (lines : List (List ℕ)) (first : List ℕ) (left : List (List ℕ)) → lines ≡ first ∷ left → (IsFirstLine first → ⊥) → Begins (take 1 lines) → ⊥
first_bad lines first left is bad begins =
    let at = begun_lines (first ∷ []) (subst (λ (ls : List (List ℕ)). Begins (take 1 ls)) is begins) in
    bad at.2.0

above_first : (bytes : List ℕ) (k : ℕ) → k < 1 → Begins (take k (lines_of bytes))
above_first bytes k below = let e : 0 ≡ k = omega arith in subst (λ (n : ℕ). Begins (take n (lines_of bytes))) e header_begins

pub header-bad : (bytes : List ℕ) (first : List ℕ) (left : List (List ℕ)) → lines_of bytes ≡ first ∷ left → (IsFirstLine first → ⊥) → FirstBad bytes 1 (cond (is_printable first) Header Byte)
header-bad bytes first left is bad = record {
  good_above = above_first bytes;
  bad = λ within begins. first_bad (lines_of bytes) first left is bad begins;
  within = omega arith;
  why = inl (refl, ap (λ (ls : List (List ℕ)). header_reason ls) (sym is));
}

pub no_lines-bad : (bytes : List ℕ) → lines_of bytes ≡ [] → FirstBad bytes 1 Header
no_lines-bad bytes is =
    let total : length (lines_of bytes) ≡ 0 = ap (λ (ls : List (List ℕ)). length ls) is in
    record {
      good_above = above_first bytes;
      bad = λ within begins. absurd (omega arith);
      within = omega arith;
      why = inl (refl, ap (λ (ls : List (List ℕ)). header_reason ls) (sym is));
    }

length-onto_first-le : (b : ℕ) (pieces : List (List ℕ)) → length (onto_first b pieces) ≤ length pieces + 1
length-onto_first-le b [] = omega arith
length-onto_first-le b (p ∷ ps) = omega arith

-- a text has no more lines than bytes
length-lines_of-le : (bs : List ℕ) → length (lines_of bs) ≤ length bs
length-lines_of-le [] = omega arith
length-lines_of-le (b ∷ bs) =
    let rest = length-lines_of-le bs in
    let longer = length-onto_first-le b (lines_of bs) in
    elim (eqb_tells b 10) [ inl feed ↦ rw feed.0 (omega arith) | inr other ↦ rw other.0 (omega arith) ]

-- the number of a line that is left is at most that of bytes
pub number-le : (bytes : List ℕ) (number : ℕ) (line : List ℕ) (left : List (List ℕ)) (faults : List FaultLine) → IsBegun bytes number (line ∷ left) faults → number ≤ length bytes
number-le bytes number line left faults begun =
    let count = begun.count in
    let long = length-append begun.done (line ∷ left) in
    let total : length (lines_of bytes) ≡ suc (length begun.done + suc (length left)) = ap (λ (ls : List (List ℕ)). length ls) begun.whole ∙ ap suc long in
    omega (arith, length-lines_of-le bytes)
