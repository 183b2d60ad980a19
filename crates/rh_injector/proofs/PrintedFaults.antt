-- The canonical text of lawful faults reads as the same faults.
use Rattle.std.proofs.Common.{◌≡◌, ℕ, ◌+◌, List, [], ◌∷◌, map, refl, ap, sym, ◌∙◌, subst, inr}
use Rattle.std.specs.Prelude.{codes}
use Rattle.rh_words.specs.Text.{lines_of}
use Rattle.rh_words.specs.Values.{line_text}
use Rattle.rh_words.proofs.JoinedLines.{first_line, printable_line}
use Rattle.rh_words.proofs.PrintedWords.{line_printable, line_says}
use Rattle.rh_injector.specs.declared.fault_text.FaultLine.{FaultLine}
use Rattle.rh_injector.specs.FaultTexts.{said, SaysFault, IsBody, AreFaultText, AreLawfulFrom, IsLawfulText, Reads, lines_text, fault_text, in_line, renumbered, as_printed}

-- the lines of the faults
abbrev fault_lines : List FaultLine → List (List ℕ)
fault_lines faults = map (λ fault. line_text (said fault)) faults

lines_are : (least : ℕ) (faults : List FaultLine) → AreLawfulFrom least faults → lines_of (lines_text faults) ≡ fault_lines faults
lines_are least [] lawful = refl
lines_are least (fault ∷ faults) lawful =
    let one = printable_line (line_text (said fault)) (line_printable (said fault) lawful.1) in
    first_line (line_text (said fault)) (lines_text faults) one ∙ ap (λ (ls : List (List ℕ)). line_text (said fault) ∷ ls) (lines_are (fault.line + 1) faults lawful.2)

-- the lines are read as the faults, renumbered
body_read : (least n : ℕ) (faults : List FaultLine) → AreLawfulFrom least faults → IsBody n (fault_lines faults) (renumbered n faults)
body_read least n [] lawful = refl
body_read least n (fault ∷ faults) lawful =
    let says : SaysFault n (line_text (said fault)) (in_line fault n) = record { numbered = refl; spelled = line_says (said fault) lawful.1 } in
    (line_printable (said fault) lawful.1, inr (in_line fault n, renumbered (n + 1) faults, refl, says, body_read (fault.line + 1) (n + 1) faults lawful.2))

-- the canonical text reads as the same faults, the i-th from 0 in line i + 2
pub printed_reads : (faults : List FaultLine) → IsLawfulText faults → Reads (fault_text faults) (as_printed faults)
printed_reads faults lawful =
    let lines : lines_of (fault_text faults) ≡ codes "rhf 1" ∷ fault_lines faults = first_line (codes "rhf 1") (lines_text faults) (printable_line (codes "rhf 1") refl) ∙ ap (λ (ls : List (List ℕ)). codes "rhf 1" ∷ ls) (lines_are 2 faults lawful.lawful) in
    subst (λ (ls : List (List ℕ)). AreFaultText ls (renumbered 2 faults)) (sym lines) (refl, body_read 2 2 faults lawful.lawful)
