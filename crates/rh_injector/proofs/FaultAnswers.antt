-- What the calls that read a fault text answer.
use Rattle.std.proofs.Common.{◌≡◌, ℕ, suc, ◌+◌, ◌<◌, ◌≤◌, List, [], ◌∷◌, length, Bool, true, false, None, Some, Err, cond, ap, sym, ◌∙◌, subst, inl, inr, arith}
use Rattle.std.specs.Prelude.{IsTrue, ◌↔◌, MatchBool}
use Rattle.std.proofs.lemmas.Bool.{false≢true}
use Rattle.rh_words.specs.Text.{lines_of, words_of, SaysNothing, is_printable}
use Rattle.rh_words.specs.Places.{agrees, places_reason, FitPlaces}
use Rattle.rh_words.specs.PlaceWalks.{Places, places}
use Rattle.rh_words.specs.Values.{SayWords}
use Rattle.rh_words.specs.Refusals.{OnRefused, fault_at}
use Rattle.rh_words.specs.declared.reason.Reason.{Reason}
use Rattle.rh_words.specs.declared.reason.Reason.TheVariants.{Statement}
use Rattle.rh_words.specs.declared.reason.Fault.{Fault}
use Rattle.rh_words.specs.declared.reason.Fault.TheVariants.{Refused, OutOfMemory}
use Rattle.rh_words.specs.declared.value.Value.{Value}
use Rattle.rh_words.proofs.WordsInPlaces.{unreasoned}
use Rattle.rh_words.proofs.SayableWords.{said_sayable}
use Rattle.rh_injector.specs.declared.fault_text.FaultLine.{FaultLine}
use Rattle.rh_injector.specs.FaultTexts.{first_place, fault_places, said, IsReason, IsBody, AreFaultText, AreLawfulFrom, IsLawfulText, Reads, FirstBad}
use Rattle.rh_injector.specs.ReaderStates.{IsBegun}
use Rattle.rh_injector.proofs.FaultWords.{fit_said}
use Rattle.rh_injector.proofs.FaultPrefixes.{begun-bad}

-- a test that answered false
pub out_of_false : (b : Bool) (P : Type 0) → IsTrue b ↔ P → b ≡ false → P → ⊥
out_of_false b P iff e p = false≢true (sym e ∙ iff.1 p)

-- the refusal of a line is that of the text
pub refused_text : (bytes : List ℕ) (number : ℕ) (line : List ℕ) (left : List (List ℕ)) (faults : List FaultLine) (fault : Fault Reason) → IsBegun bytes number (line ∷ left) faults → OnRefused {X = Unit {0}} (Err fault) (λ reason. IsReason line reason) → OnRefused {X = Unit {0}} (Err (fault_at number fault)) (λ refusal. FirstBad bytes refusal.line refusal.reason)
refused_text bytes number line left faults OutOfMemory begun refused = tt
refused_text bytes number line left faults (Refused reason) begun refused = begun-bad bytes number line left faults reason begun refused

said_length : (ws : List (List ℕ)) (vs : List Value) → SayWords ws vs → length ws ≡ length vs
said_length ws [] spelled = ap (λ (l : List (List ℕ)). length l) spelled
said_length ws (v ∷ vs) spelled = ap (λ (l : List (List ℕ)). length l) spelled.2 ∙ ap suc (said_length spelled.1 vs spelled.4)

-- what reading the words of a line in these places answers
abbrev pub Kept : Bool → List (List ℕ) → Places → List Value → Type 0
Kept kept ws ps vs = MatchBool kept (SayWords ws vs × FitPlaces ps.here ps.more ps.again vs) ((places_reason ps.here ps.more ps.again ws ≡ None) × (length fault_places < length ws))

by_kept : (kept : Bool) (ws : List (List ℕ)) (vs : List Value) → Kept kept ws (places fault_places [] []) vs → SayWords ws vs × FitPlaces fault_places [] [] vs
by_kept true ws vs h = h
by_kept false ws vs h =
    let valued = unreasoned fault_places [] [] ws h.0 in
    let fault = fit_said 0 valued.0 valued.2 in
    let six : length ws ≡ 6 = said_length ws valued.0 valued.1 ∙ ap (λ (l : List Value). length l) (sym fault.2) in
    let more = h.1 in
    absurd (omega arith)

-- words that fit are six, so their values are kept
pub kept_words : (kept : Bool) (ws : List (List ℕ)) (ps : Places) (vs : List Value) → ps ≡ places fault_places [] [] → Kept kept ws ps vs → SayWords ws vs × FitPlaces fault_places [] [] vs
kept_words kept ws ps vs e h = by_kept kept ws vs (subst (λ (p : Places). Kept kept ws p vs) e h)

-- words that are refused in these places are those of a line that is refused
pub refused_words : (line : List ℕ) (ps : Places) (reason : Reason) → is_printable line ≡ true → (SaysNothing (words_of line) → ⊥) → agrees first_place (words_of line) ≡ true → ps ≡ places fault_places [] [] → places_reason ps.here ps.more ps.again (words_of line) ≡ Some reason → IsReason line reason
refused_words line ps reason printable says agreed e why =
    let at = subst (λ (p : Places). places_reason p.here p.more p.again (words_of line) ≡ Some reason) e why in
    inr (printable, says, ap (λ (b : Bool). cond b (places_reason fault_places [] [] (words_of line)) (Some Statement)) agreed ∙ at)

-- a line whose first word is another is refused
pub refused_first : (line : List ℕ) → is_printable line ≡ true → (SaysNothing (words_of line) → ⊥) → agrees first_place (words_of line) ≡ false → IsReason line Statement
refused_first line printable says other =
    inr (printable, says, ap (λ (b : Bool). cond b (places_reason fault_places [] [] (words_of line)) (Some Statement)) other)

sooner : (least n : ℕ) (faults : List FaultLine) → least ≤ n → AreLawfulFrom n faults → AreLawfulFrom least faults
sooner least n [] less h = tt
sooner least n (fault ∷ faults) less h = let first : n ≤ fault.line = h.0 in (omega arith, h.1, h.2)

-- faults that are read are lawful
body_lawful : (n : ℕ) (lines : List (List ℕ)) (faults : List FaultLine) → IsBody n lines faults → AreLawfulFrom n faults
body_lawful n [] faults body = subst (λ (its : List FaultLine). AreLawfulFrom n its) (sym body) tt
body_lawful n (line ∷ lines) faults body =
    elim body.1 [
      | inl a ↦ sooner n (n + 1) faults (omega arith) (body_lawful (n + 1) lines faults a.1)
      | inr b ↦
          let number : b.0.line ≡ n = b.3.numbered in
          let more = sooner (b.0.line + 1) (n + 1) b.1 (omega arith) (body_lawful (n + 1) lines b.1 b.4) in
          let least : n ≤ b.0.line = omega arith in
          subst (λ (its : List FaultLine). AreLawfulFrom n its) (sym b.2) (least, said_sayable (words_of line) (said b.0) b.3.spelled, more)
    ]

text_lawful : (lines : List (List ℕ)) (faults : List FaultLine) → AreFaultText lines faults → IsLawfulText faults
text_lawful [] faults text = absurd text
text_lawful (first ∷ lines) faults text = record { lawful = body_lawful 2 lines faults text.1 }

pub Reads-lawful : (bytes : List ℕ) (faults : List FaultLine) → Reads bytes faults → IsLawfulText faults
Reads-lawful bytes faults reads = text_lawful (lines_of bytes) faults reads
