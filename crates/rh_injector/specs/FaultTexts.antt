-- Which lists of lines are fault texts, what they say, and where a text first goes wrong.
use Rattle.std.specs.Prelude.{ℕ, ◌≡◌, ◌≤◌, ◌<◌, ◌+◌, List, [], ◌∷◌, ◌++◌, Option, Some, true, false, length, codes, take, max, if◌then◌else◌, ◌⊎◌, ⊤}
use Rattle.rh_words.specs.Text.{lines_of, words_of, IsHeader, SaysNothing, header_reason, is_printable}
use Rattle.rh_words.specs.Places.{agrees, places_reason}
use Rattle.rh_words.specs.Values.{SayWords, AreSayable, line_text}
use Rattle.rh_words.specs.declared.keyword.Keyword.TheVariants.{FaultWord}
use Rattle.rh_words.specs.declared.value.Place.{Place}
use Rattle.rh_words.specs.declared.value.Place.TheVariants.{WordPlace, NamePlace, NumberPlace, MaskPlace}
use Rattle.rh_words.specs.declared.value.Value.{Value}
use Rattle.rh_words.specs.declared.value.Value.TheVariants.{AWord, AName, ANumber, AMask}
use Rattle.rh_words.specs.declared.reason.Reason.{Reason}
use Rattle.rh_words.specs.declared.reason.Reason.TheVariants.{Byte, Statement}
use Rattle.rh_injector.specs.declared.fault_text.FaultLine.{FaultLine}

-- the place of the word that selects the one statement
abbrev pub first_place : List Place
first_place = WordPlace FaultWord ∷ []

-- the places of the words of a line: `fault TASK ATTEMPT LOCAL WORD MASK`
abbrev pub fault_places : List Place
fault_places = WordPlace FaultWord ∷ NamePlace ∷ NumberPlace ∷ NamePlace ∷ NumberPlace ∷ MaskPlace ∷ []

-- what the words of the line of a fault say
abbrev pub said : FaultLine → List Value
said fault = AWord FaultWord ∷ AName fault.task ∷ ANumber fault.attempt ∷ AName fault.local ∷ ANumber fault.word ∷ AMask fault.mask ∷ []

-- the line of this number says the fault
pub record SaysFault (number : ℕ) (line : List ℕ) (fault : FaultLine) : Type 0 where
  pub numbered : fault.line ≡ number
  pub spelled : SayWords (words_of line) (said fault)

-- the lines from this number on say these faults
abbrev pub IsBody : ℕ → List (List ℕ) → List FaultLine → Type 0
IsBody number [] faults = faults ≡ []
IsBody number (line ∷ lines) faults =
    (is_printable line ≡ true)
    × ((SaysNothing (words_of line) × IsBody (number + 1) lines faults)
    ⊎ ((fault : FaultLine) × (rest : List FaultLine) × (faults ≡ fault ∷ rest) × SaysFault number line fault × IsBody (number + 1) lines rest))

-- the first line of a fault text
abbrev pub IsFirstLine : List ℕ → Type 0
IsFirstLine line = IsHeader (codes "rhf") (codes "1") line

-- the lines are a fault text of these faults
abbrev pub AreFaultText : List (List ℕ) → List FaultLine → Type 0
AreFaultText [] faults = ⊥
AreFaultText (first ∷ lines) faults = IsFirstLine first × IsBody 2 lines faults

-- the bytes are a fault text of these faults
abbrev pub Reads : List ℕ → List FaultLine → Type 0
Reads bytes faults = AreFaultText (lines_of bytes) faults

-- some fault text begins with these lines
abbrev pub Begins : List (List ℕ) → Type 0
Begins lines = (bytes : List ℕ) × (faults : List FaultLine) × (more : List (List ℕ)) × Reads bytes faults × (lines_of bytes ≡ lines ++ more)

-- why words are refused: the first is not `fault`, or one of the others is wrong in its place
abbrev pub words_reason : List (List ℕ) → Option Reason
words_reason words = if agrees first_place words then places_reason fault_places [] [] words else Some Statement

-- why the line is refused: the first of the reasons that hold of it
abbrev pub IsReason : List ℕ → Reason → Type 0
IsReason line reason =
    ((is_printable line ≡ false) × (reason ≡ Byte))
    ⊎ ((is_printable line ≡ true) × (SaysNothing (words_of line) → ⊥) × (words_reason (words_of line) ≡ Some reason))

-- The lines between the first and this one are read, and this is why it is refused.
pub record LineReason (lines : List (List ℕ)) (line : ℕ) (reason : Reason) : Type 0 where
  pub first : List ℕ
  pub done : List (List ℕ)
  pub bad : List ℕ
  pub left : List (List ℕ)
  pub whole : lines ≡ first ∷ (done ++ bad ∷ left)
  pub at : line ≡ 2 + length done
  pub why : IsReason bad reason

-- the reason at a line: of the first, or of a later one
abbrev pub Why : List (List ℕ) → ℕ → Reason → Type 0
Why lines line reason = ((line ≡ 1) × (reason ≡ header_reason lines)) ⊎ LineReason lines line reason

-- The first bad line is the least line such that no fault text begins with the lines up to it. Where there is no line, it is line 1.
pub record FirstBad (bytes : List ℕ) (line : ℕ) (reason : Reason) : Type 0 where
  pub good_above : (k : ℕ) → k < line → Begins (take k (lines_of bytes))
  pub bad : line ≤ length (lines_of bytes) → Begins (take line (lines_of bytes)) → ⊥
  pub within : line ≤ max 1 (length (lines_of bytes))
  pub why : Why (lines_of bytes) line reason

-- the lines of the faults ascend, from this number on, and each fault can be said
abbrev pub AreLawfulFrom : ℕ → List FaultLine → Type 0
AreLawfulFrom least [] = ⊤
AreLawfulFrom least (fault ∷ faults) = (least ≤ fault.line) × AreSayable (said fault) × AreLawfulFrom (fault.line + 1) faults

-- what holds of the faults of a text: names are names, numbers are below 2 ^ 64, and lines ascend from 2 on
pub record IsLawfulText (faults : List FaultLine) : Type 0 where
  pub lawful : AreLawfulFrom 2 faults

-- the lines of the faults, each with a line feed
abbrev pub lines_text : List FaultLine → List ℕ
lines_text [] = []
lines_text (fault ∷ faults) = line_text (said fault) ++ 10 ∷ lines_text faults

-- the canonical text
abbrev pub fault_text : List FaultLine → List ℕ
fault_text faults = codes "rhf 1" ++ 10 ∷ lines_text faults

-- the fault in the line of this number
abbrev pub in_line : FaultLine → ℕ → FaultLine
in_line fault n = record fault { line = n }

-- the faults with lines counted from this number
abbrev pub renumbered : ℕ → List FaultLine → List FaultLine
renumbered n [] = []
renumbered n (fault ∷ faults) = in_line fault n ∷ renumbered (n + 1) faults

-- the same faults, the i-th from 0 in line i + 2
abbrev pub as_printed : List FaultLine → List FaultLine
as_printed faults = renumbered 2 faults
