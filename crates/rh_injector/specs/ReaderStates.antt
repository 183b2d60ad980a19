-- What a reader knows of the faults of the lines above, and what reading one more line makes of them.
use Rattle.std.specs.Prelude.{ℕ, ◌≡◌, ◌+◌, List, [], ◌∷◌, ◌++◌, true, ◌⊎◌, length}
use Rattle.rh_words.specs.Text.{lines_of, words_of, is_printable, SaysNothing}
use Rattle.rh_injector.specs.declared.fault_text.FaultLine.{FaultLine}
use Rattle.rh_injector.specs.FaultTexts.{SaysFault, IsFirstLine, IsBody}

-- the line of this number makes these faults of those above it
abbrev pub AddsLine : List FaultLine → ℕ → List ℕ → List FaultLine → Type 0
AddsLine faults number line new =
    (is_printable line ≡ true)
    × ((SaysNothing (words_of line) × (new ≡ faults))
    ⊎ ((fault : FaultLine) × (new ≡ faults ++ fault ∷ []) × SaysFault number line fault))

-- The lines up to this number are read, and these lines are left.
pub record IsBegun (bytes : List ℕ) (number : ℕ) (left : List (List ℕ)) (faults : List FaultLine) : Type 0 where
  pub first : List ℕ
  pub done : List (List ℕ)
  pub whole : lines_of bytes ≡ first ∷ (done ++ left)
  pub header : IsFirstLine first
  pub body : IsBody 2 done faults
  pub count : number ≡ 2 + length done
