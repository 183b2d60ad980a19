-- Which lists of lines are program texts, and where a text first goes wrong.
use Rattle.std.specs.Prelude.{ℕ, ◌≡◌, ◌≤◌, ◌<◌, ◌+◌, List, [], ◌∷◌, ◌++◌, true, false, Some, None, map, length, codes, take, ◌⊎◌, reverse, ⊤}
use Rattle.rh_words.specs.Text.{lines_of, words_of, IsHeader, SaysNothing, header_reason, is_printable}
use Rattle.rh_words.specs.declared.reason.Reason.{Reason}
use Rattle.rh_words.specs.declared.reason.Reason.TheVariants.{Byte, EndMissing}
use Rattle.rh_task_text.specs.declared.statement.Statement.{Statement}
use Rattle.rh_task_text.specs.declared.statement.Item.{Item}
use Rattle.rh_task_text.specs.Statements.{Spells, said, IsSaidWhole}
use Rattle.rh_words.specs.Values.{AreSayable}
use Rattle.rh_task_text.specs.Blocks.{open_blocks, Stands}
use Rattle.rh_task_text.specs.LineReasons.{words_reason, statement_reason}

-- what a program text says: a version of the language, and statements with the numbers of their lines
pub record ProgramText : Type 0 where
  pub version : ℕ
  pub items : List Item

-- the text of this version with these items
abbrev pub version_text : ℕ → List Item → ProgramText
version_text version items = record { version = version; items = items }

-- the line of this number says the item, which may stand below these statements, the nearest first
pub record IsItem (above : List Statement) (number : ℕ) (line : List ℕ) (item : Item) : Type 0 where
  pub numbered : item.line ≡ number
  pub spelled : Spells (words_of line) item.statement
  pub placed : Stands above item.statement
  pub limited : statement_reason above item.statement ≡ None

-- the lines from this number on say these items, below these statements, the nearest first
abbrev pub IsBody : List Statement → ℕ → List (List ℕ) → List Item → Type 0
IsBody above number [] items = items ≡ []
IsBody above number (line ∷ lines) items =
    (is_printable line ≡ true)
    × ((SaysNothing (words_of line) × IsBody above (number + 1) lines items)
    ⊎ ((item : Item) × (rest : List Item) × (items ≡ item ∷ rest) × IsItem above number line item × IsBody (item.statement ∷ above) (number + 1) lines rest))

-- the statements of the items, the last first
abbrev pub upward : List Item → List Statement
upward items = reverse (map (λ item. item.statement) items)

-- the first line of a program text
abbrev pub IsFirstLine : List ℕ → Type 0
IsFirstLine line = IsHeader (codes "rhc") (codes "1") line

-- the lines are a program text of these items
abbrev pub IsProgram : List (List ℕ) → List Item → Type 0
IsProgram [] items = ⊥
IsProgram (first ∷ lines) items = IsFirstLine first × IsBody [] 2 lines items × (open_blocks (upward items) ≡ [])

-- the bytes are this program text
abbrev pub Reads : List ℕ → ProgramText → Type 0
Reads bytes text = (text.version ≡ 1) × IsProgram (lines_of bytes) text.items

-- some program text begins with these lines
abbrev pub Begins : List (List ℕ) → Type 0
Begins lines = (bytes : List ℕ) × (text : ProgramText) × (more : List (List ℕ)) × Reads bytes text × (lines_of bytes ≡ lines ++ more)

-- Why the line is refused below these statements: the first of the reasons that hold of it.
abbrev pub IsReason : List Statement → List ℕ → Reason → Type 0
IsReason above line reason =
    ((is_printable line ≡ false) × (reason ≡ Byte))
    ⊎ ((is_printable line ≡ true) × (SaysNothing (words_of line) → ⊥)
    × ((words_reason above (words_of line) ≡ Some reason)
    ⊎ ((s : Statement) × Spells (words_of line) s × (words_reason above (words_of line) ≡ None) × (statement_reason above s ≡ Some reason))))

-- The lines between the first and this one are read as these items, and below them this is why it is refused.
pub record LineReason (lines : List (List ℕ)) (line : ℕ) (reason : Reason) : Type 0 where
  pub first : List ℕ
  pub done : List (List ℕ)
  pub bad : List ℕ
  pub left : List (List ℕ)
  pub items : List Item
  pub whole : lines ≡ first ∷ (done ++ bad ∷ left)
  pub read : IsBody [] 2 done items
  pub at : line ≡ 2 + length done
  pub why : IsReason (upward items) bad reason

-- The reason at a line: of the first, of a later one, or of the end, where a block is open.
abbrev pub Why : List (List ℕ) → ℕ → Reason → Type 0
Why lines line reason =
    ((line ≡ 1) × (reason ≡ header_reason lines))
    ⊎ (LineReason lines line reason
    ⊎ ((0 < length lines) × (line ≡ length lines + 1) × (reason ≡ EndMissing)))

-- The first bad line is the least line such that no program text begins with the lines up to it. Where some text begins with all the lines, it is the number after the last.
pub record FirstBad (bytes : List ℕ) (line : ℕ) (reason : Reason) : Type 0 where
  pub good_above : (k : ℕ) → k < line → Begins (take k (lines_of bytes))
  pub bad : line ≤ length (lines_of bytes) → Begins (take line (lines_of bytes)) → ⊥
  pub bad_end : line ≡ length (lines_of bytes) + 1 → (text : ProgramText) → Reads bytes text → ⊥
  pub within : line ≤ length (lines_of bytes) + 1
  pub why : Why (lines_of bytes) line reason

-- The statement may be the next below these, the nearest first: its names are names and its numbers below 2 ^ 64, it is said whole, and it has its place and keeps its limits.
pub record IsLawful (above : List Statement) (s : Statement) : Type 0 where
  pub sayable : AreSayable (said s)
  pub whole : IsSaidWhole s
  pub placed : Stands above s
  pub limited : statement_reason above s ≡ None

-- each of the statements, the nearest first, may be the next below the others
abbrev pub AllStand : List Statement → Type 0
AllStand [] = ⊤
AllStand (s ∷ above) = IsLawful above s × AllStand above

-- the lines of the items ascend, from this number on
abbrev pub AscendFrom : ℕ → List Item → Type 0
AscendFrom least [] = ⊤
AscendFrom least (item ∷ items) = (least ≤ item.line) × AscendFrom (item.line + 1) items

-- what holds of a text, whatever the bytes that it was read from
pub record IsLawfulText (text : ProgramText) : Type 0 where
  pub version : text.version ≡ 1
  pub lawful : AllStand (upward text.items)
  pub ascending : AscendFrom 2 text.items
  pub closed : open_blocks (upward text.items) ≡ []
