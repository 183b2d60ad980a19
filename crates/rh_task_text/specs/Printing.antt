-- The canonical text of a program.
use Rattle.std.specs.Prelude.{ℕ, ◌+◌, List, [], ◌∷◌, ◌++◌, codes}
use Rattle.rh_task_text.specs.declared.statement.Item.{Item}
use Rattle.rh_task_text.specs.Statements.{said}
use Rattle.rh_task_text.specs.Program.{ProgramText, version_text}
use Rattle.rh_words.specs.Values.{line_text}

-- the lines of the items, each with a line feed
abbrev pub items_text : List Item → List ℕ
items_text [] = []
items_text (item ∷ items) = line_text (said item.statement) ++ 10 ∷ items_text items

-- the header, and a line for each statement
abbrev pub items_program : List Item → List ℕ
items_program items = codes "rhc 1" ++ 10 ∷ items_text items

-- the canonical text
abbrev pub program_text : ProgramText → List ℕ
program_text text = items_program text.items

-- the items with lines counted from this number
abbrev pub renumbered : ℕ → List Item → List Item
renumbered n [] = []
renumbered n (item ∷ items) = record { line = n; statement = item.statement } ∷ renumbered (n + 1) items

-- the same version and statements, item i at line i + 2
abbrev pub as_printed : ProgramText → ProgramText
as_printed text = version_text text.version (renumbered 2 text.items)
