-- Lines that are a program text are the lines of some bytes.
use Rattle.std.proofs.Common.{ℕ, ◌+◌, List, [], ◌∷◌, ◌++◌, refl, sym, subst, inl, inr, arith}
use Rattle.std.specs.Prelude.{codes}
use Rattle.rh_task_text.specs.declared.statement.Statement.{Statement}
use Rattle.rh_task_text.specs.declared.statement.Item.{Item}
use Rattle.rh_task_text.specs.Program.{version_text, IsBody, IsProgram, Begins, IsFirstLine}
use Rattle.rh_words.proofs.JoinedLines.{AreOneLine, IsOneLine, header_one, joined, lines_of-joined, printable_line}

body_one : (above : List Statement) (n : ℕ) (lines : List (List ℕ)) (items : List Item) → IsBody above n lines items → AreOneLine lines
body_one above n [] items body = tt
body_one above n (line ∷ lines) items body = (
  printable_line line body.0,
  elim body.1 [ inl a ↦ body_one above (n + 1) lines items a.1 | inr b ↦ body_one (b.0.statement ∷ above) (n + 1) lines b.1 b.4 ],
)

first_one : (line : List ℕ) → IsFirstLine line → IsOneLine line
first_one line header = header_one (codes "rhc") (codes "1") line ((λ e. absurd (omega arith)), ((λ e. absurd (omega arith)), ((λ e. absurd (omega arith)), tt))) ((λ e. absurd (omega arith)), tt) header

program_one : (lines : List (List ℕ)) (items : List Item) → IsProgram lines items → AreOneLine lines
program_one [] items program = absurd program
program_one (first ∷ lines) items program = (first_one first program.0, body_one [] 2 lines items program.1)

-- a program text has these lines and more
abbrev pub BeginsLines : List (List ℕ) → Type 0
BeginsLines lines = (more : List (List ℕ)) × (items : List Item) × IsProgram (lines ++ more) items

pub begins_text : (lines : List (List ℕ)) → BeginsLines lines → Begins lines
begins_text lines (more, items, program) =
    let is = lines_of-joined (lines ++ more) (program_one (lines ++ more) items program) in
    (joined (lines ++ more), version_text 1 items, more, (refl, subst (λ (ls : List (List ℕ)). IsProgram ls items) (sym is) program), is)

pub begins_lines : (lines : List (List ℕ)) → Begins lines → BeginsLines lines
begins_lines lines (bytes, text, more, reads, is) = (more, text.items, subst (λ (ls : List (List ℕ)). IsProgram ls text.items) is reads.1)
