-- The canonical text of a lawful program reads as the same statements.
use Rattle.std.proofs.Common.{◌≡◌, ℕ, ◌+◌, List, [], ◌∷◌, ◌++◌, map, reverse, refl, ap, sym, ◌∙◌, subst, append-nil, inr}
use Rattle.std.specs.Prelude.{codes}
use Rattle.rh_words.specs.Text.{lines_of, words_of}
use Rattle.rh_task_text.specs.declared.statement.Statement.{Statement}
use Rattle.rh_task_text.specs.declared.statement.Item.{Item}
use Rattle.rh_task_text.specs.Statements.{said, Spells}
use Rattle.rh_words.specs.Values.{SayWords, line_text}
use Rattle.rh_task_text.specs.Blocks.{open_blocks}
use Rattle.rh_task_text.specs.Program.{ProgramText, IsItem, IsBody, IsProgram, IsLawful, IsLawfulText, AllStand, Reads, upward}
use Rattle.rh_task_text.specs.Printing.{items_text, program_text, renumbered, as_printed}
use Rattle.rh_task_text.proofs.BodiesBelow.{upward-cons}
use Rattle.rh_words.proofs.JoinedLines.{first_line, printable_line}
use Rattle.rh_words.proofs.PrintedWords.{line_words, says_values, line_printable}

-- the canonical line of a statement spells it
line_spells : (above : List Statement) (s : Statement) → IsLawful above s → Spells (words_of (line_text (said s))) s
line_spells above s lawful = (subst (λ (ws : List (List ℕ)). SayWords ws (said s)) (sym (line_words (said s) lawful.sayable)) (says_values (said s) lawful.sayable), lawful.whole)

-- the lines of the items
abbrev item_lines : List Item → List (List ℕ)
item_lines items = map (λ item. line_text (said item.statement)) items

stand_below : (front above : List Statement) → AllStand (front ++ above) → AllStand above
stand_below [] above h = h
stand_below (s ∷ front) above h = stand_below front above h.1

stand_next : (above : List Statement) (item : Item) (items : List Item) → AllStand (upward (item ∷ items) ++ above) → AllStand (upward items ++ (item.statement ∷ above))
stand_next above item items h = subst (λ (l : List Statement). AllStand l) (upward-cons item items above) h

lines_are : (above : List Statement) (items : List Item) → AllStand (upward items ++ above) → lines_of (items_text items) ≡ item_lines items
lines_are above [] h = refl
lines_are above (item ∷ items) h =
    let next = stand_next above item items h in
    let lawful = (stand_below (upward items) (item.statement ∷ above) next).0 in
    let one = printable_line (line_text (said item.statement)) (line_printable (said item.statement) lawful.sayable) in
    first_line (line_text (said item.statement)) (items_text items) one ∙ ap (λ (ls : List (List ℕ)). line_text (said item.statement) ∷ ls) (lines_are (item.statement ∷ above) items next)

-- the lines are read as the items, renumbered
body_read : (above : List Statement) (n : ℕ) (items : List Item) → AllStand (upward items ++ above) → IsBody above n (item_lines items) (renumbered n items)
body_read above n [] h = refl
body_read above n (item ∷ items) h =
    let next = stand_next above item items h in
    let lawful = (stand_below (upward items) (item.statement ∷ above) next).0 in
    let again : Item = record { line = n; statement = item.statement } in
    let is : IsItem above n (line_text (said item.statement)) again = record { numbered = refl; spelled = line_spells above item.statement lawful; placed = lawful.placed; limited = lawful.limited } in
    (line_printable (said item.statement) lawful.sayable, inr (again, renumbered (n + 1) items, refl, is, body_read (item.statement ∷ above) (n + 1) items next))

same_statements : (n : ℕ) (items : List Item) → map (λ (item : Item). item.statement) (renumbered n items) ≡ map (λ (item : Item). item.statement) items
same_statements n [] = refl
same_statements n (item ∷ items) = ap (λ (l : List Statement). item.statement ∷ l) (same_statements (n + 1) items)

-- the canonical text reads as the same version and statements, item i at line i + 2
pub printed_reads : (text : ProgramText) → IsLawfulText text → Reads (program_text text) (as_printed text)
printed_reads text lawful =
    let stand = subst (λ (l : List Statement). AllStand l) (sym (append-nil (upward text.items))) lawful.lawful in
    let lines : lines_of (program_text text) ≡ codes "rhc 1" ∷ item_lines text.items = first_line (codes "rhc 1") (items_text text.items) (printable_line (codes "rhc 1") refl) ∙ ap (λ (ls : List (List ℕ)). codes "rhc 1" ∷ ls) (lines_are [] text.items stand) in
    let closed : open_blocks (upward (renumbered 2 text.items)) ≡ [] = ap (λ (l : List Statement). open_blocks (reverse l)) (same_statements 2 text.items) ∙ lawful.closed in
    (lawful.version, subst (λ (ls : List (List ℕ)). IsProgram ls (renumbered 2 text.items)) (sym lines) (refl, body_read [] 2 text.items stand, closed))
