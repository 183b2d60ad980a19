-- Lines that are read begin a text: the open blocks are closed, a matrix after its missing rows.
use Rattle.std.proofs.Common.{◌≡◌, ℕ, zero, suc, ◌+◌, ◌-◌, ◌<◌, ◌≤◌, List, [], ◌∷◌, ◌++◌, Some, None, true, false, map, reverse, drop, length, refl, ap, sym, ◌∙◌, subst, arith, inr, append-nil}
use Rattle.std.specs.Prelude.{codes, nat_le, nat_lt}
use Rattle.std.proofs.lemmas.Bool.{ltb-true, lt-ltb, le-leb}
use Rattle.std.proofs.lemmas.List.{map-append, reverse-append}
use Rattle.rh_words.specs.Text.{words_of, is_printable}
use Rattle.rh_task_text.specs.declared.form.Block.{Block}
use Rattle.rh_task_text.specs.declared.form.Block.TheVariants.{TaskBlock, MatrixBlock, ScopeBlock}
use Rattle.rh_task_text.specs.declared.form.Standing.TheVariants.{InMatrix}
use Rattle.rh_task_text.specs.declared.statement.Item.{Item}
use Rattle.rh_task_text.specs.declared.statement.SchemeText.{SchemeText}
use Rattle.rh_task_text.specs.declared.statement.SchemeText.TheVariants.{Plain, Replicate, Replay, Abft}
use Rattle.rh_task_text.specs.declared.statement.Statement.{Statement}
use Rattle.rh_task_text.specs.declared.statement.Statement.TheVariants.{Row, Task, End}
use Rattle.rh_task_text.specs.Blocks.{open_blocks, innermost, may_stand, rows_here, rows_wanted, is_row_form, Stands}
use Rattle.rh_task_text.specs.Statements.{Spells, task_kind}
use Rattle.rh_task_text.specs.LineReasons.{statement_reason}
use Rattle.rh_task_text.specs.Program.{IsBody, AllStand, upward, IsFirstLine}
use Rattle.rh_task_text.proofs.ProgramLines.{BeginsLines}
use Rattle.rh_task_text.proofs.BodiesBelow.{IsBody-append, upward-cons}
use Rattle.rh_task_text.proofs.LawfulTexts.{body_stands}

-- some lines below these statements close all blocks
record Closes (above : List Statement) (n : ℕ) : Type 0 where
  pub lines : List (List ℕ)
  pub items : List Item
  pub body : IsBody above n lines items
  pub closed : open_blocks (upward items ++ above) ≡ []

-- one item before those that close
one_more : (above : List Statement) (n : ℕ) (line : List ℕ) (s : Statement) → is_printable line ≡ true → Spells (words_of line) s → Stands above s → statement_reason above s ≡ None → Closes (s ∷ above) (n + 1) → Closes above n
one_more above n line s printable spelled stands limited next =
    let item : Item = record { line = n; statement = s } in
    record {
      lines = line ∷ next.lines;
      items = item ∷ next.items;
      body = (printable, inr (item, next.items, refl, record { numbered = refl; spelled = spelled; placed = stands; limited = limited }, next.body));
      closed = ap (λ (l : List Statement). open_blocks l) (upward-cons item next.items above) ∙ next.closed;
    }

end_stands : (above : List Statement) (b : Block) (bs : List Block) → open_blocks above ≡ b ∷ bs → rows_wanted (Some b) ≤ rows_here above → Stands above End
end_stands above b bs opened rows =
    (refl, subst (λ (l : List Block). nat_le (rows_wanted (innermost l)) (rows_here above) ≡ true) (sym opened) (le-leb (rows_wanted (Some b)) (rows_here above) rows))

end_limited : (above : List Statement) (b : Block) (bs : List Block) → open_blocks above ≡ b ∷ bs → statement_reason above End ≡ None
end_limited above b bs opened = rw opened refl

-- what closes the blocks that are open below the next `end`
abbrev ClosesBelow : List Block → Type 0
ClosesBelow bs = (m : ℕ) (under : List Statement) → open_blocks under ≡ bs → rows_here under ≤ rows_wanted (innermost bs) → Closes under m

with_end : (above : List Statement) (b : Block) (bs : List Block) (n : ℕ) → open_blocks above ≡ b ∷ bs → rows_wanted (Some b) ≤ rows_here above → ClosesBelow bs → Closes above n
with_end above b bs n opened enough rest =
    one_more above n (codes "end") End refl ((codes "end", [], refl, refl, refl), tt) (end_stands above b bs opened enough) (end_limited above b bs opened)
    (rest (n + 1) (End ∷ above) (ap (λ (l : List Block). drop 1 l) opened) (omega arith))

-- an open matrix closes after its missing rows
with_rows : (missing : ℕ) (rows cols : ℕ) (bs : List Block) (above : List Statement) (n : ℕ) → open_blocks above ≡ MatrixBlock rows cols ∷ bs → rows_here above + missing ≡ rows → ClosesBelow bs → Closes above n
with_rows zero rows cols bs above n opened count rest = with_end above (MatrixBlock rows cols) bs n opened (let e = count in omega arith) rest
with_rows (suc missing) rows cols bs above n opened count rest =
    let fewer : rows_here above < rows = omega arith in
    let test : nat_lt (rows_here above) rows ≡ true = lt-ltb (rows_here above) rows fewer in
    let stands : Stands above (Row [] []) = (
      ap (λ (l : List Block). may_stand InMatrix (innermost l)) opened,
      subst (λ (l : List Block). nat_lt (rows_here above) (rows_wanted (innermost l)) ≡ true) (sym opened) test,
    ) in
    let limited : statement_reason above (Row [] []) ≡ None = rw opened refl in
    one_more above n (codes "row") (Row [] []) refl ((codes "row", [], refl, refl, refl), refl) stands limited
    (with_rows missing rows cols bs (Row [] [] ∷ above) (n + 1) opened (omega arith) rest)

-- all blocks close
closing : (blocks : List Block) (above : List Statement) (n : ℕ) → open_blocks above ≡ blocks → rows_here above ≤ rows_wanted (innermost blocks) → Closes above n
closing [] above n opened rows = record { lines = []; items = []; body = refl; closed = opened }
closing (MatrixBlock rows cols ∷ bs) above n opened kept =
    with_rows (rows - rows_here above) rows cols bs above n opened (omega arith) (λ m under opened2 kept2. closing bs under m opened2 kept2)
closing (TaskBlock ∷ bs) above n opened kept = with_end above TaskBlock bs n opened (omega arith) (λ m under opened2 kept2. closing bs under m opened2 kept2)
closing (ScopeBlock ∷ bs) above n opened kept = with_end above ScopeBlock bs n opened (omega arith) (λ m under opened2 kept2. closing bs under m opened2 kept2)

-- a task is no row
no_row : (scheme : SchemeText) → is_row_form (task_kind scheme) ≡ false
no_row Plain = refl
no_row Replicate = refl
no_row (Replay limit) = refl
no_row Abft = refl

-- no matrix has more rows than it wants
pub rows_kept : (above : List Statement) → AllStand above → rows_here above ≤ rows_wanted (innermost (open_blocks above))
rows_kept [] h = omega arith
rows_kept (Row js ns ∷ above) h = let less : rows_here above < rows_wanted (innermost (open_blocks above)) = ltb-true (rows_here above) (rows_wanted (innermost (open_blocks above))) h.0.placed.1 in omega arith
rows_kept (Task name scheme awaits ∷ above) h = let e = no_row scheme in rw e (omega arith)
rows_kept (s ∷ above) h = omega arith

-- lines that are read begin some text
pub Begins-done : (first : List ℕ) (done : List (List ℕ)) (items : List Item) → IsFirstLine first → IsBody [] 2 done items → BeginsLines (first ∷ done)
Begins-done first done items header body =
    let here : List Statement = upward items ++ [] in
    let stand = body_stands [] 2 done items body tt in
    let more = closing (open_blocks here) here (2 + length done) refl (rows_kept here stand) in
    let all : upward (items ++ more.items) ≡ upward more.items ++ here =
    ap (λ (l : List Statement). reverse l) (map-append (λ (i : Item). i.statement) items more.items)
    ∙ reverse-append (map (λ (i : Item). i.statement) items) (map (λ (i : Item). i.statement) more.items)
    ∙ ap (λ (l : List Statement). upward more.items ++ l) (sym (append-nil (upward items))) in
    (more.lines, items ++ more.items, (header, IsBody-append [] 2 done more.lines items more.items body more.body, ap (λ (l : List Statement). open_blocks l) all ∙ more.closed))
