-- What is read is a lawful text.
use Rattle.std.proofs.Common.{◌≡◌, ℕ, ◌+◌, ◌≤◌, List, [], ◌∷◌, ◌++◌, sym, subst, inl, inr, arith, append-nil}
use Rattle.rh_words.specs.Text.{lines_of, words_of}
use Rattle.rh_task_text.specs.declared.statement.Statement.{Statement}
use Rattle.rh_task_text.specs.declared.statement.Item.{Item}
use Rattle.rh_task_text.specs.Program.{ProgramText, IsBody, IsProgram, IsLawfulText, Reads, AllStand, AscendFrom, upward}
use Rattle.rh_task_text.proofs.BodiesBelow.{below_item}
use Rattle.rh_task_text.proofs.LawfulLines.{spelled_lawful}

-- items that are read stand
pub body_stands : (above : List Statement) (n : ℕ) (lines : List (List ℕ)) (items : List Item) → IsBody above n lines items → AllStand above → AllStand (upward items ++ above)
body_stands above n [] items body stand = subst (λ (its : List Item). AllStand (upward its ++ above)) (sym body) stand
body_stands above n (line ∷ lines) items body stand =
    elim body.1 [
      | inl a ↦ body_stands above (n + 1) lines items a.1 stand
      | inr b ↦
          let lawful = spelled_lawful above (words_of line) b.0.statement b.3.spelled b.3.placed b.3.limited in
          let more = body_stands (b.0.statement ∷ above) (n + 1) lines b.1 b.4 (lawful, stand) in
          subst (λ (l : List Statement). AllStand l) (sym (below_item above b.0 items b.1 b.2)) more
    ]

sooner : (least n : ℕ) (items : List Item) → least ≤ n → AscendFrom n items → AscendFrom least items
sooner least n [] less h = tt
sooner least n (item ∷ items) less h = let first : n ≤ item.line = h.0 in (omega arith, h.1)

-- items that are read ascend
body_ascends : (above : List Statement) (n : ℕ) (lines : List (List ℕ)) (items : List Item) → IsBody above n lines items → AscendFrom n items
body_ascends above n [] items body = subst (λ (its : List Item). AscendFrom n its) (sym body) tt
body_ascends above n (line ∷ lines) items body =
    elim body.1 [
      | inl a ↦ sooner n (n + 1) items (omega arith) (body_ascends above (n + 1) lines items a.1)
      | inr b ↦
          let number : b.0.line ≡ n = b.3.numbered in
          let more = sooner (b.0.line + 1) (n + 1) b.1 (omega arith) (body_ascends (b.0.statement ∷ above) (n + 1) lines b.1 b.4) in
          let least : n ≤ b.0.line = omega arith in
          subst (λ (its : List Item). AscendFrom n its) (sym b.2) (least, more)
    ]

lawful_lines : (lines : List (List ℕ)) (text : ProgramText) → text.version ≡ 1 → IsProgram lines text.items → IsLawfulText text
lawful_lines [] text version program = absurd program
lawful_lines (first ∷ lines) text version program =
    let stand = body_stands [] 2 lines text.items program.1 tt in
    record {
      version = version;
      lawful = subst (λ (l : List Statement). AllStand l) (append-nil (upward text.items)) stand;
      ascending = body_ascends [] 2 lines text.items program.1;
      closed = program.2;
    }

pub Reads-lawful : (bytes : List ℕ) (text : ProgramText) → Reads bytes text → IsLawfulText text
Reads-lawful bytes text reads = lawful_lines (lines_of bytes) text reads.0 reads.1
