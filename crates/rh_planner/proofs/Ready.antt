-- Each line of a lawful text may be planned where those above it were.
use Rattle.std.proofs.Common.{◌≡◌, ℕ, ◌+◌, ◌<◌, ◌≤◌, List, [], ◌∷◌, ◌++◌, Option, Some, None, refl, append-nil, arith, length, get_or, take, drop, map, sym, ap, ◌∙◌, subst}
use Rattle.std.specs.List.{AllByRecursion, IsDistinct}
use Rattle.std.specs.Str.{bytes_eq}
use Rattle.rh_task_text.specs.declared.statement.Statement.{Statement}
use Rattle.rh_task_text.specs.declared.statement.Statement.TheVariants as text
use Rattle.rh_task_text.specs.declared.statement.Item.{Item}
use Rattle.rh_task_text.specs.Blocks.{lets_here, open_blocks, innermost, rows_here}
use Rattle.rh_task_text.specs.Limits.{columns_here}
use Rattle.rh_task_text.proofs.CountsOfLines.{rows_small}
use Rattle.rh_sparse.specs.Matrix.{MatrixData, IsRow}
use Rattle.rh_rules.specs.declared.shape.Shape.{Shape}
use Rattle.rh_rules.specs.Facets.{cells_of}
use Rattle.rh_task_text.specs.Program.{ProgramText, IsLawfulText, AllStand, upward}
use Rattle.rh_rules.specs.declared.block.OpenBlock.{OpenBlock}
use Rattle.rh_rules.specs.declared.block.OpenBlock.TheVariants.{TaskBlock, MatrixBlock, GroupBlock, ScopeBlock}
use Rattle.rh_rules.specs.declared.node.PlannedPromise.{PlannedPromise}
use Rattle.rh_rules.specs.Above.{Facts, facts_above, matrices_above}
use Rattle.rh_task_text.specs.declared.form.Block.{Block}
use Rattle.rh_check.specs.Users.{HandedChecks, ArePaired}
use Rattle.rh_rules.specs.Rules.{AllKeep}
use Rattle.rh_rules.specs.Limits.{IsWithinLimits}
use Rattle.rh_planner.specs.declared.planner.Planner.{Planner}
use Rattle.rh_planner.specs.Planned.{look_above}
use Rattle.rh_planner.specs.States.{HasFacts, HasRoom, IsClosable, TakesRow}
use Rattle.rh_planner.specs.Sound.{nodes_open, shapes_named, IsOpenMatrix, AreShaped}
use Rattle.rh_planner.proofs.OpenBlocks.{in_matrix}
use Rattle.rh_planner.proofs.Grammar.{within, limits_kept, row_limits, row_lawful, columns_small, columns_below}
use Rattle.rh_planner.proofs.Wholes.{upward_append, split_at}
use Rattle.rh_planner.proofs.Counting.{counted}
use Rattle.rh_planner.proofs.SoundFacts.{AreSound, IsSoundBlock}
use Rattle.rh_planner.proofs.ScopeLines.{own_there, own_unput}
use Rattle.rh_planner.proofs.LawfulDrafts.{sound_facts}

stand_suffix : (xs ys : List Statement) → AllStand (xs ++ ys) → AllStand ys
stand_suffix [] ys stand = stand
stand_suffix (x ∷ xs) ys stand = stand_suffix xs ys stand.1

-- the item and those before it stand
pub stand_at : (text : ProgramText) (items : List Item) (i : ℕ) (item : Item) → IsLawfulText text → items ≡ text.items → i < length items → item ≡ get_or items i item → AllStand (item.statement ∷ upward (take i items))
stand_at text items i item lawful same h is =
    let whole : upward text.items ≡ upward (drop (i + 1) items) ++ item.statement ∷ upward (take i items) =
    ap (λ (l : List Item). upward l) (sym same ∙ split_at items i item h is) ∙ upward_append (take i items) item (drop (i + 1) items) in
    stand_suffix (upward (drop (i + 1) items)) (item.statement ∷ upward (take i items)) (subst AllStand whole lawful.lawful)

pub room_at : (handed : HandedChecks) (above : List Statement) (p : Planner) → AllStand above → AllKeep (look_above handed) above → lets_here above ≤ 32 → HasFacts p (facts_above (look_above handed) above) → HasRoom p
room_at handed above p stand kept lets has =
    let c = counted handed above stand kept in
    let count : length p.nodes.items ≡ (facts_above (look_above handed) above).count = has.count in
    let room : (facts_above (look_above handed) above).count + nodes_open (facts_above (look_above handed) above).blocks ≤ 16384 = c.room in
    let same : length p.task.locals.items ≡ length (facts_above (look_above handed) above).locals = ap length has.locals in
    let inputs : length (facts_above (look_above handed) above).inputs ≤ 16 = c.inputs in
    let locals : length (facts_above (look_above handed) above).locals ≤ length (facts_above (look_above handed) above).inputs + lets_here above = c.locals in
    let named : length p.matrices.items ≡ length (facts_above (look_above handed) above).matrices = ap length has.matrices in
    let matrices : length (facts_above (look_above handed) above).matrices ≤ 256 = c.few_matrices in
    record { nodes = omega arith; locals = omega arith; matrices = omega arith }

-- the innermost open block may be closed
closable : (f : Facts) (bs : List OpenBlock) → IsDistinct bytes_eq (map (λ (p : PlannedPromise). p.name) f.promises) → AllByRecursion (IsSoundBlock f.nodes f.promises) bs → IsClosable f.promises bs
closable f [] distinct all = tt
closable f (TaskBlock name ∷ bs) distinct all = tt
closable f (MatrixBlock ∷ bs) distinct all = tt
closable f (GroupBlock number ∷ bs) distinct all = tt
closable f (ScopeBlock name first ∷ bs) distinct all = (own_there f.promises name all.0, own_unput f.promises name distinct all.0)

pub closable_at : (handed : HandedChecks) → ArePaired handed → (above : List Statement) (p : Planner) → AllStand above → AllKeep (look_above handed) above → HasFacts p (facts_above (look_above handed) above) → IsClosable p.declared.promises p.blocks
closable_at handed paired above p stand kept has =
    let f : Facts = facts_above (look_above handed) above in
    let shapes : List Shape = shapes_named (matrices_above above) in
    let s : AreSound shapes f = sound_facts shapes [] handed paired above (sym (append-nil shapes)) stand kept in
    subst (λ (ps : List PlannedPromise). IsClosable ps p.blocks) (sym has.promises)
    (subst (IsClosable f.promises) (sym has.blocks) (closable f f.blocks s.promise_names.once s.blocks))

pub within_at : (above : List Statement) (s : Statement) → AllStand (s ∷ above) → IsWithinLimits s
within_at above s stand = within above s stand.0

-- what a row needs is needed of no other statement
takes : (begun : Option MatrixData) (s : Statement) → ((columns values : List ℕ) → s ≡ text.Row columns values → TakesRow begun (text.Row columns values)) → TakesRow begun s
takes begun (text.Row columns values) row = row columns values refl
takes None s row = tt
takes (Some a) s row = tt

row_taken : (handed : HandedChecks) (above : List Statement) (columns values : List ℕ) (p : Planner) → AllStand (text.Row columns values ∷ above) → AllKeep (look_above handed) above → HasFacts p (facts_above (look_above handed) above) → TakesRow p.begun (text.Row columns values)
row_taken handed above columns values p stand kept has =
    let f : Facts = facts_above (look_above handed) above in
    let c = counted handed above stand.1 kept in
    let block = in_matrix (open_blocks above) f.blocks c.blocks stand.0.placed.0 in
    let begun : IsOpenMatrix block.rows block.cols (rows_here above) f = subst (λ (bs : List Block). AreShaped (innermost bs) (rows_here above) f) block.opens c.shaped in
    let cols : columns_here (innermost (open_blocks above)) ≡ begun.matrix.cols = ap (λ (bs : List Block). columns_here (innermost bs)) block.opens ∙ sym begun.columns in
    let limits = row_limits (columns_here (innermost (open_blocks above))) columns values (limits_kept above (text.Row columns values) stand.0.limited) in
    let row = row_lawful (columns_here (innermost (open_blocks above))) columns values stand.0.whole limits in
    let counted_rows : length begun.matrix.rows ≡ rows_here above = begun.counted in
    let most : rows_here above + 1 ≤ 4096 = rows_small (text.Row columns values ∷ above) stand in
    subst (λ (o : Option MatrixData). TakesRow o (text.Row columns values)) (sym (has.begun ∙ begun.here)) (subst (λ (n : ℕ). IsRow n (cells_of columns values)) cols row, omega arith, columns_below (columns_here (innermost (open_blocks above))) 4096 columns (columns_small above stand.1) limits.below)

-- the open matrix takes the row that comes next
pub takes_row : (handed : HandedChecks) (above : List Statement) (s : Statement) (p : Planner) → AllStand (s ∷ above) → AllKeep (look_above handed) above → HasFacts p (facts_above (look_above handed) above) → TakesRow p.begun s
takes_row handed above s p stand kept has = takes p.begun s (λ columns values is. row_taken handed above columns values p (subst (λ (t : Statement). AllStand (t ∷ above)) is stand) kept has)
