-- Facts stay counted from line to line.
use Rattle.std.proofs.Common.{◌≡◌, ℕ, ◌+◌, ◌<◌, ◌≤◌, List, [], ◌∷◌, ◌++◌, Bool, true, false, Option, Some, refl, arith, length, map, sym, ap, ◌∙◌, subst, length-append, None, append-nil, cond, ◌||◌}
use Rattle.std.specs.Prelude.{nat_le, ◌&&◌, option_to_list, drop}
use Rattle.std.specs.Option.{option_map}
use Rattle.std.proofs.lemmas.List.{length-map, map-append}
use Rattle.std.proofs.lemmas.List.Elements.{filter-append}
use Rattle.std.proofs.lemmas.Bool.{false≢true, true≢false}
use Rattle.std.proofs.lemmas.Bool.Decides.{nat_tests}
use Rattle.rh_task_text.specs.declared.statement.Statement.{Statement}
use Rattle.rh_task_text.specs.declared.statement.Statement.TheVariants as text
use Rattle.rh_task_text.specs.declared.statement.SchemeText.{SchemeText}
use Rattle.rh_task_text.specs.declared.statement.SchemeText.TheVariants.{Plain, Replicate, Replay, Abft}
use Rattle.rh_check.specs.Users.{HandedChecks}
use Rattle.rh_task_text.specs.declared.form.Block.{Block}
use Rattle.rh_task_text.specs.declared.form.Block.TheVariants as opened
use Rattle.rh_task_text.specs.declared.form.Change.{Change}
use Rattle.rh_task_text.specs.declared.form.Change.TheVariants.{Stays}
use Rattle.rh_task_text.specs.declared.form.Standing.{Standing}
use Rattle.rh_rules.specs.declared.body.Step.{Step}
use Rattle.rh_rules.specs.declared.node.Node.{Node}
use Rattle.rh_rules.specs.Tables.{local, promise_number, named_shape}
use Rattle.rh_task_text.specs.declared.form.Standing.TheVariants.{InTask, Outside}
use Rattle.rh_task_text.specs.Blocks.{open_blocks, innermost, may_stand, lets_here, changed, change_by, checks_here, rows_here, rows_wanted}
use Rattle.rh_task_text.specs.Program.{IsLawful, AllStand}
use Rattle.rh_rules.specs.Facets.{facets, cells_of}
use Rattle.rh_rules.specs.declared.block.OpenBlock.{OpenBlock}
use Rattle.rh_rules.specs.declared.block.OpenBlock.TheVariants.{TaskBlock, GroupBlock, ScopeBlock}
use Rattle.rh_rules.specs.declared.shape.Shape.{Shape}
use Rattle.rh_rules.specs.declared.shape.NamedShape.{NamedShape}
use Rattle.rh_rules.specs.Bodies.{shapes_of}
use Rattle.rh_rules.specs.Lawful.{is_product, has_product, product_checks}
use Rattle.rh_sparse.specs.declared.matrix.Cell.{Cell}
use Rattle.rh_sparse.specs.Matrix.{MatrixData, matrix_data}
use Rattle.rh_rules.specs.Above.{Facts, facts_above, await_local, local_made, made_len, planned_scheme, checks_by, check_of, spec_asked, with_row}
use Rattle.rh_rules.specs.Rules.{is_node_line, AllKeep, is_bad_scheme, is_corrected, asks_product, is_second_product}
use Rattle.rh_planner.specs.Following.{after}
use Rattle.rh_planner.specs.Planned.{look_above}
use Rattle.rh_planner.specs.Sound.{AreOuter, none_open, group_open, scope_open, AreBlocks, outer_open, task_open, matrix_open, shapes_named, shape, AreClosed, IsOpenMatrix, AreShaped, IsIdle, nodes_open, AreCounted, IsIdleIn, IsPlannedScheme}
use Rattle.rh_planner.proofs.OpenBlocks.{outside, IsInTask, inside, IsInMatrix, in_matrix, Closed, closed_matrix, closed_task, closed_group, closed_scope, closed, idle, idle_in, none_waits, busy, outer_closed, outer_shaped, with_none}
use Rattle.rh_task_text.proofs.OpenBlocksClose.{rows_kept}
use Rattle.rh_task_text.specs.Forms.{form}
use Rattle.rh_task_text.specs.Statements.{kind_of}
use Rattle.std.specs.Prelude.{◌==◌, nat_lt}
use Rattle.rh_planner.proofs.Keeping.{Keeps, keeps}
use Rattle.rh_tables.proofs.Using.{neither}
use Rattle.rh_planner.proofs.RulesKept.{Rules, rules}
use Rattle.rh_rules.specs.Kept.{KeptCheck}
use Rattle.rh_planner.proofs.Grammar.{within}
use Rattle.rh_planner.proofs.Wholes.{facts_next}
use Rattle.rh_planner.proofs.Views.{IsLet, View, as_promise, as_matrix, as_row, as_task, as_finish, as_group, as_end, as_let, as_put, as_drop, view, IsCheck, as_check}
use Rattle.rh_planner.proofs.After.{with_promise, after_promise, with_matrix, after_matrix, with_begun, after_row, after_end_matrix, with_task, after_task, with_finish, after_finish, with_group, group_in_facts, after_group, with_closed, ended_task, with_end, after_end, after_end_group, ended_scope, with_scope_end, after_end_scope, with_drop, after_drop}
use Rattle.rh_planner.proofs.Lets.{with_local, after_let}
use Rattle.rh_planner.proofs.Puts.{with_put, after_put}
use Rattle.rh_planner.proofs.CheckLines.{with_check, after_check}

-- where no task and no matrix is open, each matrix has the shape of its line
closed_outside : (above : List Statement) (f : Facts) → AreCounted above f → AreOuter (open_blocks above) f.blocks → AreClosed f
closed_outside above f c outer = outer_closed (open_blocks above) f.blocks (rows_here above) f outer c.shaped

-- and so where a task is open
closed_in_task : (above : List Statement) (f : Facts) (around : List Block) → AreCounted above f → open_blocks above ≡ opened.TaskBlock ∷ around → AreClosed f
closed_in_task above f around c opens = subst (λ (bs : List Block). AreShaped (innermost bs) (rows_here above) f) opens c.shaped

-- which stays open
task_shaped : (above : List Statement) (s : Statement) (f : Facts) (around : List Block) → change_by s ≡ Stays → open_blocks above ≡ opened.TaskBlock ∷ around → AreClosed f → AreShaped (innermost (open_blocks (s ∷ above))) (rows_here (s ∷ above)) f
task_shaped above s f around change opens closed =
    let here : AreShaped (innermost (open_blocks above)) (rows_here (s ∷ above)) f = subst (λ (bs : List Block). AreShaped (innermost bs) (rows_here (s ∷ above)) f) (sym opens) closed in
    subst (λ (c : Change). AreShaped (innermost (changed c (open_blocks above))) (rows_here (s ∷ above)) f) (sym change) here

counted_promise : (above : List Statement) (f : Facts) (name : List ℕ) (len : ℕ) (temp : Bool) → AreCounted above f → AreOuter (open_blocks above) f.blocks → AreCounted (text.Promise name len temp ∷ above) (with_promise f name len temp)
counted_promise above f name len temp c outer =
    let h : IsIdle f = idle (open_blocks above) f.blocks f outer c.idle in
    let none : length f.locals ≡ 0 = ap length h.locals in
    let unchecked : length f.checks ≡ 0 = ap length h.checks in
    let shapes : AreClosed f = closed_outside above f c outer in
    record {
      blocks = c.blocks;
      counted = c.counted;
      room = c.room;
      inputs = c.inputs;
      locals = omega arith;
      idle = idle_in (open_blocks above) f.blocks (with_promise f name len temp) outer (record { inputs = h.inputs; locals = h.locals; drops = h.drops; steps = h.steps; checks = h.checks });
      scheme = c.scheme;
      checks = omega arith;
      shaped = outer_shaped (open_blocks above) f.blocks 0 (with_promise f name len temp) outer (record { none_open = shapes.none_open; shapes = shapes.shapes });
      few_matrices = c.few_matrices;
      one_product = c.one_product;
    }

scheme_planned : (scheme : SchemeText) → is_bad_scheme scheme ≡ false → IsPlannedScheme (planned_scheme scheme)
scheme_planned Plain good = tt
scheme_planned Replicate good = tt
scheme_planned (Replay limit) good =
    let (some, few) = neither (limit == 0) (nat_lt 8 limit) good in
    (grind (arith, nat_tests), grind (arith, nat_tests))
scheme_planned Abft good = tt

-- a task of any scheme opens its block
task_opens : (above : List Statement) (name : List ℕ) (scheme : SchemeText) (awaits : List (List ℕ)) (obs : List OpenBlock) → AreBlocks (opened.TaskBlock ∷ open_blocks above) obs → AreBlocks (open_blocks (text.Task name scheme awaits ∷ above)) obs
task_opens above name scheme awaits obs blocks = blocks

counted_task : (above : List Statement) (f : Facts) (name : List ℕ) (scheme : SchemeText) (awaits : List (List ℕ)) → IsPlannedScheme (planned_scheme scheme) → AreCounted above f → AreOuter (open_blocks above) f.blocks → f.count < 16384 → length awaits ≤ 16 → AreCounted (text.Task name scheme awaits ∷ above) (with_task f name scheme awaits)
counted_task above f name scheme awaits planned c outer room few =
    let inputs : length (with_task f name scheme awaits).inputs ≡ length awaits = length-map awaits (promise_number f.promises) in
    let locals : length (with_task f name scheme awaits).locals ≡ length awaits = length-map awaits (await_local f.promises) in
    record {
      blocks = task_open name (open_blocks above) f.blocks outer;
      counted = c.counted;
      room = omega arith;
      inputs = omega arith;
      locals = omega arith;
      idle = tt;
      scheme = planned;
      checks = omega arith;
      shaped = record { none_open = refl; shapes = (closed_outside above f c outer).shapes };
      few_matrices = c.few_matrices;
      one_product = λ scheme. omega arith;
    }

counted_finish : (above : List Statement) (f : Facts) (name : List ℕ) → AreCounted above f → AreOuter (open_blocks above) f.blocks → AreCounted (text.Finish name ∷ above) (with_finish f name)
counted_finish above f name c outer =
    let room : f.count + nodes_open f.blocks ≤ 16384 = c.room in
    record {
      blocks = outer_open (opened.ScopeBlock ∷ open_blocks above) (ScopeBlock name f.count ∷ f.blocks) (scope_open name f.count (open_blocks above) f.blocks outer);
      counted = c.counted;
      room = omega arith;
      inputs = omega arith;
      locals = omega arith;
      idle = record { inputs = refl; locals = refl; drops = refl; steps = refl; checks = refl };
      scheme = tt;
      checks = omega arith;
      shaped = record { none_open = refl; shapes = (closed_outside above f c outer).shapes };
      few_matrices = c.few_matrices;
      one_product = λ scheme. omega arith;
    }

-- a matrix is begun
counted_matrix : (above : List Statement) (f : Facts) (name : List ℕ) (rows cols : ℕ) → AreCounted above f → AreOuter (open_blocks above) f.blocks → length f.matrices < 256 → AreCounted (text.Matrix name rows cols ∷ above) (with_matrix f name rows cols)
counted_matrix above f name rows cols c outer few =
    let room : f.count + nodes_open f.blocks ≤ 16384 = c.room in
    let longer : length (f.matrices ++ named_shape name rows cols ∷ []) ≡ length f.matrices + 1 = length-append f.matrices (named_shape name rows cols ∷ []) in
    record {
      blocks = matrix_open rows cols (open_blocks above) f.blocks outer;
      counted = c.counted;
      room = omega arith;
      inputs = omega arith;
      locals = omega arith;
      idle = record { inputs = refl; locals = refl; drops = refl; steps = refl; checks = refl };
      scheme = tt;
      checks = omega arith;
      shaped = record {
        matrix = matrix_data cols [];
        here = refl;
        columns = refl;
        counted = refl;
        shapes = map-append (λ (m : NamedShape). m.shape) f.matrices (named_shape name rows cols ∷ []) ∙ ap (λ (l : List Shape). l ++ shape rows cols ∷ []) (closed_outside above f c outer).shapes;
      };
      few_matrices = omega arith;
      one_product = λ scheme. omega arith;
    }

-- and has one row more
row_more : (rows cols count : ℕ) (f : Facts) (row : List Cell) → IsOpenMatrix rows cols count f → IsOpenMatrix rows cols (count + 1) (with_begun f (option_map (with_row (Some row)) f.begun))
row_more rows cols count f row h =
    let longer : length (h.matrix.rows ++ row ∷ []) ≡ length h.matrix.rows + 1 = length-append h.matrix.rows (row ∷ []) in
    let before : length h.matrix.rows ≡ count = h.counted in
    record {
      matrix = matrix_data h.matrix.cols (h.matrix.rows ++ row ∷ []);
      here = ap (λ (o : Option MatrixData). option_map (with_row (Some row)) o) h.here;
      columns = h.columns;
      counted = omega arith;
      shapes = h.shapes;
    }

counted_row : (above : List Statement) (f : Facts) (columns values : List ℕ) → AreCounted above f → IsInMatrix (open_blocks above) f.blocks → AreCounted (text.Row columns values ∷ above) (with_begun f (option_map (with_row (Some (cells_of columns values))) f.begun))
counted_row above f columns values c in_one =
    let h : IsIdle f = subst (λ (l : List OpenBlock). IsIdleIn l f) in_one.block c.idle in
    let none : length f.locals ≡ 0 = ap length h.locals in
    let unchecked : length f.checks ≡ 0 = ap length h.checks in
    let now : Facts = with_begun f (option_map (with_row (Some (cells_of columns values))) f.begun) in
    let begun : IsOpenMatrix in_one.rows in_one.cols (rows_here above) f = subst (λ (bs : List Block). AreShaped (innermost bs) (rows_here above) f) in_one.opens c.shaped in
    record {
      blocks = c.blocks;
      counted = c.counted;
      room = c.room;
      inputs = c.inputs;
      locals = omega arith;
      idle = subst (λ (l : List OpenBlock). IsIdleIn l now) (sym in_one.block) (record { inputs = h.inputs; locals = h.locals; drops = h.drops; steps = h.steps; checks = h.checks });
      scheme = c.scheme;
      checks = omega arith;
      shaped = subst (λ (bs : List Block). AreShaped (innermost bs) (rows_here above + 1) now) (sym in_one.opens) (row_more in_one.rows in_one.cols (rows_here above) f (cells_of columns values) begun);
      few_matrices = c.few_matrices;
      one_product = c.one_product;
    }

one_more : (nodes : List Node) (node : Node) (count : ℕ) → length nodes ≡ count → length (nodes ++ node ∷ []) ≡ count + 1
one_more nodes node count same = length-append nodes (node ∷ []) ∙ ap (λ (n : ℕ). n + 1) same

counted_group : (above : List Statement) (f : Facts) (name : List ℕ) (awaits : List (List ℕ)) → AreCounted above f → AreOuter (open_blocks above) f.blocks → f.count < 16384 → AreCounted (text.Group name awaits ∷ above) (with_group f name awaits)
counted_group above f name awaits c outer room = record {
  blocks = outer_open (opened.ScopeBlock ∷ open_blocks above) (GroupBlock f.count ∷ f.blocks) (group_open f.count (open_blocks above) f.blocks outer);
  counted = one_more f.nodes (group_in_facts f name awaits) f.count c.counted;
  room = omega arith;
  inputs = omega arith;
  locals = omega arith;
  idle = record { inputs = refl; locals = refl; drops = refl; steps = refl; checks = refl };
  scheme = tt;
  checks = omega arith;
  shaped = record { none_open = refl; shapes = (closed_outside above f c outer).shapes };
  few_matrices = c.few_matrices;
  one_product = λ scheme. omega arith;
}

-- the blocks that an `end` leaves open
left_open : (above : List Statement) (block : Block) (around : List Block) (outer : List OpenBlock) → open_blocks above ≡ block ∷ around → AreOuter around outer → AreBlocks (open_blocks (text.End ∷ above)) outer
left_open above block around outer opens are = subst (λ (bs : List Block). AreBlocks (drop 1 bs) outer) (sym opens) (outer_open around outer are)

-- the number of nodes below an `end` is within the limit, no task is open, and the matrices have the shapes of their lines
counted_closed : (above : List Statement) (f : Facts) (block : Block) (around : List Block) (outer : List OpenBlock) → open_blocks above ≡ block ∷ around → AreOuter around outer → length f.nodes ≡ f.count → f.count ≤ 16384
    → shapes_named f.matrices ≡ shapes_of f.closed → length f.matrices ≤ 256 → AreCounted (text.End ∷ above) (with_none f outer f.closed None)
counted_closed above f block around outer opens are counted room shapes few =
    let none : nodes_open outer ≡ 0 = none_waits around outer are in
    record {
      blocks = left_open above block around outer opens are;
      counted = counted;
      room = omega arith;
      inputs = omega arith;
      locals = omega arith;
      idle = idle_in around outer (with_none f outer f.closed None) are (record { inputs = refl; locals = refl; drops = refl; steps = refl; checks = refl });
      scheme = tt;
      checks = omega arith;
      shaped = subst (λ (bs : List Block). AreShaped (innermost (drop 1 bs)) 0 (with_none f outer f.closed None)) (sym opens) (outer_shaped around outer 0 (with_none f outer f.closed None) are (record { none_open = refl; shapes = shapes }));
      few_matrices = few;
      one_product = λ scheme. omega arith;
    }

-- an `end` of what is no matrix closes none
none_ends : (f : Facts) → AreClosed f → shapes_named f.matrices ≡ shapes_of (f.closed ++ option_to_list f.begun)
none_ends f h = h.shapes ∙ ap (λ (l : List MatrixData). shapes_of l) (sym (append-nil f.closed)) ∙ ap (λ (o : Option MatrixData). shapes_of (f.closed ++ option_to_list o)) (sym h.none_open)

-- and that of a matrix comes when it has its rows
one_ends : (rows cols count : ℕ) (f : Facts) → count ≡ rows → IsOpenMatrix rows cols count f → shapes_named f.matrices ≡ shapes_of (f.closed ++ option_to_list f.begun)
one_ends rows cols count f full h =
    let many : rows ≡ length h.matrix.rows = sym (h.counted ∙ full) in
    h.shapes
    ∙ ap (λ (n : ℕ). shapes_of f.closed ++ shape n cols ∷ []) many
    ∙ ap (λ (n : ℕ). shapes_of f.closed ++ shape (length h.matrix.rows) n ∷ []) (sym h.columns)
    ∙ sym (map-append (λ (a : MatrixData). shape (length a.rows) a.cols) f.closed (h.matrix ∷ []))
    ∙ ap (λ (o : Option MatrixData). shapes_of (f.closed ++ option_to_list o)) (sym h.here)

counted_end : (above : List Statement) (f : Facts) (name : List ℕ) (around : List Block) (outer : List OpenBlock) → AreCounted above f → open_blocks above ≡ opened.TaskBlock ∷ around → f.blocks ≡ TaskBlock name ∷ outer → AreOuter around outer → AreCounted (text.End ∷ above) (with_end f name outer)
counted_end above f name around outer c opens block are =
    let one : nodes_open f.blocks ≡ 1 = ap nodes_open block in
    let room : f.count + nodes_open f.blocks ≤ 16384 = c.room in
    counted_closed above (with_end f name outer) opened.TaskBlock around outer opens are (one_more f.nodes (ended_task f name outer) f.count c.counted) (omega arith) (none_ends f (closed_in_task above f around c opens)) c.few_matrices

-- the shapes below a scope or group that is the innermost
closed_in_scope : (above : List Statement) (f : Facts) (around : List Block) → AreCounted above f → open_blocks above ≡ opened.ScopeBlock ∷ around → AreClosed f
closed_in_scope above f around c opens = subst (λ (bs : List Block). AreShaped (innermost bs) (rows_here above) f) opens c.shaped

counted_end_group : (above : List Statement) (f : Facts) (around : List Block) (outer : List OpenBlock) → AreCounted above f → open_blocks above ≡ opened.ScopeBlock ∷ around → AreOuter around outer → AreCounted (text.End ∷ above) (with_closed f outer)
counted_end_group above f around outer c opens are =
    let room : f.count + nodes_open f.blocks ≤ 16384 = c.room in
    counted_closed above (with_closed f outer) opened.ScopeBlock around outer opens are c.counted (omega arith) (none_ends f (closed_in_scope above f around c opens)) c.few_matrices

counted_end_scope : (above : List Statement) (f : Facts) (name : List ℕ) (first : ℕ) (around : List Block) (outer : List OpenBlock) → AreCounted above f → open_blocks above ≡ opened.ScopeBlock ∷ around → AreOuter around outer → f.count < 16384 → AreCounted (text.End ∷ above) (with_scope_end f name first outer)
counted_end_scope above f name first around outer c opens are room =
    counted_closed above (with_scope_end f name first outer) opened.ScopeBlock around outer opens are (one_more f.nodes (ended_scope f name first outer) f.count c.counted) (omega arith) (none_ends f (closed_in_scope above f around c opens)) c.few_matrices

counted_end_matrix : (above : List Statement) (f : Facts) (rows cols : ℕ) (around : List Block) (outer : List OpenBlock) → AreCounted above f → open_blocks above ≡ opened.MatrixBlock rows cols ∷ around → AreOuter around outer → rows_here above ≡ rows → AreCounted (text.End ∷ above) (with_closed f outer)
counted_end_matrix above f rows cols around outer c opens are full =
    let room : f.count + nodes_open f.blocks ≤ 16384 = c.room in
    let begun : IsOpenMatrix rows cols (rows_here above) f = subst (λ (bs : List Block). AreShaped (innermost bs) (rows_here above) f) opens c.shaped in
    counted_closed above (with_closed f outer) (opened.MatrixBlock rows cols) around outer opens are c.counted (omega arith) (one_ends rows cols (rows_here above) f full begun) c.few_matrices

-- a matrix that ends has all its rows
all_rows : (above : List Statement) (rows cols : ℕ) (around : List Block) → open_blocks above ≡ opened.MatrixBlock rows cols ∷ around → AllStand above → nat_le (rows_wanted (innermost (open_blocks above))) (rows_here above) ≡ true → rows_here above ≡ rows
all_rows above rows cols around opens stand enough =
    let wanted : rows_wanted (innermost (open_blocks above)) ≡ rows = ap (λ (bs : List Block). rows_wanted (innermost bs)) opens in
    let most : rows_here above ≤ rows_wanted (innermost (open_blocks above)) = rows_kept above stand in
    let least : rows_wanted (innermost (open_blocks above)) ≤ rows_here above = grind (arith, nat_tests) in
    omega arith

counted_let : (above : List Statement) (f : Facts) (s : Statement) (x : List ℕ) (steps : List Step) (task : IsInTask (open_blocks above) f.blocks) → AreCounted above f → IsLet s x → AreCounted (s ∷ above) (with_local f (local_made f.matrices f.locals s) steps)
counted_let above f s x steps task c is =
    let made : length (local_made f.matrices f.locals s) ≡ 1 = ap (λ (o : Option (List ℕ)). length (map (λ y. local y (made_len f.matrices f.locals s)) (option_to_list o))) is.made in
    let longer : length (f.locals ++ local_made f.matrices f.locals s) ≡ length f.locals + length (local_made f.matrices f.locals s) = length-append f.locals (local_made f.matrices f.locals s) in
    let lets : lets_here (s ∷ above) ≡ lets_here above + 1 = is.counted above in
    let before : length f.locals ≤ length f.inputs + lets_here above = c.locals in
    let same : checks_here (s ∷ above) ≡ checks_here above = is.checks above in
    let checked : length f.checks ≤ checks_here above = c.checks in
    let shapes : AreClosed f = closed_in_task above f task.around c task.opens in
    record {
      blocks = subst (λ (change : Change). AreBlocks (changed change (open_blocks above)) f.blocks) (sym is.change) c.blocks;
      counted = c.counted;
      room = c.room;
      inputs = c.inputs;
      locals = omega arith;
      idle = busy f.blocks task.outer task.name _ task.block;
      scheme = c.scheme;
      checks = omega arith;
      shaped = task_shaped above s (with_local f (local_made f.matrices f.locals s) steps) task.around is.change task.opens (record { none_open = shapes.none_open; shapes = shapes.shapes });
      few_matrices = c.few_matrices;
      one_product = c.one_product;
    }

counted_put : (above : List Statement) (f : Facts) (promise x : List ℕ) (when : Option (List ℕ)) → IsInTask (open_blocks above) f.blocks → AreCounted above f → AreCounted (text.Put promise x when ∷ above) (with_put f promise (text.Put promise x when))
counted_put above f promise x when task c = record {
  blocks = c.blocks;
  counted = c.counted;
  room = c.room;
  inputs = c.inputs;
  locals = c.locals;
  idle = busy f.blocks task.outer task.name _ task.block;
  scheme = c.scheme;
  checks = c.checks;
  shaped = task_shaped above (text.Put promise x when) (with_put f promise (text.Put promise x when)) task.around refl task.opens (record { none_open = (closed_in_task above f task.around c task.opens).none_open; shapes = (closed_in_task above f task.around c task.opens).shapes });
  few_matrices = c.few_matrices;
  one_product = c.one_product;
}

counted_drop : (above : List Statement) (f : Facts) (promise : List ℕ) → IsInTask (open_blocks above) f.blocks → AreCounted above f → AreCounted (text.DropAwait promise ∷ above) (with_drop f promise)
counted_drop above f promise task c = record {
  blocks = c.blocks;
  counted = c.counted;
  room = c.room;
  inputs = c.inputs;
  locals = c.locals;
  idle = busy f.blocks task.outer task.name _ task.block;
  scheme = c.scheme;
  checks = c.checks;
  shaped = task_shaped above (text.DropAwait promise) (with_drop f promise) task.around refl task.opens (record { none_open = (closed_in_task above f task.around c task.opens).none_open; shapes = (closed_in_task above f task.around c task.opens).shapes });
  few_matrices = c.few_matrices;
  one_product = c.one_product;
}

fewer_products : (b : Bool) (c : KeptCheck) (checks : List KeptCheck) → (has_product checks ≡ false → product_checks checks ≡ []) → (b || has_product checks) ≡ false → cond b (c ∷ product_checks checks) (product_checks checks) ≡ []
fewer_products true c checks rest e = absurd (true≢false e)
fewer_products false c checks rest e = rest e

no_product : (checks : List KeptCheck) → has_product checks ≡ false → product_checks checks ≡ []
no_product [] e = refl
no_product (c ∷ checks) e = fewer_products (is_product c.spec) c checks (no_product checks) e

product_room : (b : Bool) (c : KeptCheck) (checks : List KeptCheck) → (b ≡ true → product_checks checks ≡ []) → length (product_checks checks) ≤ 1 → length (product_checks checks ++ cond b (c ∷ []) []) ≤ 1
product_room true c checks none few = subst (λ (l : List KeptCheck). length (l ++ c ∷ []) ≤ 1) (sym (none refl)) (omega arith)
product_room false c checks none few = subst (λ (l : List KeptCheck). length l ≤ 1) (sym (append-nil (product_checks checks))) few

-- what a check asks is of a product or not, whatever the numbers
asked_alike : (s : Statement) (at matrix : ℕ) (ns : List ℕ) → is_product ((facets s).spec at matrix ns) ≡ asks_product s
unfolding facets
asked_alike (text.CheckProduct promise a q) at matrix ns = refl
asked_alike s at matrix ns = refl

no_second : (a b c : Bool) → (a && (b && c)) ≡ false → a ≡ true → b ≡ true → c ≡ false
no_second true true c e h g = e
no_second true false c e h g = absurd (false≢true g)
no_second false b c e h g = absurd (false≢true h)

-- a task with correction has one check of a product at most
one_product : (f : Facts) (s : Statement) (c : KeptCheck) → is_product c.spec ≡ asks_product s → is_second_product f s ≡ false → length (product_checks f.checks) ≤ 1 → is_corrected f.scheme ≡ true → length (product_checks (f.checks ++ c ∷ [])) ≤ 1
one_product f s c alike second few corrected =
    let none : is_product c.spec ≡ true → product_checks f.checks ≡ [] = λ is. no_product f.checks (no_second (asks_product s) (is_corrected f.scheme) (has_product f.checks) second (sym alike ∙ is) corrected) in
    subst (λ (l : List KeptCheck). length l ≤ 1) (sym (filter-append (λ (k : KeptCheck). is_product k.spec) f.checks (c ∷ []))) (product_room (is_product c.spec) c f.checks none few)

counted_check : (above : List Statement) (f : Facts) (s : Statement) (q : List ℕ) (check : KeptCheck) → IsInTask (open_blocks above) f.blocks → AreCounted above f → IsCheck s q → is_product check.spec ≡ asks_product s → is_second_product f s ≡ false → AreCounted (s ∷ above) (with_check f (check ∷ []))
counted_check above f s q check task c is alike second =
    let longer : length (f.checks ++ check ∷ []) ≡ length f.checks + 1 = length-append f.checks (check ∷ []) in
    let lets : lets_here (s ∷ above) ≡ lets_here above = is.lets above in
    let more : checks_here (s ∷ above) ≡ checks_here above + 1 = is.counted above in
    let before : length f.locals ≤ length f.inputs + lets_here above = c.locals in
    let checked : length f.checks ≤ checks_here above = c.checks in
    let shapes : AreClosed f = closed_in_task above f task.around c task.opens in
    record {
      blocks = subst (λ (change : Change). AreBlocks (changed change (open_blocks above)) f.blocks) (sym is.change) c.blocks;
      counted = c.counted;
      room = c.room;
      inputs = c.inputs;
      locals = omega arith;
      idle = busy f.blocks task.outer task.name _ task.block;
      scheme = c.scheme;
      checks = omega arith;
      shaped = task_shaped above s (with_check f (check ∷ [])) task.around is.change task.opens (record { none_open = shapes.none_open; shapes = shapes.shapes });
      few_matrices = c.few_matrices;
      one_product = λ scheme. one_product f s check alike second (c.one_product scheme) scheme;
    }

put_names : (promise x : List ℕ) (when : Option (List ℕ)) → (facets (text.Put promise x when)).put_to ≡ Some promise
unfolding facets
put_names promise x when = refl

no_more_than : (count : ℕ) → nat_le 16384 count ≡ false → count < 16384
no_more_than count e = grind (arith, nat_tests)

scope_room : (f : Facts) (name : List ℕ) (first : ℕ) (outer : List OpenBlock) → f.blocks ≡ ScopeBlock name first ∷ outer → Rules f text.End → f.count < 16384
scope_room f name first outer block r = no_more_than f.count (sym (ap (λ (l : List OpenBlock). is_node_line l text.End && nat_le 16384 f.count) block) ∙ r.node_room)

few_matrices : (count : ℕ) → nat_le 256 count ≡ false → count < 256
few_matrices count e = grind (arith, nat_tests)

-- room for one more matrix
matrix_room : (f : Facts) (name : List ℕ) (rows cols : ℕ) → Rules f (text.Matrix name rows cols) → length f.matrices < 256
unfolding facets
matrix_room f name rows cols r = few_matrices (length f.matrices) r.matrix_room

-- an `end`, by the block that it closes
by_closed : (handed : HandedChecks) (above : List Statement) (f : Facts) → Closed (open_blocks above) f.blocks → AllStand above → AreCounted above f → IsLawful above text.End → Rules f text.End → AreCounted (text.End ∷ above) (after (look_above handed) f text.End)
by_closed handed above f (closed_matrix rows cols around outer opens block are) stand c l r =
    subst (AreCounted (text.End ∷ above)) (sym (after_end_matrix (look_above handed) f outer block)) (counted_end_matrix above f rows cols around outer c opens are (all_rows above rows cols around opens stand l.placed.1))
by_closed handed above f (closed_task name around outer opens block are) stand c l r = subst (AreCounted (text.End ∷ above)) (sym (after_end (look_above handed) f name outer block)) (counted_end above f name around outer c opens block are)
by_closed handed above f (closed_group number around outer opens block are) stand c l r = subst (AreCounted (text.End ∷ above)) (sym (after_end_group (look_above handed) f number outer block)) (counted_end_group above f around outer c opens are)
by_closed handed above f (closed_scope name first around outer opens block are) stand c l r = subst (AreCounted (text.End ∷ above)) (sym (after_end_scope (look_above handed) f name first outer block)) (counted_end_scope above f name first around outer c opens are (scope_room f name first outer block r))

good_scheme : (f : Facts) (name : List ℕ) (scheme : SchemeText) (awaits : List (List ℕ)) → Rules f (text.Task name scheme awaits) → is_bad_scheme scheme ≡ false
unfolding facets
good_scheme f name scheme awaits r = r.schemed

-- a task of any scheme stands outside of tasks
pub task_outside : (name : List ℕ) (scheme : SchemeText) (awaits : List (List ℕ)) → (form (kind_of (text.Task name scheme awaits))).standing ≡ Outside
task_outside name Plain awaits = refl
task_outside name Replicate awaits = refl
task_outside name (Replay limit) awaits = refl
task_outside name Abft awaits = refl

-- the check that a line adds
abbrev pub check_added : HandedChecks → Facts → Statement → List ℕ → KeptCheck
check_added handed f s q = check_of handed (promise_number f.promises q) (spec_asked handed f.matrices f.locals s)

pub one_check : (handed : HandedChecks) (f : Facts) (s : Statement) (q : List ℕ) → (facets s).checked ≡ Some q → checks_by (look_above handed) f.promises f.matrices f.locals s ≡ check_added handed f s q ∷ []
one_check handed f s q e = ap (λ (o : Option (List ℕ)). map (λ x. check_added handed f s x) (option_to_list o)) e

by_view : (handed : HandedChecks) (above : List Statement) (f : Facts) (s : Statement) → View s → AllStand above → AreCounted above f → IsLawful above s → Rules f s → AreCounted (s ∷ above) (after (look_above handed) f s)
by_view handed above f s (as_promise name len temp) stand c l r =
    subst (AreCounted (text.Promise name len temp ∷ above)) (sym (after_promise (look_above handed) f name len temp)) (counted_promise above f name len temp c (outside (open_blocks above) f.blocks c.blocks l.placed.0))
by_view handed above f s (as_matrix name rows cols) stand c l r =
    subst (AreCounted (text.Matrix name rows cols ∷ above)) (sym (after_matrix (look_above handed) f name rows cols)) (counted_matrix above f name rows cols c (outside (open_blocks above) f.blocks c.blocks l.placed.0) (matrix_room f name rows cols r))
by_view handed above f s (as_row columns values) stand c l r =
    subst (AreCounted (text.Row columns values ∷ above)) (sym (after_row (look_above handed) f columns values)) (counted_row above f columns values c (in_matrix (open_blocks above) f.blocks c.blocks l.placed.0))
by_view handed above f s (as_task name scheme awaits) stand c l r =
    let place : may_stand Outside (innermost (open_blocks above)) ≡ true = subst (λ (standing : Standing). may_stand standing (innermost (open_blocks above)) ≡ true) (task_outside name scheme awaits) l.placed.0 in
    subst (AreCounted (text.Task name scheme awaits ∷ above)) (sym (after_task handed f name scheme awaits))
    (counted_task above f name scheme awaits (scheme_planned scheme (good_scheme f name scheme awaits r)) c (outside (open_blocks above) f.blocks c.blocks place) (no_more_than f.count r.node_room) (within above (text.Task name scheme awaits) l))
by_view handed above f s (as_finish name) stand c l r =
    subst (AreCounted (text.Finish name ∷ above)) (sym (after_finish (look_above handed) f name)) (counted_finish above f name c (outside (open_blocks above) f.blocks c.blocks l.placed.0))
by_view handed above f s (as_group name awaits) stand c l r =
    subst (AreCounted (text.Group name awaits ∷ above)) (sym (after_group handed f name awaits)) (counted_group above f name awaits c (outside (open_blocks above) f.blocks c.blocks l.placed.0) (no_more_than f.count r.node_room))
by_view handed above f s as_end stand c l r = by_closed handed above f (closed (open_blocks above) f.blocks _ _ c.blocks l.limited) stand c l r
by_view handed above f s (as_let t x is) stand c l r =
    let here : may_stand InTask (innermost (open_blocks above)) ≡ true = subst (λ (standing : Standing). may_stand standing (innermost (open_blocks above)) ≡ true) is.standing l.placed.0 in
    subst (AreCounted (s ∷ above)) (sym (after_let (look_above handed) f s x is.made)) (counted_let above f s x _ (inside (open_blocks above) f.blocks c.blocks here) c is)
by_view handed above f s (as_put promise x when) stand c l r =
    subst (AreCounted (text.Put promise x when ∷ above)) (sym (after_put (look_above handed) f (text.Put promise x when) promise (put_names promise x when))) (counted_put above f promise x when (inside (open_blocks above) f.blocks c.blocks l.placed.0) c)
by_view handed above f s (as_drop promise) stand c l r =
    subst (AreCounted (text.DropAwait promise ∷ above)) (sym (after_drop (look_above handed) f promise)) (counted_drop above f promise (inside (open_blocks above) f.blocks c.blocks l.placed.0) c)
by_view handed above f s (as_check t q is) stand c l r =
    let here : may_stand InTask (innermost (open_blocks above)) ≡ true = subst (λ (standing : Standing). may_stand standing (innermost (open_blocks above)) ≡ true) is.standing l.placed.0 in
    let more : AreCounted (s ∷ above) (with_check f (check_added handed f s q ∷ [])) =
    counted_check above f s q (check_added handed f s q) (inside (open_blocks above) f.blocks c.blocks here) c is (asked_alike s _ _ _) r.one_product in
    subst (AreCounted (s ∷ above)) (sym (after_check (look_above handed) f s q is.checked)) (subst (λ (l : List KeptCheck). AreCounted (s ∷ above) (with_check f l)) (sym (one_check handed f s q is.checked)) more)

pub counted_next : (handed : HandedChecks) (above : List Statement) (f : Facts) (s : Statement) → AllStand above → AreCounted above f → IsLawful above s → Keeps (look_above handed) f s → AreCounted (s ∷ above) (after (look_above handed) f s)
counted_next handed above f s stand c l k = by_view handed above f s (view s) stand c l (rules handed f s k)

-- where all lines keep the grammar and the rules, facts are counted
pub counted : (handed : HandedChecks) (above : List Statement) → AllStand above → AllKeep (look_above handed) above → AreCounted above (facts_above (look_above handed) above)
counted handed [] stand kept = record {
  blocks = outer_open [] [] none_open;
  counted = refl;
  room = omega arith;
  inputs = omega arith;
  locals = omega arith;
  idle = record { inputs = refl; locals = refl; drops = refl; steps = refl; checks = refl };
  scheme = tt;
  checks = omega arith;
  shaped = record { none_open = refl; shapes = refl };
  few_matrices = omega arith;
  one_product = λ scheme. omega arith;
}
counted handed (s ∷ above) stand kept =
    let before = counted handed above stand.1 kept.1 in
    subst (AreCounted (s ∷ above)) (sym (facts_next (look_above handed) above s)) (counted_next handed above (facts_above (look_above handed) above) s stand.1 before stand.0 (keeps (look_above handed) (facts_above (look_above handed) above) s kept.0))
