-- Plans say their texts: line by line, from what planning keeps of the lines above.
use Rattle.std.proofs.Common.{◌≡◌, ℕ, suc, ◌+◌, ◌-◌, List, [], ◌∷◌, ◌++◌, Bool, true, false, cond, not, ◌||◌, Option, Some, None, map, length, reverse, refl, arith, ap, sym, ◌∙◌, subst, append_assoc, append-nil, length-append}
use Rattle.std.specs.Prelude.{IsSomeAnd, slice_get, slice_index, option_to_list, filter, drop}
use Rattle.std.specs.List.{flat_map, list_any, range_with_len}
use Rattle.std.specs.Option.{option_map}
use Rattle.std.specs.Str.{bytes_eq}
use Rattle.std.proofs.lemmas.Bool.{false≢true, and_parts, or_left, or_right}
use Rattle.std.proofs.lemmas.Grind.{flat_map-append}
use Rattle.std.proofs.lemmas.List.{map-append, reverse-append, reverse-reverse, drop-map}
use Rattle.std.proofs.Math.Seq.{drop-append_seam}
use Rattle.std.proofs.lemmas.List.Folds.{list_any-append}
use Rattle.std.proofs.lemmas.List.Elements.{filter-append}
use Rattle.std.proofs.lemmas.Slice.Eq.{bytes_eq-Decides}
use Rattle.rh_task_text.specs.declared.form.Block.{Block}
use Rattle.rh_task_text.specs.declared.statement.Item.{Item}
use Rattle.rh_task_text.specs.declared.statement.Statement.{Statement}
use Rattle.rh_task_text.specs.declared.statement.Statement.TheVariants as text
use Rattle.rh_task_text.specs.Blocks.{open_blocks, innermost, may_stand, rows_here}
use Rattle.rh_task_text.specs.declared.form.Standing.{Standing}
use Rattle.rh_task_text.specs.declared.form.Standing.TheVariants.{InTask, Outside}
use Rattle.rh_task_text.specs.Program.{AllStand, IsLawful, upward}
use Rattle.rh_sparse.specs.declared.matrix.Cell.{Cell}
use Rattle.rh_sparse.specs.Matrix.{MatrixData, matrix_data}
use Rattle.rh_rules.specs.declared.shape.Shape.{Shape}
use Rattle.rh_rules.specs.declared.shape.NamedShape.{NamedShape}
use Rattle.rh_rules.specs.declared.body.Step.{Step}
use Rattle.rh_rules.specs.declared.node.Node.{Node}
use Rattle.rh_rules.specs.declared.node.PlannedPromise.{PlannedPromise}
use Rattle.rh_rules.specs.Tables.{is_among, LocalName, putting, declared_promise, if_any, place_of, number_of, is_promise, promise_number, local, is_in, named_shape}
use Rattle.rh_rules.specs.Facets.{facets, cells_of}
use Rattle.rh_rules.specs.declared.block.OpenBlock.{OpenBlock}
use Rattle.rh_rules.specs.declared.block.OpenBlock.TheVariants.{TaskBlock, MatrixBlock, GroupBlock, ScopeBlock}
use Rattle.rh_rules.specs.Above.{Facts, facts_above, group_in, await_local, local_made, made_len, matrix_used, with_row, numbers_used, put_step, drop_step, planned_scheme, lets_of, checks_by, check_of, spec_asked}
use Rattle.rh_rules.specs.Rules.{AllKeep, is_put_here, is_unanswered}
use Rattle.rh_planner.specs.Planned.{look_above}
use Rattle.rh_planner.specs.Following.{after}
use Rattle.rh_planner.specs.Sound.{AreOuter, none_open, group_open, scope_open, AreCounted, AreClosed, AreShaped, shapes_named, shape}
use Rattle.rh_planner.proofs.After.{with_promise, after_promise, with_task, after_task, with_finish, after_finish, with_group, group_in_facts, after_group, with_matrix, after_matrix, with_begun, after_row, with_closed, ended_task, with_end, after_end, after_end_matrix, after_end_group, ended_scope, with_scope_end, after_end_scope, with_drop, after_drop}
use Rattle.rh_planner.proofs.OpenBlocks.{outside, inside, in_matrix, Closed, closed_task, closed_matrix, closed_group, closed_scope, closed, outer_closed, none_closed}
use Rattle.rh_planner.proofs.Counting.{counted, task_outside}
use Rattle.rh_planner.proofs.Keeping.{Keeps, keeps}
use Rattle.rh_planner.proofs.Lets.{with_local, after_let}
use Rattle.rh_planner.proofs.Puts.{with_put, after_put}
use Rattle.rh_tables.proofs.Using.{not_false}
use Rattle.rh_planner.proofs.Views.{View, as_promise, as_matrix, as_row, as_task, as_finish, as_group, as_end, as_let, as_put, as_drop, view, IsCheck, as_check}
use Rattle.rh_tables.proofs.FirstPlaces.{is_some_position}
use Rattle.rh_planner.proofs.Wholes.{facts_next}
use Rattle.rh_plan.specs.PlanTexts.{AreNamed, SaysStep, made_by, SayBody, MatrixLines, matrix_lines, matrix_names, SayRows, IsMatrixOf, AreMatricesOf, TaskLines, lines_of, IsTaskOf, IsGroupOf, IsScopeOf, Parts, no_parts, a_promise, a_matrix, a_task, a_scope, a_group, lines_in, nodes_in, matrices_in, SayParts, is_declaration, Declares, DeclareAll, names_of, PlansSayTheirTexts, SaysCheck, SayChecks, is_check, check_lines, step_lines}
use Rattle.rh_plan.proofs.SaidParts.{parts_more, AreInside, inside_none, IsInScope, IsInGroup, AreSaid, said_more, said_part}
use Rattle.rh_task_text.specs.declared.statement.SchemeText.{SchemeText}
use Rattle.rh_check.specs.Users.{HandedChecks}
use Rattle.rh_rules.specs.Kept.{KeptCheck}
use Rattle.rh_rules.specs.Limits.{IsWithinLimits}
use Rattle.rh_rules.specs.Bodies.{promises_put, shapes_of}
use Rattle.rh_planner.proofs.CheckLines.{with_check, after_check}
use Rattle.rh_planner.proofs.Grammar.{within}
use Rattle.rh_planner.proofs.RulesKept.{Rules, rules}
use Rattle.rh_plan.proofs.SaidNames.{named, promise_named, shape_names, promises_named, checks_last, body_last, cells_said, rows_last, matrices_last, last_alike, declare_last, given_names, given_lines}
use Rattle.rh_plan.proofs.SaidForms.{let_said, put_says, put_known, put_steps, named_there, await_number, drop_known, check_said}

-- ---- what is said so far

-- the lines up to here, where no task and no matrix is open
pub record AreOutside (us : HandedChecks) (blocks : List OpenBlock) (f : Facts) (lines : List Statement) (made : List MatrixLines) : Type 0 where
  pub named : shape_names f.matrices ≡ matrix_names made
  pub said : AreSaid us (shape_names f.matrices) (names_of f.promises) f.nodes blocks lines (length f.nodes) made

-- the lines before the open task, and its own
pub record IsOpenTask (us : HandedChecks) (name : List ℕ) (outer : List OpenBlock) (f : Facts) (lines : List Statement) (made : List MatrixLines) : Type 0 where
  pub before : List Statement
  pub scheme : SchemeText
  pub awaits : List (List ℕ)
  pub body : List Statement
  pub whole : lines ≡ before ++ text.Task name scheme awaits ∷ body
  pub planned : f.scheme ≡ planned_scheme scheme
  pub outside : AreOutside us outer f before made
  pub inputs : AreNamed (names_of f.promises) f.inputs awaits
  pub steps : SayBody (shape_names f.matrices) (names_of f.promises) awaits (step_lines body) f.steps
  pub checks : SayChecks us (shape_names f.matrices) (names_of f.promises) awaits (check_lines body) f.checks
  pub locals : map (λ l. l.name) f.locals ≡ awaits ++ flat_map made_by body

-- the lines before the matrix that is begun, and its own
pub record IsBegunMatrix (us : HandedChecks) (outer : List OpenBlock) (f : Facts) (lines : List Statement) (made : List MatrixLines) : Type 0 where
  pub before : List Statement
  pub name : List ℕ
  pub rows : ℕ
  pub cols : ℕ
  pub body : List Statement
  pub whole : lines ≡ before ++ text.Matrix name rows cols ∷ body
  pub earlier : List NamedShape
  pub last : f.matrices ≡ earlier ++ named_shape name rows cols ∷ []
  pub named : shape_names earlier ≡ matrix_names made
  pub said : AreSaid us (shape_names f.matrices) (names_of f.promises) f.nodes outer before (length f.nodes) made
  pub matrix : MatrixData
  pub here : f.begun ≡ Some matrix
  pub told : SayRows body matrix.rows

abbrev AreLinesSaid : HandedChecks → Facts → List OpenBlock → List Statement → List MatrixLines → Type 0
AreLinesSaid us f [] lines made = AreOutside us [] f lines made
AreLinesSaid us f (TaskBlock name ∷ outer) lines made = IsOpenTask us name outer f lines made
AreLinesSaid us f (MatrixBlock ∷ outer) lines made = IsBegunMatrix us outer f lines made
AreLinesSaid us f (GroupBlock number ∷ outer) lines made = AreOutside us (GroupBlock number ∷ outer) f lines made
AreLinesSaid us f (ScopeBlock name first ∷ outer) lines made = AreOutside us (ScopeBlock name first ∷ outer) f lines made

pub record IsSaid (us : HandedChecks) (above : List Statement) (f : Facts) : Type 0 where
  pub declarations : DeclareAll (filter is_declaration (reverse above)) f.promises
  pub made : List MatrixLines
  pub matrices : AreMatricesOf made f.closed
  pub lines : AreLinesSaid us f f.blocks (reverse above) made

-- where no task and no matrix is open, all lines are those of parts
outer_said : (us : HandedChecks) (bs : List Block) (obs : List OpenBlock) (f : Facts) (lines : List Statement) (made : List MatrixLines) → AreOuter bs obs → AreLinesSaid us f obs lines made → AreOutside us obs f lines made
outer_said us bs obs f lines made none_open said = said
outer_said us bs obs f lines made (group_open number cs os outer) said = said
outer_said us bs obs f lines made (scope_open name first cs os outer) said = said

said_outer : (us : HandedChecks) (bs : List Block) (obs : List OpenBlock) (f : Facts) (lines : List Statement) (made : List MatrixLines) → AreOuter bs obs → AreOutside us obs f lines made → AreLinesSaid us f obs lines made
said_outer us bs obs f lines made none_open said = said
said_outer us bs obs f lines made (group_open number cs os outer) said = said
said_outer us bs obs f lines made (scope_open name first cs os outer) said = said

said_same : (us : HandedChecks) (ms rs ps qs : List (List ℕ)) (ns ks : List Node) (blocks : List OpenBlock) (ls : List Statement) (v w : ℕ) (made : List MatrixLines) → ms ≡ rs → ps ≡ qs → ns ≡ ks → v ≡ w → AreSaid us ms ps ns blocks ls v made → AreSaid us rs qs ks blocks ls w made
said_same us ms rs ps qs ns ks blocks ls v w made a b c d said =
    subst (λ (n : ℕ). AreSaid us rs qs ks blocks ls n made) d
    (subst (λ (l : List Node). AreSaid us rs qs l blocks ls v made) c
    (subst (λ (l : List (List ℕ)). AreSaid us rs l ns blocks ls v made) b
    (subst (λ (l : List (List ℕ)). AreSaid us l ps ns blocks ls v made) a said)))

-- more matrices, promises and nodes
said_grown : (us : HandedChecks) (ms more rs ps names qs : List (List ℕ)) (ns others ks : List Node) (blocks : List OpenBlock) (ls : List Statement) (v w : ℕ) (made : List MatrixLines) → ms ++ more ≡ rs → ps ++ names ≡ qs → ns ++ others ≡ ks → v ≡ w → AreSaid us ms ps ns blocks ls v made → AreSaid us rs qs ks blocks ls w made
said_grown us ms more rs ps names qs ns others ks blocks ls v w made a b c d said = said_same us (ms ++ more) rs (ps ++ names) qs (ns ++ others) ks blocks ls v w made a b c d (said_more us ms more ps names ns others blocks ls v made said)

-- one more part, which ends with the last of the lines
said_pushed : (us : HandedChecks) (ms ps : List (List ℕ)) (ns : List Node) (blocks : List OpenBlock) (ls ks : List Statement) (v w : ℕ) (made : List MatrixLines) (part : Parts) → ls ++ lines_in part ≡ ks → v + nodes_in part ≡ w → AreSaid us ms ps ns blocks ls v made → SayParts us ms ps ns (group_in blocks) v part
    → AreSaid us ms ps ns blocks ks w (made ++ matrices_in part)
said_pushed us ms ps ns blocks ls ks v w made part lines next said say =
    subst (λ (n : ℕ). AreSaid us ms ps ns blocks ks n (made ++ matrices_in part)) next
    (subst (λ (l : List Statement). AreSaid us ms ps ns blocks l (v + nodes_in part) (made ++ matrices_in part)) lines (said_part us ms ps ns blocks ls v made part said say))

last_line : (above : List Statement) (s : Statement) → reverse above ++ s ∷ [] ≡ reverse (s ∷ above)
last_line above s = sym (reverse-append (s ∷ []) above)

filter_last : (p : Statement → Bool) (above : List Statement) (s : Statement) → filter p (reverse (s ∷ above)) ≡ filter p (reverse above) ++ filter p (s ∷ [])
filter_last p above s = ap (filter p) (reverse-append (s ∷ []) above) ∙ filter-append p (reverse above) (s ∷ [])

-- a line that declares a promise
declared_more : (above : List Statement) (ps : List PlannedPromise) (s : Statement) (p : PlannedPromise) → DeclareAll (filter is_declaration (reverse above)) ps → is_declaration s ≡ true → Declares s p → DeclareAll (filter is_declaration (reverse (s ∷ above))) (ps ++ p ∷ [])
declared_more above ps s p all here one =
    let alone : filter is_declaration (s ∷ []) ≡ s ∷ [] = ap (λ (b : Bool). cond b (s ∷ []) []) here in
    subst (λ (l : List Statement). DeclareAll l (ps ++ p ∷ [])) (sym (filter_last is_declaration above s ∙ ap (λ (l : List Statement). filter is_declaration (reverse above) ++ l) alone))
    (declare_last (filter is_declaration (reverse above)) ps s p all one)

-- and one that declares none
declarations_stay : (above : List Statement) (ps : List PlannedPromise) (s : Statement) → DeclareAll (filter is_declaration (reverse above)) ps → is_declaration s ≡ false → DeclareAll (filter is_declaration (reverse (s ∷ above))) ps
declarations_stay above ps s all other =
    let none : filter is_declaration (s ∷ []) ≡ [] = ap (λ (b : Bool). cond b (s ∷ []) []) other in
    subst (λ (l : List Statement). DeclareAll l ps)
    (sym (filter_last is_declaration above s ∙ ap (λ (l : List Statement). filter is_declaration (reverse above) ++ l) none ∙ append-nil (filter is_declaration (reverse above)))) all

more_names : (ps : List PlannedPromise) (p : PlannedPromise) → names_of ps ++ p.name ∷ [] ≡ names_of (ps ++ p ∷ [])
more_names ps p = sym (map-append (λ (q : PlannedPromise). q.name) ps (p ∷ []))

more_shapes : (ms : List NamedShape) (m : NamedShape) → shape_names ms ++ m.name ∷ [] ≡ shape_names (ms ++ m ∷ [])
more_shapes ms m = sym (map-append (λ (q : NamedShape). q.name) ms (m ∷ []))

-- a `promise` line, outside of tasks
said_promise : (us : HandedChecks) (above : List Statement) (f : Facts) (name : List ℕ) (len : ℕ) (temp : Bool) (bs : List Block) → IsSaid us above f → AreOuter bs f.blocks → IsSaid us (text.Promise name len temp ∷ above) (with_promise f name len temp)
said_promise us above f name len temp bs said outer =
    let ms = shape_names f.matrices in
    let p : PlannedPromise = declared_promise name len temp false in
    let ps = names_of (f.promises ++ p ∷ []) in
    let part : Parts = a_promise name len temp no_parts in
    let before = outer_said us bs f.blocks f (reverse above) said.made outer said.lines in
    let same : length f.nodes + 0 ≡ length f.nodes = omega arith in
    let grown = said_grown us ms [] ms (names_of f.promises) (name ∷ []) ps f.nodes [] f.nodes f.blocks (reverse above) (length f.nodes) (length f.nodes) said.made (append-nil ms) (more_names f.promises p) (append-nil f.nodes) refl before.said in
    let all = said_pushed us ms ps f.nodes f.blocks (reverse above) (reverse (text.Promise name len temp ∷ above)) (length f.nodes) (length f.nodes) said.made part (last_line above (text.Promise name len temp)) same grown tt in
    record {
      declarations = declared_more above f.promises (text.Promise name len temp) p said.declarations refl (refl, refl, refl, refl);
      made = said.made ++ [];
      matrices = subst (λ (l : List MatrixLines). AreMatricesOf l f.closed) (sym (append-nil said.made)) said.matrices;
      lines = said_outer us bs f.blocks (with_promise f name len temp) (reverse (text.Promise name len temp ∷ above)) (said.made ++ []) outer (record { named = before.named ∙ ap matrix_names (sym (append-nil said.made)); said = all });
    }

task_awaits : (f : Facts) (name : List ℕ) (scheme : SchemeText) (awaits : List (List ℕ)) → Rules f (text.Task name scheme awaits) → list_any (λ q. not (is_promise f.promises q)) awaits ≡ false
unfolding facets
task_awaits f name scheme awaits r = r.awaited

group_awaits : (f : Facts) (name : List ℕ) (awaits : List (List ℕ)) → Rules f (text.Group name awaits) → list_any (λ q. not (is_promise f.promises q)) awaits ≡ false
unfolding facets
group_awaits f name awaits r = r.awaited

await_names : (ps : List PlannedPromise) (awaits : List (List ℕ)) → map (λ l. l.name) (map (await_local ps) awaits) ≡ awaits
await_names ps [] = refl
await_names ps (q ∷ awaits) = ap (λ (l : List (List ℕ)). q ∷ l) (await_names ps awaits)

said_task : (us : HandedChecks) (above : List Statement) (f : Facts) (name : List ℕ) (scheme : SchemeText) (awaits : List (List ℕ)) (bs : List Block) → IsSaid us above f → AreOuter bs f.blocks → Rules f (text.Task name scheme awaits) → IsSaid us (text.Task name scheme awaits ∷ above) (with_task f name scheme awaits)
said_task us above f name scheme awaits bs said outer r =
    let before = outer_said us bs f.blocks f (reverse above) said.made outer said.lines in
    record {
      declarations = declarations_stay above f.promises (text.Task name scheme awaits) said.declarations refl;
      made = said.made;
      matrices = said.matrices;
      lines = record {
        before = reverse above;
        scheme = scheme;
        awaits = awaits;
        body = [];
        whole = reverse-append (text.Task name scheme awaits ∷ []) above;
        planned = refl;
        outside = record { named = before.named; said = before.said };
        inputs = promises_named f.promises awaits (task_awaits f name scheme awaits r);
        steps = tt;
        checks = tt;
        locals = await_names f.promises awaits ∙ sym (append-nil awaits);
      };
    }

-- a `matrix` line
said_matrix : (us : HandedChecks) (above : List Statement) (f : Facts) (name : List ℕ) (rows cols : ℕ) (bs : List Block) → IsSaid us above f → AreOuter bs f.blocks → IsSaid us (text.Matrix name rows cols ∷ above) (with_matrix f name rows cols)
said_matrix us above f name rows cols bs said outer =
    let ms = shape_names f.matrices in
    let m : NamedShape = named_shape name rows cols in
    let before = outer_said us bs f.blocks f (reverse above) said.made outer said.lines in
    record {
      declarations = declarations_stay above f.promises (text.Matrix name rows cols) said.declarations refl;
      made = said.made;
      matrices = said.matrices;
      lines = record {
        before = reverse above;
        name = name;
        rows = rows;
        cols = cols;
        body = [];
        whole = reverse-append (text.Matrix name rows cols ∷ []) above;
        earlier = f.matrices;
        last = refl;
        named = before.named;
        said = said_grown us ms (name ∷ []) (shape_names (f.matrices ++ m ∷ [])) (names_of f.promises) [] (names_of f.promises) f.nodes [] f.nodes f.blocks (reverse above) (length f.nodes) (length f.nodes) said.made
            (more_shapes f.matrices m) (append-nil (names_of f.promises)) (append-nil f.nodes) refl before.said;
        matrix = matrix_data cols [];
        here = refl;
        told = tt;
      };
    }

-- the lines of the matrix that is begun
begun_matrix : (us : HandedChecks) (above : List Statement) (f : Facts) (outer : List OpenBlock) (said : IsSaid us above f) → f.blocks ≡ MatrixBlock ∷ outer → IsBegunMatrix us outer f (reverse above) said.made
begun_matrix us above f outer said block = subst (λ (b : List OpenBlock). AreLinesSaid us f b (reverse above) said.made) block said.lines

-- a `row` line
said_row : (us : HandedChecks) (above : List Statement) (f : Facts) (columns values : List ℕ) (outer : List OpenBlock) → IsSaid us above f → f.blocks ≡ MatrixBlock ∷ outer → length columns ≡ length values
    → IsSaid us (text.Row columns values ∷ above) (with_begun f (option_map (with_row (Some (cells_of columns values))) f.begun))
said_row us above f columns values outer said block pairs =
    let s : Statement = text.Row columns values in
    let row : List Cell = cells_of columns values in
    let lines = begun_matrix us above f outer said block in
    let g : Facts = with_begun f (option_map (with_row (Some row)) f.begun) in
    let matrix : IsBegunMatrix us outer g (reverse (s ∷ above)) said.made = record {
      before = lines.before;
      name = lines.name;
      rows = lines.rows;
      cols = lines.cols;
      body = lines.body ++ s ∷ [];
      whole = sym (last_line above s) ∙ ap (λ (l : List Statement). l ++ s ∷ []) lines.whole ∙ append_assoc lines.before (text.Matrix lines.name lines.rows lines.cols ∷ lines.body) (s ∷ []);
      earlier = lines.earlier;
      last = lines.last;
      named = lines.named;
      said = lines.said;
      matrix = with_row (Some row) lines.matrix;
      here = ap (λ (o : Option MatrixData). option_map (with_row (Some row)) o) lines.here;
      told = rows_last lines.body lines.matrix.rows s row lines.told (cells_said columns values pairs);
    } in
    record {
      declarations = declarations_stay above f.promises s said.declarations refl;
      made = said.made;
      matrices = said.matrices;
      lines = subst (λ (b : List OpenBlock). AreLinesSaid us g b (reverse (s ∷ above)) said.made) (sym block) matrix;
    }

-- a `finish` line
said_finish : (us : HandedChecks) (above : List Statement) (f : Facts) (name : List ℕ) (bs : List Block) → IsSaid us above f → AreOuter bs f.blocks → length f.nodes ≡ f.count → IsSaid us (text.Finish name ∷ above) (with_finish f name)
said_finish us above f name bs said outer count =
    let ms = shape_names f.matrices in
    let p : PlannedPromise = declared_promise name 3 false true in
    let ps = names_of (f.promises ++ p ∷ []) in
    let names : names_of f.promises ++ name ∷ [] ≡ ps = more_names f.promises p in
    let before = outer_said us bs f.blocks f (reverse above) said.made outer said.lines in
    record {
      declarations = declared_more above f.promises (text.Finish name) p said.declarations refl (refl, refl, refl, refl);
      made = said.made;
      matrices = said.matrices;
      lines = record {
        named = before.named;
        said = record {
          before = reverse above;
          here = [];
          whole = reverse-append (text.Finish name ∷ []) above;
          earlier = said.made;
          later = [];
          matrices = sym (append-nil said.made);
          said = said_grown us ms [] ms (names_of f.promises) (name ∷ []) ps f.nodes [] f.nodes f.blocks (reverse above) (length f.nodes) f.count said.made (append-nil ms) names (append-nil f.nodes) count before.said;
          own = subst (λ (l : List (List ℕ)). is_among name l ≡ true) names (list_any-append (λ n. bytes_eq n name) (names_of f.promises) (name ∷ []) ∙ or_right (is_among name (names_of f.promises)) (is_among name (name ∷ [])) (or_left (bytes_eq name name) false ((bytes_eq-Decides name name).1 refl)));
          inside = subst (λ (n : ℕ). AreInside us ms ps f.nodes (group_in f.blocks) f.count [] n []) (sym count) (inside_none us ms ps f.nodes (group_in f.blocks) f.count);
        };
      };
    }

one_more : (nodes : List Node) (node : Node) → length nodes + 1 ≡ length (nodes ++ node ∷ [])
one_more nodes node = sym (length-append nodes (node ∷ []))

-- the new node is there
new_node : (P : Node → Type 0) (nodes : List Node) (node : Node) → P node → IsSomeAnd (slice_get (nodes ++ node ∷ []) (length nodes)) P
new_node P [] node h = h
new_node P (n ∷ nodes) node h = new_node P nodes node h

-- a `group` line
said_group : (us : HandedChecks) (above : List Statement) (f : Facts) (name : List ℕ) (awaits : List (List ℕ)) (bs : List Block) → IsSaid us above f → AreOuter bs f.blocks → length f.nodes ≡ f.count → Rules f (text.Group name awaits) → IsSaid us (text.Group name awaits ∷ above) (with_group f name awaits)
said_group us above f name awaits bs said outer count r =
    let ms = shape_names f.matrices in
    let n : Node = group_in_facts f name awaits in
    let ns : List Node = f.nodes ++ n ∷ [] in
    let names = names_of f.promises in
    let P = IsGroupOf names (group_in f.blocks) name awaits in
    let is : P n = record { kind = refl; name = refl; group = refl; awaits = promises_named f.promises awaits (group_awaits f name awaits r) } in
    let before = outer_said us bs f.blocks f (reverse above) said.made outer said.lines in
    let next : f.count + 1 ≡ length ns = ap (λ (k : ℕ). k + 1) (sym count) ∙ one_more f.nodes n in
    record {
      declarations = declarations_stay above f.promises (text.Group name awaits) said.declarations refl;
      made = said.made;
      matrices = said.matrices;
      lines = record {
        named = before.named;
        said = record {
          name = name;
          awaits = awaits;
          before = reverse above;
          here = [];
          whole = reverse-append (text.Group name awaits ∷ []) above;
          earlier = said.made;
          later = [];
          matrices = sym (append-nil said.made);
          said = said_grown us ms [] ms names [] names f.nodes (n ∷ []) ns f.blocks (reverse above) (length f.nodes) f.count said.made (append-nil ms) (append-nil names) refl count before.said;
          node = subst (λ (k : ℕ). IsSomeAnd (slice_get ns k) P) count (new_node P f.nodes n is);
          inside = subst (λ (k : ℕ). AreInside us ms names ns (Some f.count) (f.count + 1) [] k []) next (inside_none us ms names ns (Some f.count) (f.count + 1));
        };
      };
    }

-- the lines of the open task
open_task : (us : HandedChecks) (above : List Statement) (f : Facts) (name : List ℕ) (outer : List OpenBlock) (said : IsSaid us above f) → f.blocks ≡ TaskBlock name ∷ outer → IsOpenTask us name outer f (reverse above) said.made
open_task us above f name outer said block = subst (λ (b : List OpenBlock). AreLinesSaid us f b (reverse above) said.made) block said.lines

-- ---- lines that say steps, and lines that say checks

check_makes_none : (s : Statement) → is_check s ≡ true → made_by s ≡ []
check_makes_none (text.LetLit x words) e = absurd (false≢true e)
check_makes_none (text.LetGen x n start limit) e = absurd (false≢true e)
check_makes_none (text.LetAdd x a b) e = absurd (false≢true e)
check_makes_none (text.LetSub x a b) e = absurd (false≢true e)
check_makes_none (text.LetMul x a b) e = absurd (false≢true e)
check_makes_none (text.LetScale x a k) e = absurd (false≢true e)
check_makes_none (text.LetShift x a s) e = absurd (false≢true e)
check_makes_none (text.LetCut x a from len) e = absurd (false≢true e)
check_makes_none (text.LetJoin x parts) e = absurd (false≢true e)
check_makes_none (text.LetSum x a) e = absurd (false≢true e)
check_makes_none (text.LetCount x a) e = absurd (false≢true e)
check_makes_none (text.LetStencil1 x l m r k s) e = absurd (false≢true e)
check_makes_none (text.LetStencil2 x north south west east m cols k s) e = absurd (false≢true e)
check_makes_none (text.LetProduct x a v) e = absurd (false≢true e)
check_makes_none s e = refl

-- the lines that say steps make all locals
steps_make : (body : List Statement) → flat_map made_by (step_lines body) ≡ flat_map made_by body
steps_make [] = refl
steps_make (s ∷ body) = by_kind (steps_make body) (is_check s) refl
  where
    by_kind : flat_map made_by (step_lines body) ≡ flat_map made_by body → (b : Bool) → is_check s ≡ b → flat_map made_by (cond (not b) (s ∷ step_lines body) (step_lines body)) ≡ made_by s ++ flat_map made_by body
    by_kind rest false is = ap (λ (l : List (List ℕ)). made_by s ++ l) rest
    by_kind rest true is = rest ∙ ap (λ (l : List (List ℕ)). l ++ flat_map made_by body) (sym (check_makes_none s is))

steps_push : (body : List Statement) (s : Statement) (b : Bool) → is_check s ≡ b → step_lines (body ++ s ∷ []) ≡ step_lines body ++ cond (not b) (s ∷ []) []
steps_push body s b is = filter-append (λ t. not (is_check t)) body (s ∷ []) ∙ ap (λ (t : Bool). step_lines body ++ cond (not t) (s ∷ []) []) is

checks_push : (body : List Statement) (s : Statement) (b : Bool) → is_check s ≡ b → check_lines (body ++ s ∷ []) ≡ check_lines body ++ cond b (s ∷ []) []
checks_push body s b is = filter-append is_check body (s ∷ []) ∙ ap (λ (t : Bool). check_lines body ++ cond t (s ∷ []) []) is

-- one more line in the open task, which says one more step
said_step : (us : HandedChecks) (above : List Statement) (f g : Facts) (name : List ℕ) (outer : List OpenBlock) (s : Statement) (step : Step) (said : IsSaid us above f) → f.blocks ≡ TaskBlock name ∷ outer → is_declaration s ≡ false → is_check s ≡ false
    → g.blocks ≡ f.blocks → g.matrices ≡ f.matrices → g.closed ≡ f.closed → g.nodes ≡ f.nodes → g.inputs ≡ f.inputs → g.scheme ≡ f.scheme → g.checks ≡ f.checks
    → ((lines : List Statement) → DeclareAll lines f.promises → DeclareAll lines g.promises) → names_of g.promises ≡ names_of f.promises
    → g.steps ≡ f.steps ++ step ∷ [] → map (λ l. l.name) g.locals ≡ map (λ l. l.name) f.locals ++ made_by s
    → SaysStep (shape_names f.matrices) (names_of f.promises) (map (λ l. l.name) f.locals) s step → IsSaid us (s ∷ above) g
said_step us above f g name outer s step said block other unchecked blocks matrices closed nodes inputs scheme checks declare names steps locals says =
    let lines = open_task us above f name outer said block in
    let ms = shape_names f.matrices in
    let shapes : shape_names g.matrices ≡ ms = ap shape_names matrices in
    let P : List (List ℕ) → Type 0 = λ l. SaysStep ms (names_of f.promises) l s step in
    let here : P (lines.awaits ++ flat_map made_by (step_lines lines.body)) = subst P (lines.locals ∙ ap (λ (l : List (List ℕ)). lines.awaits ++ l) (sym (steps_make lines.body))) says in
    let longer : step_lines (lines.body ++ s ∷ []) ≡ step_lines lines.body ++ s ∷ [] = steps_push lines.body s false unchecked in
    let same : check_lines (lines.body ++ s ∷ []) ≡ check_lines lines.body = checks_push lines.body s false unchecked ∙ append-nil (check_lines lines.body) in
    let body = subst (λ (l : List Statement). SayBody ms (names_of f.promises) lines.awaits l (f.steps ++ step ∷ [])) (sym longer) (body_last ms (names_of f.promises) lines.awaits (step_lines lines.body) f.steps s step lines.steps here) in
    let made : flat_map made_by (lines.body ++ s ∷ []) ≡ flat_map made_by lines.body ++ made_by s = flat_map-append made_by lines.body (s ∷ []) ∙ ap (λ (l : List (List ℕ)). flat_map made_by lines.body ++ l) (append-nil (made_by s)) in
    let Steps : List (List ℕ) → List (List ℕ) → List Step → Type 0 = λ rs ps l. SayBody rs ps lines.awaits (step_lines (lines.body ++ s ∷ [])) l in
    let Checks : List (List ℕ) → List (List ℕ) → List Statement → List KeptCheck → Type 0 = λ rs ps ls l. SayChecks us rs ps lines.awaits ls l in
    let task : IsOpenTask us name outer g (reverse (s ∷ above)) said.made = record {
      before = lines.before;
      scheme = lines.scheme;
      awaits = lines.awaits;
      body = lines.body ++ s ∷ [];
      whole = sym (last_line above s) ∙ ap (λ (l : List Statement). l ++ s ∷ []) lines.whole ∙ append_assoc lines.before (text.Task name lines.scheme lines.awaits ∷ lines.body) (s ∷ []);
      planned = scheme ∙ lines.planned;
      outside = record {
        named = shapes ∙ lines.outside.named;
        said = said_same us ms (shape_names g.matrices) (names_of f.promises) (names_of g.promises) f.nodes g.nodes outer lines.before (length f.nodes) (length g.nodes) said.made (sym shapes) (sym names) (sym nodes) (ap length (sym nodes)) lines.outside.said;
      };
      inputs = subst (λ (l : List ℕ). AreNamed (names_of g.promises) l lines.awaits) (sym inputs) (subst (λ (l : List (List ℕ)). AreNamed l f.inputs lines.awaits) (sym names) lines.inputs);
      steps = subst (Steps (shape_names g.matrices) (names_of g.promises)) (sym steps) (subst (λ (l : List (List ℕ)). Steps (shape_names g.matrices) l (f.steps ++ step ∷ [])) (sym names) (subst (λ (l : List (List ℕ)). Steps l (names_of f.promises) (f.steps ++ step ∷ [])) (sym shapes) body));
      checks = subst (Checks (shape_names g.matrices) (names_of g.promises) (check_lines (lines.body ++ s ∷ []))) (sym checks)
          (subst (λ (l : List Statement). Checks (shape_names g.matrices) (names_of g.promises) l f.checks) (sym same)
          (subst (λ (l : List (List ℕ)). Checks (shape_names g.matrices) l (check_lines lines.body) f.checks) (sym names)
          (subst (λ (l : List (List ℕ)). Checks l (names_of f.promises) (check_lines lines.body) f.checks) (sym shapes) lines.checks)));
      locals = locals ∙ ap (λ (l : List (List ℕ)). l ++ made_by s) lines.locals ∙ append_assoc lines.awaits (flat_map made_by lines.body) (made_by s) ∙ ap (λ (l : List (List ℕ)). lines.awaits ++ l) (sym made);
    } in
    record {
      declarations = declare (filter is_declaration (reverse (s ∷ above))) (declarations_stay above f.promises s said.declarations other);
      made = said.made;
      matrices = subst (AreMatricesOf said.made) (sym closed) said.matrices;
      lines = subst (λ (b : List OpenBlock). AreLinesSaid us g b (reverse (s ∷ above)) said.made) (sym (blocks ∙ block)) task;
    }

-- one more line in the open task, which says one more check
said_check : (us : HandedChecks) (above : List Statement) (f : Facts) (name : List ℕ) (outer : List OpenBlock) (s : Statement) (check : KeptCheck) (said : IsSaid us above f) → (block : f.blocks ≡ TaskBlock name ∷ outer) → is_declaration s ≡ false → is_check s ≡ true
    → SaysCheck us (shape_names f.matrices) (names_of f.promises) (open_task us above f name outer said block).awaits s check → IsSaid us (s ∷ above) (with_check f (check ∷ []))
said_check us above f name outer s check said block other checked says =
    let lines = open_task us above f name outer said block in
    let ms = shape_names f.matrices in
    let same : step_lines (lines.body ++ s ∷ []) ≡ step_lines lines.body = steps_push lines.body s true checked ∙ append-nil (step_lines lines.body) in
    let longer : check_lines (lines.body ++ s ∷ []) ≡ check_lines lines.body ++ s ∷ [] = checks_push lines.body s true checked in
    let made : flat_map made_by (lines.body ++ s ∷ []) ≡ flat_map made_by lines.body =
    flat_map-append made_by lines.body (s ∷ []) ∙ ap (λ (l : List (List ℕ)). flat_map made_by lines.body ++ (l ++ [])) (check_makes_none s checked) ∙ append-nil (flat_map made_by lines.body) in
    let task : IsOpenTask us name outer (with_check f (check ∷ [])) (reverse (s ∷ above)) said.made = record {
      before = lines.before;
      scheme = lines.scheme;
      awaits = lines.awaits;
      body = lines.body ++ s ∷ [];
      whole = sym (last_line above s) ∙ ap (λ (l : List Statement). l ++ s ∷ []) lines.whole ∙ append_assoc lines.before (text.Task name lines.scheme lines.awaits ∷ lines.body) (s ∷ []);
      planned = lines.planned;
      outside = record { named = lines.outside.named; said = lines.outside.said };
      inputs = lines.inputs;
      steps = subst (λ (l : List Statement). SayBody ms (names_of f.promises) lines.awaits l f.steps) (sym same) lines.steps;
      checks = subst (λ (l : List Statement). SayChecks us ms (names_of f.promises) lines.awaits l (f.checks ++ check ∷ [])) (sym longer) (checks_last us ms (names_of f.promises) lines.awaits (check_lines lines.body) f.checks s check lines.checks says);
      locals = lines.locals ∙ ap (λ (l : List (List ℕ)). lines.awaits ++ l) (sym made);
    } in
    record {
      declarations = declarations_stay above f.promises s said.declarations other;
      made = said.made;
      matrices = said.matrices;
      lines = subst (λ (b : List OpenBlock). AreLinesSaid us (with_check f (check ∷ [])) b (reverse (s ∷ above)) said.made) (sym block) task;
    }

-- the `let` lines make the locals behind the awaits
as_many : (names : List (List ℕ)) (ns : List ℕ) (qs : List (List ℕ)) → AreNamed names ns qs → length ns ≡ length qs
as_many names [] [] are = refl
as_many names [] (q ∷ qs) are = absurd are
as_many names (n ∷ ns) [] are = absurd are
as_many names (n ∷ ns) (q ∷ qs) are = ap suc (as_many names ns qs are.1)

lets_made : (names : List (List ℕ)) (inputs : List ℕ) (awaits : List (List ℕ)) (locals : List LocalName) (made : List (List ℕ)) → AreNamed names inputs awaits → map (λ t. t.name) locals ≡ awaits ++ made → lets_of inputs locals ≡ made
lets_made names inputs awaits locals made are whole =
    sym (drop-map (λ (t : LocalName). t.name) (length inputs) locals)
    ∙ ap (λ (l : List (List ℕ)). drop (length inputs) l) whole
    ∙ ap (λ (n : ℕ). drop n (awaits ++ made)) (as_many names inputs awaits are)
    ∙ drop-append_seam awaits made

-- where no matrix is begun, an `end` adds none
no_matrix_ends : (made : List MatrixLines) (f : Facts) → f.begun ≡ None → AreMatricesOf made f.closed → AreMatricesOf (made ++ []) (f.closed ++ option_to_list f.begun)
no_matrix_ends made f none are =
    subst (λ (o : Option MatrixData). AreMatricesOf (made ++ []) (f.closed ++ option_to_list o)) (sym none)
    (subst (AreMatricesOf (made ++ [])) (sym (append-nil f.closed)) (subst (λ (l : List MatrixLines). AreMatricesOf l f.closed) (sym (append-nil made)) are))

-- one more part, of which one more node or matrix is the last, in the blocks that an `end` leaves open
said_ended : (us : HandedChecks) (above : List Statement) (f g : Facts) (bs : List Block) (outer : List OpenBlock) (before : List Statement) (first : ℕ) (made : List MatrixLines) (more : List Node) (part : Parts) → AreOuter bs outer
    → g.matrices ≡ f.matrices → names_of g.promises ≡ names_of f.promises → g.nodes ≡ f.nodes ++ more → shape_names f.matrices ≡ matrix_names (made ++ matrices_in part)
    → AreSaid us (shape_names f.matrices) (names_of f.promises) f.nodes outer before first made → SayParts us (shape_names f.matrices) (names_of f.promises) (f.nodes ++ more) (group_in outer) first part
    → before ++ lines_in part ≡ reverse (text.End ∷ above) → first + nodes_in part ≡ length (f.nodes ++ more) → AreLinesSaid us g outer (reverse (text.End ∷ above)) (made ++ matrices_in part)
said_ended us above f g bs outer before first made more part are matrices names nodes named said say lines all =
    let ms = shape_names f.matrices in
    let ps = names_of f.promises in
    let ns = f.nodes ++ more in
    let whole = reverse (text.End ∷ above) in
    let grown = said_grown us ms [] ms ps [] ps f.nodes more ns outer before first first made (append-nil ms) (append-nil ps) refl refl said in
    let pushed = said_pushed us ms ps ns outer before whole first (length ns) made part lines all grown say in
    said_outer us bs outer g whole (made ++ matrices_in part) are (record {
      named = ap shape_names matrices ∙ named;
      said = said_same us ms (shape_names g.matrices) ps (names_of g.promises) ns g.nodes outer whole (length ns) (length g.nodes) (made ++ matrices_in part) (ap shape_names (sym matrices)) (sym names) (sym nodes) (ap length (sym nodes)) pushed;
    })

-- the end of the open task, whose lines are those of one more node
said_end : (us : HandedChecks) (above : List Statement) (f : Facts) (name : List ℕ) (bs : List Block) (outer : List OpenBlock) → IsSaid us above f → f.blocks ≡ TaskBlock name ∷ outer → AreOuter bs outer → f.begun ≡ None → IsSaid us (text.End ∷ above) (with_end f name outer)
said_end us above f name bs outer said block are none =
    let lines = open_task us above f name outer said block in
    let ms = shape_names f.matrices in
    let t : TaskLines = record { name = name; scheme = lines.scheme; awaits = lines.awaits; body = lines.body } in
    let node : Node = ended_task f name outer in
    let P = IsTaskOf us ms (names_of f.promises) (group_in outer) t in
    let is : P node = record {
      kind = refl;
      name = refl;
      scheme = lines.planned;
      group = refl;
      awaits = lines.inputs;
      checks = lines.checks;
      lets = lets_made (names_of f.promises) f.inputs lines.awaits f.locals (flat_map made_by lines.body) lines.inputs lines.locals;
      body = lines.steps;
    } in
    let whole : lines.before ++ (lines_of t ++ []) ≡ reverse (text.End ∷ above) =
    ap (λ (l : List Statement). lines.before ++ l) (append-nil (lines_of t)) ∙ sym (append_assoc lines.before (text.Task name lines.scheme lines.awaits ∷ lines.body) (text.End ∷ [])) ∙ ap (λ (l : List Statement). l ++ text.End ∷ []) (sym lines.whole) ∙ last_line above text.End in
    record {
      declarations = declarations_stay above f.promises text.End said.declarations refl;
      made = said.made ++ [];
      matrices = no_matrix_ends said.made f none said.matrices;
      lines = said_ended us above f (with_end f name outer) bs outer lines.before (length f.nodes) said.made (node ∷ []) (a_task t no_parts) are refl refl refl (lines.outside.named ∙ ap matrix_names (sym (append-nil said.made))) lines.outside.said
          (new_node P f.nodes node is, tt) whole (one_more f.nodes node);
    }

-- the end of a matrix, which has the shape of its line
said_end_matrix : (us : HandedChecks) (above : List Statement) (f : Facts) (bs : List Block) (outer : List OpenBlock) → IsSaid us above f → f.blocks ≡ MatrixBlock ∷ outer → AreOuter bs outer → shapes_named f.matrices ≡ shapes_of (f.closed ++ option_to_list f.begun) → IsSaid us (text.End ∷ above) (with_closed f outer)
said_end_matrix us above f bs outer said block are shapes =
    let lines = begun_matrix us above f outer said block in
    let m : MatrixLines = record { name = lines.name; rows = lines.rows; cols = lines.cols; body = lines.body } in
    let part : Parts = a_matrix m no_parts in
    let ended : f.closed ++ option_to_list f.begun ≡ f.closed ++ lines.matrix ∷ [] = ap (λ (o : Option MatrixData). f.closed ++ option_to_list o) lines.here in
    let listed : shapes_named f.matrices ≡ shapes_named lines.earlier ++ shape lines.rows lines.cols ∷ [] = ap shapes_named lines.last ∙ map-append (λ (n : NamedShape). n.shape) lines.earlier (named_shape lines.name lines.rows lines.cols ∷ []) in
    let summed : shapes_of (f.closed ++ lines.matrix ∷ []) ≡ shapes_of f.closed ++ shape (length lines.matrix.rows) lines.matrix.cols ∷ [] = map-append (λ (a : MatrixData). shape (length a.rows) a.cols) f.closed (lines.matrix ∷ []) in
    let alike : shape (length lines.matrix.rows) lines.matrix.cols ≡ shape lines.rows lines.cols = last_alike (shapes_of f.closed) (shapes_named lines.earlier) _ _ (sym summed ∙ ap shapes_of (sym ended) ∙ sym shapes ∙ listed) in
    let is : IsMatrixOf m lines.matrix = record { cols = ap (λ (t : Shape). t.cols) alike; count = ap (λ (t : Shape). t.rows) alike; rows = lines.told } in
    let named : shape_names f.matrices ≡ matrix_names (said.made ++ m ∷ []) =
    ap shape_names lines.last ∙ sym (more_shapes lines.earlier (named_shape lines.name lines.rows lines.cols)) ∙ ap (λ (l : List (List ℕ)). l ++ lines.name ∷ []) lines.named ∙ sym (map-append (λ (l : MatrixLines). l.name) said.made (m ∷ [])) in
    let whole : lines.before ++ (matrix_lines m ++ []) ≡ reverse (text.End ∷ above) =
    ap (λ (l : List Statement). lines.before ++ l) (append-nil (matrix_lines m)) ∙ sym (append_assoc lines.before (text.Matrix lines.name lines.rows lines.cols ∷ lines.body) (text.End ∷ [])) ∙ ap (λ (l : List Statement). l ++ text.End ∷ []) (sym lines.whole) ∙ last_line above text.End in
    let all : f.nodes ++ [] ≡ f.nodes = append-nil f.nodes in
    let next : length f.nodes + 0 ≡ length (f.nodes ++ []) = let e : length f.nodes + 0 ≡ length f.nodes = omega arith in e ∙ ap length (sym all) in
    record {
      declarations = declarations_stay above f.promises text.End said.declarations refl;
      made = said.made ++ m ∷ [];
      matrices = subst (AreMatricesOf (said.made ++ m ∷ [])) (sym ended) (matrices_last said.made f.closed m lines.matrix said.matrices is);
      lines = said_ended us above f (with_closed f outer) bs outer lines.before (length f.nodes) said.made [] part are refl refl (sym all) named lines.said tt whole next;
    }

-- the lines of an open group or scope and its `end`, behind those before it
closed_lines : (above before here : List Statement) (s : Statement) → reverse above ≡ before ++ s ∷ here → before ++ s ∷ (here ++ text.End ∷ []) ≡ reverse (text.End ∷ above)
closed_lines above before here s whole = sym (append_assoc before (s ∷ here) (text.End ∷ [])) ∙ ap (λ (l : List Statement). l ++ text.End ∷ []) (sym whole) ∙ last_line above text.End

-- the matrices of the lines before a group or scope, and of those inside
both_made : (made earlier later : List MatrixLines) (inside : Parts) → made ≡ earlier ++ later → later ≡ matrices_in inside → made ≡ earlier ++ (matrices_in inside ++ [])
both_made made earlier later inside all here = all ∙ ap (λ (l : List MatrixLines). earlier ++ l) (here ∙ sym (append-nil (matrices_in inside)))

said_end_group : (us : HandedChecks) (above : List Statement) (f : Facts) (number : ℕ) (bs : List Block) (outer : List OpenBlock) → IsSaid us above f → f.blocks ≡ GroupBlock number ∷ outer → AreOuter bs outer → f.begun ≡ None → IsSaid us (text.End ∷ above) (with_closed f outer)
said_end_group us above f number bs outer said block are none =
    let ms = shape_names f.matrices in
    let ps = names_of f.promises in
    let outside : AreOutside us (GroupBlock number ∷ outer) f (reverse above) said.made = subst (λ (b : List OpenBlock). AreLinesSaid us f b (reverse above) said.made) block said.lines in
    let h : IsInGroup us ms ps f.nodes (group_in outer) number (reverse above) (length f.nodes) said.made (λ before earlier. AreSaid us ms ps f.nodes outer before number earlier) = outside.said in
    let inside = h.inside in
    let part : Parts = a_group h.name h.awaits inside.parts no_parts in
    let made : said.made ≡ h.earlier ++ matrices_in part = both_made said.made h.earlier h.later inside.parts h.matrices inside.matrices in
    let counted : length f.nodes ≡ number + 1 + nodes_in inside.parts = inside.counted in
    let all : f.nodes ++ [] ≡ f.nodes = append-nil f.nodes in
    let next : number + nodes_in part ≡ length (f.nodes ++ []) = let e : number + (1 + nodes_in inside.parts + 0) ≡ length f.nodes = omega arith in e ∙ ap length (sym all) in
    let whole : h.before ++ lines_in part ≡ reverse (text.End ∷ above) = ap (λ (l : List Statement). h.before ++ text.Group h.name h.awaits ∷ (l ++ text.End ∷ [])) (sym inside.whole) ∙ closed_lines above h.before h.here (text.Group h.name h.awaits) h.whole in
    record {
      declarations = declarations_stay above f.promises text.End said.declarations refl;
      made = h.earlier ++ matrices_in part;
      matrices = subst (λ (l : List MatrixLines). AreMatricesOf l (f.closed ++ option_to_list f.begun)) (append-nil said.made ∙ made) (no_matrix_ends said.made f none said.matrices);
      lines = said_ended us above f (with_closed f outer) bs outer h.before number h.earlier [] part are refl refl (sym all) (outside.named ∙ ap matrix_names made) h.said
          (subst (λ (l : List Node). SayParts us ms ps l (group_in outer) number part) (sym all) (h.node, inside.said, tt)) whole next;
    }

any_named : (ps : List PlannedPromise) (name : List ℕ) → is_among name (names_of ps) ≡ list_any (λ p. bytes_eq p.name name) ps
any_named [] name = refl
any_named (p ∷ ps) name = ap (λ (b : Bool). bytes_eq p.name name || b) (any_named ps name)

own_declared : (ps : List PlannedPromise) (name : List ℕ) → is_among name (names_of ps) ≡ true → is_promise ps name ≡ true
own_declared ps name among = is_some_position (λ (p : PlannedPromise). bytes_eq p.name name) ps ∙ sym (any_named ps name) ∙ among

said_end_scope : (us : HandedChecks) (above : List Statement) (f : Facts) (name : List ℕ) (first : ℕ) (bs : List Block) (outer : List OpenBlock) → IsSaid us above f → f.blocks ≡ ScopeBlock name first ∷ outer → AreOuter bs outer → f.begun ≡ None → length f.nodes ≡ f.count
    → IsSaid us (text.End ∷ above) (with_scope_end f name first outer)
said_end_scope us above f name first bs outer said block are none count =
    let ms = shape_names f.matrices in
    let ps = names_of f.promises in
    let outside : AreOutside us (ScopeBlock name first ∷ outer) f (reverse above) said.made = subst (λ (b : List OpenBlock). AreLinesSaid us f b (reverse above) said.made) block said.lines in
    let h : IsInScope us ms ps f.nodes (group_in outer) name first (reverse above) (length f.nodes) said.made (λ before earlier. AreSaid us ms ps f.nodes outer before first earlier) = outside.said in
    let inside = h.inside in
    let part : Parts = a_scope name inside.parts no_parts in
    let made : said.made ≡ h.earlier ++ matrices_in part = both_made said.made h.earlier h.later inside.parts h.matrices inside.matrices in
    let node : Node = ended_scope f name first outer in
    let ns = f.nodes ++ node ∷ [] in
    let counted : length f.nodes ≡ first + nodes_in inside.parts = inside.counted in
    let members : f.count - first ≡ nodes_in inside.parts = let e : f.count ≡ length f.nodes = sym count in omega arith in
    let P = IsScopeOf ps (group_in outer) name (range_with_len first (nodes_in inside.parts)) in
    let is : P node = record { kind = refl; name = refl; group = refl; members = ap (range_with_len first) members; own = (promise_named f.promises name (own_declared f.promises name h.own), tt) } in
    let here : IsSomeAnd (slice_get ns (first + nodes_in inside.parts)) P = subst (λ (k : ℕ). IsSomeAnd (slice_get ns k) P) counted (new_node P f.nodes node is) in
    let Said : List (List ℕ) → List (List ℕ) → Type 0 = λ rs qs. SayParts us rs qs ns (group_in outer) first inside.parts in
    let grown : Said ms ps = subst (λ (l : List (List ℕ)). Said l ps) (append-nil ms) (subst (Said (ms ++ [])) (append-nil ps) (parts_more us ms [] ps [] f.nodes (node ∷ []) (group_in outer) first inside.parts inside.said)) in
    let next : first + nodes_in part ≡ length ns = let e : first + (nodes_in inside.parts + 1 + 0) ≡ length f.nodes + 1 = omega arith in e ∙ one_more f.nodes node in
    let whole : h.before ++ lines_in part ≡ reverse (text.End ∷ above) = ap (λ (l : List Statement). h.before ++ text.Finish name ∷ (l ++ text.End ∷ [])) (sym inside.whole) ∙ closed_lines above h.before h.here (text.Finish name) h.whole in
    record {
      declarations = given_lines (putting name f.count) _ f.promises (declarations_stay above f.promises text.End said.declarations refl);
      made = h.earlier ++ matrices_in part;
      matrices = subst (λ (l : List MatrixLines). AreMatricesOf l (f.closed ++ option_to_list f.begun)) (append-nil said.made ∙ made) (no_matrix_ends said.made f none said.matrices);
      lines = said_ended us above f (with_scope_end f name first outer) bs outer h.before first h.earlier (node ∷ []) part are refl (given_names (putting name f.count) f.promises) refl (outside.named ∙ ap matrix_names made) h.said (grown, here, tt) whole next;
    }

-- ---- the forms of the lines of a task

said_let : (us : HandedChecks) (above : List Statement) (f : Facts) (s : Statement) (x name : List ℕ) (outer : List OpenBlock) → IsSaid us above f → f.blocks ≡ TaskBlock name ∷ outer → (facets s).made ≡ Some x → Rules f s
    → IsSaid us (s ∷ above) (with_local f (local_made f.matrices f.locals s) (option_to_list ((facets s).step (matrix_used f.matrices s) (numbers_used f.locals s))))
said_let us above f s x name outer said block made r =
    let line = let_said f.matrices (names_of f.promises) f.locals s x made r.used r.matrix in
    let new = local_made f.matrices f.locals s in
    let one : map (λ l. l.name) new ≡ x ∷ [] = ap (λ (o : Option (List ℕ)). map (λ l. l.name) (map (λ y. local y (made_len f.matrices f.locals s)) (option_to_list o))) made in
    said_step us above f (with_local f new (option_to_list ((facets s).step (matrix_used f.matrices s) (numbers_used f.locals s)))) name outer s line.step said block line.other line.unchecked
    refl refl refl refl refl refl refl (λ lines all. all) refl
    (ap (λ (o : Option Step). f.steps ++ option_to_list o) line.is)
    (map-append (λ (l : LocalName). l.name) f.locals new ∙ ap (λ (l : List (List ℕ)). map (λ t. t.name) f.locals ++ l) (one ∙ sym line.made))
    line.says

said_put : (us : HandedChecks) (above : List Statement) (f : Facts) (q x : List ℕ) (when : Option (List ℕ)) (name : List ℕ) (outer : List OpenBlock) → IsSaid us above f → f.blocks ≡ TaskBlock name ∷ outer → Rules f (text.Put q x when) → IsSaid us (text.Put q x when ∷ above) (with_put f q (text.Put q x when))
said_put us above f q x when name outer said block r =
    let (there, used) = put_known f q x when r in
    said_step us above f (with_put f q (text.Put q x when)) name outer (text.Put q x when) (put_step f.promises (map (number_of f.locals) (x ∷ option_to_list when)) q) said block refl refl
    refl refl refl refl refl refl refl
    (λ lines all. given_lines (putting q f.count) lines f.promises all)
    (given_names (putting q f.count) f.promises)
    (put_steps f q x when)
    (sym (append-nil (map (λ (l : LocalName). l.name) f.locals)))
    (put_says (shape_names f.matrices) f.promises f.locals q x when there used)

said_drop : (us : HandedChecks) (above : List Statement) (f : Facts) (q name : List ℕ) (outer : List OpenBlock) → IsSaid us above f → f.blocks ≡ TaskBlock name ∷ outer → Rules f (text.DropAwait q) → IsSaid us (text.DropAwait q ∷ above) (with_drop f q)
said_drop us above f q name outer said block r =
    let task_lines = open_task us above f name outer said block in
    let (within, here) = await_number f q (place_of q f.locals) refl (drop_known f q r) in
    let i = number_of f.locals q in
    let at : slice_get (task_lines.awaits ++ flat_map made_by task_lines.body) i ≡ Some q = sym (ap (λ (l : List (List ℕ)). slice_get l i) task_lines.locals) ∙ here in
    let says = named_there (names_of f.promises) f.inputs task_lines.awaits (flat_map made_by task_lines.body) i q task_lines.inputs within at in
    said_step us above f (with_drop f q) name outer (text.DropAwait q) (drop_step f.inputs f.locals q) said block refl refl
    refl refl refl refl refl refl refl (λ lines all. all) refl refl
    (sym (append-nil (map (λ (l : LocalName). l.name) f.locals)))
    (slice_index f.inputs i, refl, says)

put_names : (promise x : List ℕ) (when : Option (List ℕ)) → (facets (text.Put promise x when)).put_to ≡ Some promise
unfolding facets
put_names promise x when = refl

check_line : (handed : HandedChecks) (above : List Statement) (f : Facts) (s : Statement) (q name : List ℕ) (outer : List OpenBlock) → IsSaid handed above f → f.blocks ≡ TaskBlock name ∷ outer → IsWithinLimits s → IsCheck s q → Rules f s → is_unanswered handed s ≡ false
    → IsSaid handed (s ∷ above) (with_check f (checks_by (look_above handed) f.promises f.matrices f.locals s))
check_line handed above f s q name outer said block limits is r answered =
    let task_lines = open_task handed above f name outer said block in
    let put : is_put_here f q ≡ true = not_false (is_put_here f q) (subst (λ (o : Option (List ℕ)). if_any (λ x. not (is_put_here f x)) o ≡ false) is.checked r.checked) in
    let there : is_promise f.promises q ≡ true = (and_parts (is_promise f.promises q) (is_in (promise_number f.promises q) (promises_put f.steps)) put).0 in
    let spec = spec_asked handed f.matrices f.locals s in
    let check : KeptCheck = check_of handed (promise_number f.promises q) spec in
    let one : checks_by (look_above handed) f.promises f.matrices f.locals s ≡ check ∷ [] = ap (λ (o : Option (List ℕ)). map (λ x. check_of handed (promise_number f.promises x) spec) (option_to_list o)) is.checked in
    let (says, checks, other) = check_said handed f task_lines.awaits (flat_map made_by task_lines.body) s q (as_many (names_of f.promises) f.inputs task_lines.awaits task_lines.inputs) task_lines.locals limits is.checked there r.read r.matrix answered in
    subst (λ (l : List KeptCheck). IsSaid handed (s ∷ above) (with_check f l)) (sym one) (said_check handed above f name outer s check said block other checks says)

-- an `end`, by the block that it closes
by_closed : (us : HandedChecks) (above : List Statement) (f : Facts) → Closed (open_blocks above) f.blocks → AreCounted above f → AreCounted (text.End ∷ above) (after (look_above us) f text.End) → IsSaid us above f → IsSaid us (text.End ∷ above) (after (look_above us) f text.End)
by_closed us above f (closed_task name around outer opens block are) c d said =
    let closed : AreClosed f = subst (λ (bs : List Block). AreShaped (innermost bs) (rows_here above) f) opens c.shaped in
    subst (IsSaid us (text.End ∷ above)) (sym (after_end (look_above us) f name outer block)) (said_end us above f name around outer said block are closed.none_open)
by_closed us above f (closed_matrix rows cols around outer opens block are) c d said =
    let same = after_end_matrix (look_above us) f outer block in
    let left : open_blocks (text.End ∷ above) ≡ around = ap (λ (bs : List Block). drop 1 bs) opens in
    let shaped = subst (λ (g : Facts). AreShaped (innermost (open_blocks (text.End ∷ above))) (rows_here (text.End ∷ above)) g) same d.shaped in
    let closed = outer_closed around outer (rows_here (text.End ∷ above)) (with_closed f outer) are (subst (λ (bs : List Block). AreShaped (innermost bs) (rows_here (text.End ∷ above)) (with_closed f outer)) left shaped) in
    subst (IsSaid us (text.End ∷ above)) (sym same) (said_end_matrix us above f around outer said block are closed.shapes)
by_closed us above f (closed_group number around outer opens block are) c d said =
    let closed : AreClosed f = subst (λ (bs : List Block). AreShaped (innermost bs) (rows_here above) f) opens c.shaped in
    subst (IsSaid us (text.End ∷ above)) (sym (after_end_group (look_above us) f number outer block)) (said_end_group us above f number around outer said block are closed.none_open)
by_closed us above f (closed_scope name first around outer opens block are) c d said =
    let closed : AreClosed f = subst (λ (bs : List Block). AreShaped (innermost bs) (rows_here above) f) opens c.shaped in
    subst (IsSaid us (text.End ∷ above)) (sym (after_end_scope (look_above us) f name first outer block)) (said_end_scope us above f name first around outer said block are closed.none_open c.counted)

by_view : (us : HandedChecks) (above : List Statement) (f : Facts) (s : Statement) → View s → AreCounted above f → AreCounted (s ∷ above) (after (look_above us) f s) → IsLawful above s → Keeps (look_above us) f s → IsSaid us above f → IsSaid us (s ∷ above) (after (look_above us) f s)
by_view us above f s (as_promise name len temp) c d l k said =
    subst (IsSaid us (text.Promise name len temp ∷ above)) (sym (after_promise (look_above us) f name len temp)) (said_promise us above f name len temp (open_blocks above) said (outside (open_blocks above) f.blocks c.blocks l.placed.0))
by_view us above f s (as_matrix name rows cols) c d l k said =
    subst (IsSaid us (text.Matrix name rows cols ∷ above)) (sym (after_matrix (look_above us) f name rows cols)) (said_matrix us above f name rows cols (open_blocks above) said (outside (open_blocks above) f.blocks c.blocks l.placed.0))
by_view us above f s (as_row columns values) c d l k said =
    let matrix = in_matrix (open_blocks above) f.blocks c.blocks l.placed.0 in
    subst (IsSaid us (text.Row columns values ∷ above)) (sym (after_row (look_above us) f columns values)) (said_row us above f columns values matrix.outer said matrix.block (within above (text.Row columns values) l).0)
by_view us above f s (as_task name scheme awaits) c d l k said =
    let place : may_stand Outside (innermost (open_blocks above)) ≡ true = subst (λ (standing : Standing). may_stand standing (innermost (open_blocks above)) ≡ true) (task_outside name scheme awaits) l.placed.0 in
    subst (IsSaid us (text.Task name scheme awaits ∷ above)) (sym (after_task us f name scheme awaits)) (said_task us above f name scheme awaits (open_blocks above) said (outside (open_blocks above) f.blocks c.blocks place) (rules us f (text.Task name scheme awaits) k))
by_view us above f s (as_finish name) c d l k said =
    subst (IsSaid us (text.Finish name ∷ above)) (sym (after_finish (look_above us) f name)) (said_finish us above f name (open_blocks above) said (outside (open_blocks above) f.blocks c.blocks l.placed.0) c.counted)
by_view us above f s (as_group name awaits) c d l k said =
    subst (IsSaid us (text.Group name awaits ∷ above)) (sym (after_group us f name awaits)) (said_group us above f name awaits (open_blocks above) said (outside (open_blocks above) f.blocks c.blocks l.placed.0) c.counted (rules us f (text.Group name awaits) k))
by_view us above f s as_end c d l k said = by_closed us above f (closed (open_blocks above) f.blocks _ _ c.blocks l.limited) c d said
by_view us above f s (as_let t x is) c d l k said =
    let here : may_stand InTask (innermost (open_blocks above)) ≡ true = subst (λ (standing : Standing). may_stand standing (innermost (open_blocks above)) ≡ true) is.standing l.placed.0 in
    let task = inside (open_blocks above) f.blocks c.blocks here in
    subst (IsSaid us (s ∷ above)) (sym (after_let (look_above us) f s x is.made)) (said_let us above f s x task.name task.outer said task.block is.made (rules us f s k))
by_view us above f s (as_put promise x when) c d l k said =
    let task = inside (open_blocks above) f.blocks c.blocks l.placed.0 in
    subst (IsSaid us (text.Put promise x when ∷ above)) (sym (after_put (look_above us) f (text.Put promise x when) promise (put_names promise x when))) (said_put us above f promise x when task.name task.outer said task.block (rules us f (text.Put promise x when) k))
by_view us above f s (as_drop promise) c d l k said =
    let task = inside (open_blocks above) f.blocks c.blocks l.placed.0 in
    subst (IsSaid us (text.DropAwait promise ∷ above)) (sym (after_drop (look_above us) f promise)) (said_drop us above f promise task.name task.outer said task.block (rules us f (text.DropAwait promise) k))
by_view us above f s (as_check t q is) c d l k said =
    let here : may_stand InTask (innermost (open_blocks above)) ≡ true = subst (λ (standing : Standing). may_stand standing (innermost (open_blocks above)) ≡ true) is.standing l.placed.0 in
    let task = inside (open_blocks above) f.blocks c.blocks here in
    subst (IsSaid us (s ∷ above)) (sym (after_check (look_above us) f s q is.checked)) (check_line us above f s q task.name task.outer said task.block (within above s l) is (rules us f s k) k.answered)

said_above : (us : HandedChecks) (above : List Statement) → AllStand above → AllKeep (look_above us) above → IsSaid us above (facts_above (look_above us) above)
said_above us [] stand kept = record { declarations = tt; made = []; matrices = tt; lines = record { named = refl; said = inside_none us [] [] [] None 0 } }
said_above us (s ∷ above) stand kept =
    let f = facts_above (look_above us) above in
    let k = keeps (look_above us) f s kept.0 in
    let next = facts_next (look_above us) above s in
    let d = subst (AreCounted (s ∷ above)) next (counted us (s ∷ above) stand kept) in
    subst (IsSaid us (s ∷ above)) (sym next) (by_view us above f s (view s) (counted us above stand.1 kept.1) d stand.0 k (said_above us above stand.1 kept.1))

pub plans_say_their_texts : PlansSayTheirTexts
plans_say_their_texts us text plan lawful is =
    let above = upward text.items in
    let f = facts_above (look_above us) above in
    let said = said_above us above lawful.lawful is.draft.kept in
    let free : f.blocks ≡ [] = none_closed (open_blocks above) f.blocks (counted us above lawful.lawful is.draft.kept).blocks lawful.closed in
    let outside : AreOutside us [] f (reverse above) said.made = subst (λ (b : List OpenBlock). AreLinesSaid us f b (reverse above) said.made) free said.lines in
    let whole : AreInside us (shape_names f.matrices) (names_of f.promises) f.nodes None 0 (reverse above) (length f.nodes) said.made = outside.said in
    let named : shape_names f.matrices ≡ matrix_names (matrices_in whole.parts) = outside.named ∙ ap matrix_names whole.matrices in
    let lines : reverse above ≡ map (λ item. item.statement) text.items = reverse-reverse (map (λ (item : Item). item.statement) text.items) in
    let P : List (List ℕ) → List Node → List PlannedPromise → Type 0 = λ ms ns ps. SayParts us ms (names_of ps) ns None 0 whole.parts in
    let all : length f.nodes ≡ 0 + nodes_in whole.parts = whole.counted in
    record {
      declarations = subst (λ (l : List Statement). DeclareAll (filter is_declaration l) plan.promises) lines (subst (DeclareAll (filter is_declaration (reverse above))) (sym is.draft.promises) said.declarations);
      parts = whole.parts;
      lines = sym lines ∙ whole.whole;
      matrices = subst (AreMatricesOf (matrices_in whole.parts)) (sym is.draft.matrices) (subst (λ (l : List MatrixLines). AreMatricesOf l f.closed) whole.matrices said.matrices);
      count = ap length is.draft.nodes ∙ (let e : length f.nodes ≡ nodes_in whole.parts = omega arith in e);
      nodes = subst (λ (l : List (List ℕ)). P l plan.nodes plan.promises) named
          (subst (λ (ns : List Node). P (shape_names f.matrices) ns plan.promises) (sym is.draft.nodes) (subst (P (shape_names f.matrices) f.nodes) (sym is.draft.promises) whole.said));
    }
