-- A line that declares a promise, and an `end`, keep the facts sound.
use Rattle.std.proofs.Common.{◌≡◌, ℕ, ◌+◌, ◌≤◌, List, [], ◌∷◌, ◌++◌, Bool, true, false, Option, Some, None, cond, not, length, map, sum, refl, arith, ap, sym, ◌∙◌, subst, inl, inr, append_assoc, length-append}
use Rattle.std.specs.Prelude.{slice_get, nat_le, nat_lt, ◌&&◌, ◌||◌}
use Rattle.std.specs.List.{AllByRecursion, IsDistinct}
use Rattle.std.specs.Str.{bytes_eq}
use Rattle.std.proofs.lemmas.Bool.{false≢true, true≢false, or_left, or_right}
use Rattle.std.proofs.lemmas.Bool.Decides.{nat_tests}
use Rattle.std.proofs.lemmas.Option.{none-some}
use Rattle.std.proofs.lemmas.List.{map-append, length-map}
use Rattle.std.proofs.lemmas.List.Sums.{sum-map, sum_by_push}
use Rattle.rh_words.specs.Naming.{is_name}
use Rattle.rh_task_text.specs.declared.statement.Statement.{Statement}
use Rattle.rh_task_text.specs.declared.statement.Statement.TheVariants as text
use Rattle.rh_task_text.specs.Blocks.{lets_here, checks_here}
use Rattle.rh_rules.specs.declared.shape.Shape.{Shape}
use Rattle.rh_rules.specs.declared.body.Step.{Step}
use Rattle.rh_rules.specs.declared.node.Node.{Node}
use Rattle.rh_rules.specs.declared.node.PlannedPromise.{PlannedPromise}
use Rattle.rh_rules.specs.Tables.{declared_promise, named_shape, is_among, lens_of}
use Rattle.rh_rules.specs.Bodies.{promises_put}
use Rattle.rh_rules.specs.Lawful.{IsAmong, IsEnclosedBelow, is_product, has_product, product_checks}
use Rattle.rh_rules.specs.Kept.{KeptCheck}
use Rattle.rh_rules.specs.declared.block.OpenBlock.{OpenBlock}
use Rattle.rh_rules.specs.declared.block.OpenBlock.TheVariants.{TaskBlock, MatrixBlock, GroupBlock, ScopeBlock}
use Rattle.rh_sparse.specs.Matrix.{MatrixData}
use Rattle.rh_rules.specs.Above.{Facts, words_in, shown_in, group_in}
use Rattle.rh_rules.specs.Rules.{is_promise_over, is_corrected, ends_uncorrected}
use Rattle.rh_rules.specs.Facets.{facets}
use Rattle.rh_planner.specs.Sound.{AreCounted}
use Rattle.rh_planner.proofs.After.{with_promise, with_matrix, with_begun, with_finish, with_closed, ended_task, with_end}
use Rattle.rh_planner.proofs.OpenBlocks.{with_none}
use Rattle.rh_tables.proofs.Using.{neither}
use Rattle.rh_planner.proofs.DeclaredPromises.{putter_parts, putter_at, scope_parts, scope_at, name_is, slice_get_append}
use Rattle.rh_planner.proofs.SoundChecks.{check_grown}
use Rattle.rh_tables.proofs.SoundTasks.{IsShort, Grows, all_map, locals_grown, task_grown, all_append, some_and, some_is}
use Rattle.rh_planner.proofs.SoundFacts.{AreNamed, AreSound, IsSoundPromise, IsSoundNode, a_task, IsTaskNode, IsSoundBlock, IsOpenScope, block_names, scope_names, named_kept, named_push, named_insert, node_grown, enclosed_grown, enclosed_next, blocks_grown, blocks_kept, idle_task, slice_get_last, slice_get_push_cases}
use Rattle.rh_planner.proofs.LocalNames.{no_locals, all_counted, locals_named_grown}

declared_grows : (ps : List PlannedPromise) (p : PlannedPromise) → Grows ps (ps ++ p ∷ [])
declared_grows ps p = record {
  putters = λ q u e.
      let (x, at, put) = putter_parts ps q u e in
      putter_at (ps ++ p ∷ []) q x (slice_get_append ps (p ∷ []) q x at) ∙ put;
  scopes = λ q b e.
      let (x, at, is) = scope_parts ps q b e in
      scope_at (ps ++ p ∷ []) q x (slice_get_append ps (p ∷ []) q x at) ∙ ap Some is;
  lens = (p.len ∷ [], map-append (λ (x : PlannedPromise). x.len) ps (p ∷ []));
  names = (p.name ∷ [], map-append (λ (x : PlannedPromise). x.name) ps (p ∷ []));
}

sum_push : (f : PlannedPromise → ℕ) (ps : List PlannedPromise) (p : PlannedPromise) → sum (map f (ps ++ p ∷ [])) ≡ sum (map f ps) + f p
sum_push f ps p = sum-map f (ps ++ p ∷ []) ∙ sum_by_push f ps p ∙ ap (λ n. n + f p) (sym (sum-map f ps))

abbrev shown_by : PlannedPromise → ℕ
shown_by p = cond (not p.temp && not p.scope) p.len 0

limits : (ps : List PlannedPromise) (p : PlannedPromise) → is_promise_over ps p ≡ false → (length (ps ++ p ∷ []) ≤ 16384) × (words_in (ps ++ p ∷ []) ≤ 16777216) × (shown_in (ps ++ p ∷ []) ≤ 1048576)
limits ps p room =
    let (first, third) = neither (nat_le 16384 (length ps) || nat_lt 16777216 (words_in ps + p.len)) (nat_lt 1048576 (shown_in ps + shown_in (p ∷ []))) room in
    let (one, two) = neither (nat_le 16384 (length ps)) (nat_lt 16777216 (words_in ps + p.len)) first in
    let len : length (ps ++ p ∷ []) ≡ length ps + 1 = length-append ps (p ∷ []) in
    let words : words_in (ps ++ p ∷ []) ≡ words_in ps + p.len = sum_push (λ x. x.len) ps p in
    let shown : shown_in (ps ++ p ∷ []) ≡ shown_in ps + shown_by p = sum_push shown_by ps p in
    (grind (arith, nat_tests), grind (arith, nat_tests), grind (arith, nat_tests))

-- one more promise, with these blocks open
abbrev with_declared : Facts → PlannedPromise → List OpenBlock → Facts
with_declared f p blocks = record f { names = f.names ++ p.name ∷ []; promises = f.promises ++ p ∷ []; blocks = blocks }

-- Nothing puts the promise yet. It is that of an open scope where it is a scope's own, and these blocks have the open scopes.
record IsDeclaring (f : Facts) (p : PlannedPromise) (blocks : List OpenBlock) : Type 0 where
  fresh : is_among p.name f.names ≡ false
  room : is_promise_over f.promises p ≡ false
  named : is_name p.name ≡ true
  short : IsShort p.len
  unput : p.putter ≡ None
  names : AreNamed (map (λ (node : Node). node.name) f.nodes ++ block_names blocks) (f.names ++ p.name ∷ [])
  blocks_sound : AllByRecursion (IsSoundBlock f.nodes (f.promises ++ p ∷ [])) blocks
  own : p.scope ≡ true → is_among p.name (scope_names blocks) ≡ true
  others : (n : List ℕ) → is_among n (scope_names f.blocks) ≡ true → is_among n (scope_names blocks) ≡ true

sound_declared : (shapes : List Shape) (f : Facts) (p : PlannedPromise) (blocks : List OpenBlock) → AreSound shapes f → IsDeclaring f p blocks → AreSound shapes (with_declared f p blocks)
sound_declared shapes f p blocks s d =
    let ps : List PlannedPromise = f.promises ++ p ∷ [] in
    let grows = declared_grows f.promises p in
    let most = limits f.promises p d.room in
    record {
      promise_names = subst (λ (l : List (List ℕ)). AreNamed l (f.names ++ p.name ∷ [])) (sym (map-append (λ (x : PlannedPromise). x.name) f.promises (p ∷ []))) (named_push (map (λ (x : PlannedPromise). x.name) f.promises) f.names p.name s.promise_names d.fresh);
      node_names = d.names;
      blocks = d.blocks_sound;
      promises = all_append IsSoundPromise f.promises (p ∷ []) s.promises (record { name = d.named; len = d.short }, tt);
      few = most.0;
      total = most.1;
      shown = most.2;
      ended = λ v node at. node_grown shapes f.promises ps v node grows (s.ended v node at);
      matrices = s.matrices;
      enclosed = s.enclosed;
      task = task_grown shapes f.promises ps (length f.nodes) f.inputs f.steps grows s.task;
      lens = locals_grown shapes f.promises ps (length f.nodes) f.inputs f.steps grows s.task.awaited ∙ s.lens;
      drops = s.drops;
      drops_within = s.drops_within;
      named = locals_named_grown f.promises ps (length f.nodes) f.inputs f.locals grows s.task.awaited s.named;
      checks = all_map f.checks (λ c sound. check_grown shapes f.promises ps (length f.nodes) f.inputs (promises_put f.steps) c grows s.task.awaited s.task.own sound) s.checks;
      unchecked = s.unchecked;
      put = λ q v e.
          let (x, at, put) = putter_parts ps q v e in
          elim (slice_get_push_cases f.promises p q x at) [
            | inl old ↦ s.put q v (putter_at f.promises q x old ∙ put)
            | inr new ↦ absurd (none-some v (sym d.unput ∙ ap (λ (y : PlannedPromise). y.putter) new.1 ∙ put))
          ];
      scopes = λ q x at scope none. elim (slice_get_push_cases f.promises p q x at) [
        | inl old ↦ d.others x.name (s.scopes q x old scope none)
        | inr new ↦ subst (λ (y : PlannedPromise). is_among y.name (scope_names blocks) ≡ true) new.1 (d.own (ap (λ (y : PlannedPromise). y.scope) new.1 ∙ scope))
      ];
    }

-- open blocks stay sound beside one more promise
blocks_declared : (shapes : List Shape) (f : Facts) (p : PlannedPromise) → AreSound shapes f → AllByRecursion (IsSoundBlock f.nodes (f.promises ++ p ∷ [])) f.blocks
blocks_declared shapes f p s = blocks_kept f.nodes f.promises (f.promises ++ p ∷ []) f.blocks (λ i x at among scope. slice_get_append f.promises (p ∷ []) i x at) s.blocks

pub sound_promise : (shapes : List Shape) (f : Facts) (name : List ℕ) (len : ℕ) (temp : Bool) → AreSound shapes f → is_among name f.names ≡ false → is_promise_over f.promises (declared_promise name len temp false) ≡ false → is_name name ≡ true → IsShort len → AreSound shapes (with_promise f name len temp)
sound_promise shapes f name len temp s fresh room named short =
    let p : PlannedPromise = declared_promise name len temp false in
    sound_declared shapes f p f.blocks s (record {
      fresh = fresh;
      room = room;
      named = named;
      short = short;
      unput = refl;
      names = named_kept (map (λ (node : Node). node.name) f.nodes ++ block_names f.blocks) f.names name s.node_names;
      blocks_sound = blocks_declared shapes f p s;
      own = λ scope. absurd (false≢true scope);
      others = λ n among. among;
    })

-- such facts stay sound where the blocks have the same names
sound_none : (shapes : List Shape) (f : Facts) (outer : List OpenBlock) (closed : List MatrixData) (begun : Option MatrixData) → AreSound shapes f → f.steps ≡ [] → block_names f.blocks ≡ block_names outer → scope_names f.blocks ≡ scope_names outer → AllByRecursion (IsSoundBlock f.nodes f.promises) outer
    → AreSound shapes (with_none f outer closed begun)
sound_none shapes f outer closed begun s idle names scopes blocks = record {
  promise_names = s.promise_names;
  node_names = subst (λ (l : List (List ℕ)). AreNamed (map (λ (node : Node). node.name) f.nodes ++ l) f.names) names s.node_names;
  blocks = blocks;
  promises = s.promises;
  few = s.few;
  total = s.total;
  shown = s.shown;
  ended = s.ended;
  matrices = s.matrices;
  enclosed = s.enclosed;
  task = idle_task shapes f.promises (length f.nodes);
  lens = refl;
  drops = refl;
  drops_within = tt;
  checks = tt;
  unchecked = λ h. refl;
  named = no_locals f.promises;
  put = λ q v e. elim (s.put q v e) [
    | inl old ↦ inl old
    | inr open_one ↦ absurd (false≢true (subst (λ (l : List Step). IsAmong (promises_put l) q) idle open_one.1))
  ];
  scopes = λ q p at scope none. subst (λ (l : List (List ℕ)). is_among p.name l ≡ true) scopes (s.scopes q p at scope none);
}

-- a line that declares a matrix
pub sound_matrix : (shapes : List Shape) (f : Facts) (name : List ℕ) (rows cols : ℕ) → AreSound shapes f → f.steps ≡ [] → is_among name f.names ≡ false → 1 ≤ rows → AreSound shapes (with_matrix f name rows cols)
sound_matrix shapes f name rows cols s idle fresh some = record {
  promise_names = named_kept (map (λ (p : PlannedPromise). p.name) f.promises) f.names name s.promise_names;
  node_names = named_kept (map (λ (node : Node). node.name) f.nodes ++ block_names f.blocks) f.names name s.node_names;
  blocks = (tt, s.blocks);
  promises = s.promises;
  few = s.few;
  total = s.total;
  shown = s.shown;
  ended = s.ended;
  matrices = all_append (λ m. 1 ≤ m.shape.rows) f.matrices (named_shape name rows cols ∷ []) s.matrices (some, tt);
  enclosed = s.enclosed;
  task = idle_task shapes f.promises (length f.nodes);
  lens = refl;
  drops = refl;
  drops_within = tt;
  checks = tt;
  unchecked = λ h. refl;
  named = no_locals f.promises;
  put = λ q v e. elim (s.put q v e) [
    | inl old ↦ inl old
    | inr open_one ↦ absurd (false≢true (subst (λ (l : List Step). IsAmong (promises_put l) q) idle open_one.1))
  ];
  scopes = s.scopes;
}

-- a row of the open matrix
pub sound_row : (shapes : List Shape) (f : Facts) (begun : Option MatrixData) → AreSound shapes f → AreSound shapes (with_begun f begun)
sound_row shapes f begun s = record {
  promise_names = s.promise_names;
  node_names = s.node_names;
  blocks = s.blocks;
  promises = s.promises;
  few = s.few;
  total = s.total;
  shown = s.shown;
  ended = s.ended;
  matrices = s.matrices;
  enclosed = s.enclosed;
  task = s.task;
  lens = s.lens;
  drops = s.drops;
  drops_within = s.drops_within;
  checks = s.checks;
  unchecked = s.unchecked;
  named = s.named;
  put = s.put;
  scopes = s.scopes;
}

pub sound_finish : (shapes : List Shape) (f : Facts) (name : List ℕ) → AreSound shapes f → f.steps ≡ [] → is_among name f.names ≡ false → is_promise_over f.promises (declared_promise name 3 false true) ≡ false → is_name name ≡ true → AreSound shapes (with_finish f name)
sound_finish shapes f name s idle fresh room named =
    let p : PlannedPromise = declared_promise name 3 false true in
    let blocks : List OpenBlock = ScopeBlock name f.count ∷ f.blocks in
    let own : IsOpenScope (f.promises ++ p ∷ []) name = record { named = named; at = length f.promises; own = p; there = slice_get_last f.promises p; is = refl; scope = refl; unput = refl; len = refl } in
    let all : AllByRecursion (IsSoundBlock f.nodes (f.promises ++ p ∷ [])) blocks = (own, blocks_declared shapes f p s) in
    sound_none shapes (with_declared f p blocks) blocks f.closed None (sound_declared shapes f p blocks s (record {
      fresh = fresh;
      room = room;
      named = named;
      short = (omega arith, omega arith);
      unput = refl;
      names = named_insert (map (λ (node : Node). node.name) f.nodes) (block_names f.blocks) f.names name s.node_names fresh;
      blocks_sound = all;
      own = λ scope. or_left (bytes_eq name name) (is_among name (scope_names f.blocks)) (name_is name name refl);
      others = λ n among. or_right (bytes_eq name n) (is_among n (scope_names f.blocks)) among;
    })) idle refl refl all

-- the names of the nodes and the open blocks, where the innermost block becomes a node
pub names_ended : (shapes : List Shape) (f : Facts) (node : Node) (outer : List OpenBlock) → AreSound shapes f → block_names f.blocks ≡ node.name ∷ block_names outer → AreNamed (map (λ (n : Node). n.name) (f.nodes ++ node ∷ []) ++ block_names outer) f.names
names_ended shapes f node outer s opened =
    let names = map (λ (n : Node). n.name) f.nodes in
    subst (λ (l : List (List ℕ)). AreNamed l f.names)
    (ap (λ (l : List (List ℕ)). names ++ l) opened ∙ sym (append_assoc names (node.name ∷ []) (block_names outer)) ∙ ap (λ (l : List (List ℕ)). l ++ block_names outer) (sym (map-append (λ (n : Node). n.name) f.nodes (node ∷ []))))
    s.node_names

-- what encloses each node, with one more
pub enclosed_more : (shapes : List Shape) (f : Facts) (node : Node) → AreSound shapes f → node.group ≡ group_in f.blocks → (v : ℕ) (n : Node) → slice_get (f.nodes ++ node ∷ []) v ≡ Some n → IsEnclosedBelow (f.nodes ++ node ∷ []) v n.group
enclosed_more shapes f node s group v n at = elim (slice_get_push_cases f.nodes node v n at) [
  | inl old ↦ enclosed_grown f.nodes (node ∷ []) v n.group (s.enclosed v n old)
  | inr new ↦
      let here : IsEnclosedBelow f.nodes (length f.nodes) node.group = subst (IsEnclosedBelow f.nodes (length f.nodes)) (sym group) (enclosed_next f.nodes f.promises f.blocks s.blocks) in
      enclosed_grown f.nodes (node ∷ []) v n.group (subst (λ (m : Node). IsEnclosedBelow f.nodes v m.group) new.1 (subst (λ (k : ℕ). IsEnclosedBelow f.nodes k node.group) (sym new.0) here))
]

more_products : (b : Bool) (c : KeptCheck) (checks : List KeptCheck) → (has_product checks ≡ true → 1 ≤ length (product_checks checks)) → (b || has_product checks) ≡ true → 1 ≤ length (cond b (c ∷ product_checks checks) (product_checks checks))
more_products true c checks rest e = omega arith
more_products false c checks rest e = rest e

-- where one of the checks is that of a product, there is one at least
some_product : (checks : List KeptCheck) → has_product checks ≡ true → 1 ≤ length (product_checks checks)
some_product [] e = absurd (false≢true e)
some_product (c ∷ checks) e = more_products (is_product c.spec) c checks (some_product checks) e

-- the `end` of a task with correction comes below a check of a product
corrected_end : (f : Facts) → ends_uncorrected f text.End ≡ false → is_corrected f.scheme ≡ true → has_product f.checks ≡ true
unfolding facets
corrected_end f e corrected = step (is_corrected f.scheme) (has_product f.checks) corrected e
  where
    step : (a b : Bool) → a ≡ true → (a && not b) ≡ false → b ≡ true
    step true true h g = refl
    step true false h g = absurd (true≢false g)
    step false b h g = absurd (false≢true h)

pub sound_end : (shapes : List Shape) (above : List Statement) (f : Facts) (name : List ℕ) (outer : List OpenBlock) → AreSound shapes f → AreCounted above f → lets_here above ≤ 32 → checks_here above ≤ 16 → ends_uncorrected f text.End ≡ false → f.blocks ≡ TaskBlock name ∷ outer → AreSound shapes (with_end f name outer)
sound_end shapes above f name outer s c few checks ends block =
    let n : Node = ended_task f name outer in
    let inner : AllByRecursion (IsSoundBlock f.nodes f.promises) (TaskBlock name ∷ outer) = subst (AllByRecursion (IsSoundBlock f.nodes f.promises)) block s.blocks in
    let inputs : length f.inputs ≤ 16 = c.inputs in
    let locals : length f.locals ≤ length f.inputs + lets_here above = c.locals in
    let mapped : length (lens_of f.locals) ≡ length f.locals = simp length-map in
    let checked : length f.checks ≤ checks_here above = c.checks in
    let few_locals : length (lens_of f.locals) ≤ 48 = omega arith in
    let ended : IsTaskNode shapes f.promises (length f.nodes) n = record {
      name = inner.0;
      is = refl;
      few = inputs;
      few_locals = subst (λ (l : List ℕ). length l ≤ 48) (sym s.lens) few_locals;
      task = s.task;
      all_named = all_counted f.promises f.inputs f.locals s.named ∙ sym mapped ∙ ap length (sym s.lens);
      lets_named = s.named.lets;
      names_once = subst (IsDistinct bytes_eq) s.named.parts s.named.once;
      few_checks = omega arith;
      checks = s.checks;
      planned = c.scheme;
      unchecked = s.unchecked;
      corrected = λ scheme.
          let one = c.one_product scheme in
          let some = some_product f.checks (corrected_end f ends scheme) in
          omega arith;
    } in
    record {
      promise_names = s.promise_names;
      node_names = names_ended shapes f n outer s (ap block_names block);
      blocks = blocks_grown f.nodes (n ∷ []) f.promises outer inner.1;
      promises = s.promises;
      few = s.few;
      total = s.total;
      shown = s.shown;
      ended = λ v node at. elim (slice_get_push_cases f.nodes n v node at) [
        | inl old ↦ s.ended v node old
        | inr new ↦ subst (λ (m : Node). IsSoundNode shapes f.promises v m) new.1 (subst (λ (k : ℕ). IsSoundNode shapes f.promises k n) (sym new.0) (a_task ended))
      ];
      matrices = s.matrices;
      enclosed = enclosed_more shapes f n s (ap group_in (sym block));
      task = idle_task shapes f.promises (length (f.nodes ++ n ∷ []));
      lens = refl;
      drops = refl;
      drops_within = tt;
      named = no_locals f.promises;
      checks = tt;
      unchecked = λ none. refl;
      put = λ q v e. elim (s.put q v e) [
        | inl old ↦ inl (some_and (λ (node : Node). IsAmong node.puts q) (slice_get f.nodes v) (slice_get (f.nodes ++ n ∷ []) v) (λ node is. slice_get_append f.nodes (n ∷ []) v node is) old)
        | inr open_one ↦ inl (some_is (λ (node : Node). IsAmong node.puts q) (slice_get (f.nodes ++ n ∷ []) v) n (ap (λ (k : ℕ). slice_get (f.nodes ++ n ∷ []) k) open_one.0 ∙ slice_get_last f.nodes n) open_one.1)
      ];
      scopes = λ q p at scope none. subst (λ (l : List (List ℕ)). is_among p.name l ≡ true) (ap scope_names block) (s.scopes q p at scope none);
    }

pub sound_end_matrix : (shapes : List Shape) (f : Facts) (outer : List OpenBlock) → AreSound shapes f → f.steps ≡ [] → f.blocks ≡ MatrixBlock ∷ outer → AreSound shapes (with_closed f outer)
sound_end_matrix shapes f outer s idle block = sound_none shapes f outer _ None s idle (ap block_names block) (ap scope_names block) (subst (AllByRecursion (IsSoundBlock f.nodes f.promises)) block s.blocks).1

pub sound_end_group : (shapes : List Shape) (f : Facts) (number : ℕ) (outer : List OpenBlock) → AreSound shapes f → f.steps ≡ [] → f.blocks ≡ GroupBlock number ∷ outer → AreSound shapes (with_closed f outer)
sound_end_group shapes f number outer s idle block = sound_none shapes f outer _ None s idle (ap block_names block) (ap scope_names block) (subst (AllByRecursion (IsSoundBlock f.nodes f.promises)) block s.blocks).1
