-- What holds of the names, the promises, the nodes and the open task above each line.
use Rattle.std.proofs.Common.{◌≡◌, ℕ, zero, suc, ◌+◌, ◌<◌, ◌≤◌, List, [], ◌∷◌, ◌++◌, Bool, true, false, Option, Some, None, arith, length-append, length, map, slice_index, refl, ap, sym, ◌∙◌, subst, ◌⊎◌, inl, inr}
use Rattle.std.specs.Prelude.{slice_get, IsSomeAnd, nat_eq, ◌||◌}
use Rattle.std.specs.List.{AllByRecursion, IsDistinct, list_any}
use Rattle.std.specs.Str.{bytes_eq}
use Rattle.std.specs.Cmp.Lexicographic.{nat_list_eq_equiv}
use Rattle.std.proofs.lemmas.Bool.{true≢false, or_left, or_right}
use Rattle.std.proofs.lemmas.Bool.Decides.{eqb_tells}
use Rattle.std.proofs.lemmas.Option.{none-some, same_Some, slice_get_within}
use Rattle.std.proofs.lemmas.List.{get_or_append_left}
use Rattle.std.proofs.lemmas.List.Folds.{list_any-append}
use Rattle.std.proofs.lemmas.Map.Keys.{IsDistinct-push}
use Rattle.rh_rules.specs.declared.node.TheConstants.{SCOPE_WORDS}
use Rattle.rh_words.specs.Naming.{is_name}
use Rattle.rh_rules.specs.declared.shape.Shape.{Shape}
use Rattle.rh_rules.specs.declared.body.Step.{Step}
use Rattle.rh_rules.specs.declared.node.Node.{Node}
use Rattle.rh_rules.specs.declared.node.Kind.TheVariants as kinds
use Rattle.rh_rules.specs.declared.node.PlannedPromise.{PlannedPromise}
use Rattle.rh_rules.specs.Tables.{is_among, is_in, lens_of}
use Rattle.rh_rules.specs.Bodies.{promises_put, drops_of}
use Rattle.rh_rules.specs.Lawful.{promise_lens, putter_of, IsAmong, IsEnclosedBelow, names_at, product_checks}
use Rattle.rh_rules.specs.declared.block.OpenBlock.{OpenBlock}
use Rattle.rh_rules.specs.declared.block.OpenBlock.TheVariants.{TaskBlock, MatrixBlock, GroupBlock, ScopeBlock}
use Rattle.rh_rules.specs.Above.{Facts, words_in, shown_in, task_node, group_node, scope_node, group_in}
use Rattle.rh_tables.proofs.Using.{neither}
use Rattle.rh_planner.proofs.DeclaredPromises.{same_name, name_is, slice_get_append}
use Rattle.rh_tables.proofs.SoundTasks.{IsShort, IsSoundTask, Grows, scope_of, lens_here, locals_grown, task_grown, all_map, all_append, some_and, some_parts}
use Rattle.rh_rules.specs.Rules.{may_check, is_corrected}
use Rattle.rh_planner.specs.Sound.{IsPlannedScheme}
use Rattle.rh_planner.proofs.SoundChecks.{IsSoundCheck, check_grown}
use Rattle.rh_planner.proofs.LocalNames.{AreNamedLocals, names_grown}

-- the names are declared, each once
pub record AreNamed (names declared : List (List ℕ)) : Type 0 where
  pub once : IsDistinct bytes_eq names
  pub there : AllByRecursion (λ n. is_among n declared ≡ true) names

-- the names of the open tasks and scopes
abbrev pub block_names : List OpenBlock → List (List ℕ)
block_names [] = []
block_names (TaskBlock name ∷ blocks) = name ∷ block_names blocks
block_names (MatrixBlock ∷ blocks) = block_names blocks
block_names (GroupBlock number ∷ blocks) = block_names blocks
block_names (ScopeBlock name first ∷ blocks) = name ∷ block_names blocks

-- the names of the open scopes
abbrev pub scope_names : List OpenBlock → List (List ℕ)
scope_names [] = []
scope_names (TaskBlock name ∷ blocks) = scope_names blocks
scope_names (MatrixBlock ∷ blocks) = scope_names blocks
scope_names (GroupBlock number ∷ blocks) = scope_names blocks
scope_names (ScopeBlock name first ∷ blocks) = name ∷ scope_names blocks

-- a promise of a name and a length that the grammar allows
pub record IsSoundPromise (p : PlannedPromise) : Type 0 where
  pub name : is_name p.name ≡ true
  pub len : IsShort p.len

-- a task that ended
pub record IsTaskNode (shapes : List Shape) (ps : List PlannedPromise) (v : ℕ) (node : Node) : Type 0 where
  pub name : is_name node.name ≡ true
  pub is : node ≡ task_node node.name node.scheme node.awaits node.lets node.group node.body node.checks
  pub few : length node.awaits ≤ 16
  pub few_locals : length (lens_here shapes ps node.awaits node.body) ≤ 48
  pub task : IsSoundTask shapes ps v node.awaits node.body
  pub all_named : length node.awaits + length node.lets ≡ length (lens_here shapes ps node.awaits node.body)
  pub lets_named : AllByRecursion (λ n. is_name n ≡ true) node.lets
  pub names_once : IsDistinct bytes_eq (names_at ps node.awaits ++ node.lets)
  pub few_checks : length node.checks ≤ 16
  pub checks : AllByRecursion (IsSoundCheck shapes ps node.awaits (promises_put node.body)) node.checks
  pub planned : IsPlannedScheme node.scheme
  pub unchecked : may_check node.scheme ≡ false → node.checks ≡ []
  pub corrected : is_corrected node.scheme ≡ true → length (product_checks node.checks) ≡ 1

-- a group, which awaits what is put before it
pub record IsGroupNode (ps : List PlannedPromise) (v : ℕ) (node : Node) : Type 0 where
  pub name : is_name node.name ≡ true
  pub is : node ≡ group_node node.name node.awaits node.group
  pub few : length node.awaits ≤ 16
  pub awaited : AllByRecursion (λ q. IsSomeAnd (putter_of ps q) (λ u. u < v)) node.awaits
  pub awaits_once : IsDistinct nat_eq node.awaits

-- a scope that ended, and puts its own promise of three words
pub record IsScopeNode (ps : List PlannedPromise) (v : ℕ) (node : Node) : Type 0 where
  pub name : is_name node.name ≡ true
  pub own : ℕ
  pub first : ℕ
  pub is : node ≡ scope_node node.name own node.group first v
  pub put : putter_of ps own ≡ Some v
  pub scope : scope_of ps own ≡ Some true
  pub within : own < length (promise_lens ps)
  pub len : slice_index (promise_lens ps) own ≡ 3

pub data IsSoundNode (shapes : List Shape) (ps : List PlannedPromise) (v : ℕ) (node : Node) : Type 0 where
  a_task : IsTaskNode shapes ps v node → IsSoundNode shapes ps v node
  a_group : IsGroupNode ps v node → IsSoundNode shapes ps v node
  a_scope : IsScopeNode ps v node → IsSoundNode shapes ps v node

-- the own promise of an open scope is declared, and nothing puts it yet
pub record IsOpenScope (ps : List PlannedPromise) (name : List ℕ) : Type 0 where
  pub named : is_name name ≡ true
  pub at : ℕ
  pub own : PlannedPromise
  pub there : slice_get ps at ≡ Some own
  pub is : own.name ≡ name
  pub scope : own.scope ≡ true
  pub unput : own.putter ≡ None
  pub len : own.len ≡ SCOPE_WORDS

-- an open block: a group is a node above
abbrev pub IsSoundBlock : List Node → List PlannedPromise → OpenBlock → Type 0
IsSoundBlock nodes ps (TaskBlock name) = is_name name ≡ true
IsSoundBlock nodes ps MatrixBlock = Unit {0}
IsSoundBlock nodes ps (GroupBlock number) = IsSomeAnd (slice_get nodes number) (λ node. node.kind ≡ kinds.Group)
IsSoundBlock nodes ps (ScopeBlock name first) = IsOpenScope ps name

-- the promise of this number is put by the node of this number: one that ended, or the open task
abbrev pub IsPutBy : List Node → List Step → ℕ → ℕ → Type 0
IsPutBy nodes steps q v = IsSomeAnd (slice_get nodes v) (λ node. IsAmong node.puts q) ⊎ ((v ≡ length nodes) × IsAmong (promises_put steps) q)

pub record AreSound (shapes : List Shape) (f : Facts) : Type 0 where
  pub promise_names : AreNamed (map (λ p. p.name) f.promises) f.names
  pub node_names : AreNamed (map (λ node. node.name) f.nodes ++ block_names f.blocks) f.names
  pub blocks : AllByRecursion (IsSoundBlock f.nodes f.promises) f.blocks
  pub promises : AllByRecursion IsSoundPromise f.promises
  pub few : length f.promises ≤ 16384
  pub total : words_in f.promises ≤ 16777216
  pub shown : shown_in f.promises ≤ 1048576
  pub ended : (v : ℕ) (node : Node) → slice_get f.nodes v ≡ Some node → IsSoundNode shapes f.promises v node
  pub matrices : AllByRecursion (λ m. 1 ≤ m.shape.rows) f.matrices
  pub enclosed : (v : ℕ) (node : Node) → slice_get f.nodes v ≡ Some node → IsEnclosedBelow f.nodes v node.group
  pub task : IsSoundTask shapes f.promises (length f.nodes) f.inputs f.steps
  pub lens : lens_here shapes f.promises f.inputs f.steps ≡ lens_of f.locals
  pub drops : drops_of f.steps ≡ map (λ i. slice_index f.inputs i) f.drops
  pub drops_within : AllByRecursion (λ i. i < length f.inputs) f.drops
  pub named : AreNamedLocals f.promises f.inputs f.locals
  pub checks : AllByRecursion (IsSoundCheck shapes f.promises f.inputs (promises_put f.steps)) f.checks
  pub unchecked : may_check f.scheme ≡ false → f.checks ≡ []
  pub put : (q v : ℕ) → putter_of f.promises q ≡ Some v → IsPutBy f.nodes f.steps q v
  pub scopes : (q : ℕ) (p : PlannedPromise) → slice_get f.promises q ≡ Some p → p.scope ≡ true → p.putter ≡ None → is_among p.name (scope_names f.blocks) ≡ true

pub slice_get_last : {X : Type 0} (xs : List X) (y : X) → slice_get (xs ++ y ∷ []) (length xs) ≡ Some y
slice_get_last [] y = refl
slice_get_last (a ∷ xs) y = slice_get_last xs y

pub slice_get_push_cases : {X : Type 0} (xs : List X) (y : X) (i : ℕ) (x : X) → slice_get (xs ++ y ∷ []) i ≡ Some x → (slice_get xs i ≡ Some x) ⊎ ((i ≡ length xs) × (y ≡ x))
slice_get_push_cases [] y zero x e = inr (refl, same_Some y x e)
slice_get_push_cases [] y (suc i) x e = absurd (none-some x e)
slice_get_push_cases (a ∷ xs) y zero x e = inl e
slice_get_push_cases (a ∷ xs) y (suc i) x e = elim (slice_get_push_cases xs y i x e) [
  | inl old ↦ inl old
  | inr new ↦ inr (ap suc new.0, new.1)
]

pub named_kept : (names declared : List (List ℕ)) (x : List ℕ) → AreNamed names declared → AreNamed names (declared ++ x ∷ [])
named_kept names declared x h = record {
  once = h.once;
  there = all_map names (λ n e. list_any-append (λ m. bytes_eq m n) declared (x ∷ []) ∙ or_left (is_among n declared) (is_among n (x ∷ [])) e) h.there;
}

apart_from : (x : List ℕ) (declared names : List (List ℕ)) → is_among x declared ≡ false → AllByRecursion (λ n. is_among n declared ≡ true) names → list_any (bytes_eq x) names ≡ false
apart_from x declared [] fresh there = refl
apart_from x declared (n ∷ names) fresh there = step (apart_from x declared names fresh there.1) (bytes_eq x n) refl
  where
    step : list_any (bytes_eq x) names ≡ false → (b : Bool) → bytes_eq x n ≡ b → (b || list_any (bytes_eq x) names) ≡ false
    step rest true e = absurd (true≢false (sym there.0 ∙ ap (λ m. is_among m declared) (sym (same_name x n e)) ∙ fresh))
    step rest false e = rest

or_false : (b : Bool) → (b || false) ≡ b
or_false true = refl
or_false false = refl

pub named_push : (names declared : List (List ℕ)) (x : List ℕ) → AreNamed names declared → is_among x declared ≡ false → AreNamed (names ++ x ∷ []) (declared ++ x ∷ [])
named_push names declared x h fresh = record {
  once = IsDistinct-push nat_list_eq_equiv names x h.once (apart_from x declared names fresh h.there);
  there = all_append (λ n. is_among n (declared ++ x ∷ []) ≡ true) names (x ∷ []) (named_kept names declared x h).there
      (list_any-append (λ m. bytes_eq m x) declared (x ∷ []) ∙ or_right (is_among x declared) (is_among x (x ∷ [])) (or_false (bytes_eq x x) ∙ name_is x x refl), tt);
}

all_insert : {X : Type 0} (P : X → Type 0) (xs : List X) (y : X) (zs : List X) → AllByRecursion P (xs ++ zs) → P y → AllByRecursion P (xs ++ y ∷ zs)
all_insert P [] y zs all h = (h, all)
all_insert P (x ∷ xs) y zs all h = (all.0, all_insert P xs y zs all.1 h)

all_apart : (x : List ℕ) (names : List (List ℕ)) → list_any (bytes_eq x) names ≡ false → AllByRecursion (λ n. bytes_eq x n ≡ false) names
all_apart x [] e = tt
all_apart x (n ∷ names) e = let (first, rest) = neither (bytes_eq x n) (list_any (bytes_eq x) names) e in (first, all_apart x names rest)

distinct_insert : (xs : List (List ℕ)) (y : List ℕ) (zs : List (List ℕ)) → IsDistinct bytes_eq (xs ++ zs) → AllByRecursion (λ n. bytes_eq y n ≡ false) (xs ++ zs) → IsDistinct bytes_eq (xs ++ y ∷ zs)
unfolding IsDistinct
distinct_insert [] y zs distinct apart = (apart, distinct)
distinct_insert (x ∷ xs) y zs distinct apart = (all_insert (λ n. bytes_eq x n ≡ false) xs y zs distinct.0 (nat_list_eq_equiv.symm x y ∙ apart.0), distinct_insert xs y zs distinct.1 apart.1)

-- one more name among the others
pub named_insert : (xs zs declared : List (List ℕ)) (y : List ℕ) → AreNamed (xs ++ zs) declared → is_among y declared ≡ false → AreNamed (xs ++ y ∷ zs) (declared ++ y ∷ [])
named_insert xs zs declared y h fresh = record {
  once = distinct_insert xs y zs h.once (all_apart y (xs ++ zs) (apart_from y declared (xs ++ zs) fresh h.there));
  there = all_insert (λ n. is_among n (declared ++ y ∷ []) ≡ true) xs y zs (named_kept (xs ++ zs) declared y h).there
      (list_any-append (λ m. bytes_eq m y) declared (y ∷ []) ∙ or_right (is_among y declared) (is_among y (y ∷ [])) (or_false (bytes_eq y y) ∙ name_is y y refl));
}

task_node_grown : (shapes : List Shape) (ps qs : List PlannedPromise) (v : ℕ) (node : Node) → Grows ps qs → IsTaskNode shapes ps v node → IsTaskNode shapes qs v node
task_node_grown shapes ps qs v node grows h = record {
  name = h.name;
  is = h.is;
  few = h.few;
  few_locals = subst (λ (l : List ℕ). length l ≤ 48) (sym (locals_grown shapes ps qs v node.awaits node.body grows h.task.awaited)) h.few_locals;
  task = task_grown shapes ps qs v node.awaits node.body grows h.task;
  all_named = h.all_named ∙ ap length (sym (locals_grown shapes ps qs v node.awaits node.body grows h.task.awaited));
  lets_named = h.lets_named;
  few_checks = h.few_checks;
  checks = all_map node.checks (λ c sound. check_grown shapes ps qs v node.awaits (promises_put node.body) c grows h.task.awaited h.task.own sound) h.checks;
  planned = h.planned;
  unchecked = h.unchecked;
  corrected = h.corrected;
  names_once = subst (λ (l : List (List ℕ)). IsDistinct bytes_eq (l ++ node.lets)) (sym (names_grown ps qs v node.awaits grows h.task.awaited)) h.names_once;
}

group_node_grown : (ps qs : List PlannedPromise) (v : ℕ) (node : Node) → Grows ps qs → IsGroupNode ps v node → IsGroupNode qs v node
group_node_grown ps qs v node grows h = record {
  name = h.name;
  is = h.is;
  few = h.few;
  awaited = all_map node.awaits (λ q e. some_and (λ u. u < v) (putter_of ps q) (putter_of qs q) (grows.putters q) e) h.awaited;
  awaits_once = h.awaits_once;
}

scope_node_grown : (ps qs : List PlannedPromise) (v : ℕ) (node : Node) → Grows ps qs → IsScopeNode ps v node → IsScopeNode qs v node
scope_node_grown ps qs v node grows h =
    let (more, lens) = grows.lens in
    let within : h.own < length (promise_lens ps) = h.within in
    let longer : length (promise_lens qs) ≡ length (promise_lens ps) + length more = ap length lens ∙ length-append (promise_lens ps) more in
    record {
      name = h.name;
      own = h.own;
      first = h.first;
      is = h.is;
      put = grows.putters h.own v h.put;
      scope = grows.scopes h.own true h.scope;
      within = omega arith;
      len = ap (λ (l : List ℕ). slice_index l h.own) lens ∙ get_or_append_left (promise_lens ps) more 0 h.own within ∙ h.len;
    }

pub node_grown : (shapes : List Shape) (ps qs : List PlannedPromise) (v : ℕ) (node : Node) → Grows ps qs → IsSoundNode shapes ps v node → IsSoundNode shapes qs v node
node_grown shapes ps qs v node grows (a_task h) = a_task (task_node_grown shapes ps qs v node grows h)
node_grown shapes ps qs v node grows (a_group h) = a_group (group_node_grown ps qs v node grows h)
node_grown shapes ps qs v node grows (a_scope h) = a_scope (scope_node_grown ps qs v node grows h)

-- an enclosing group stays below more nodes
pub enclosed_grown : (nodes more : List Node) (v : ℕ) (group : Option ℕ) → IsEnclosedBelow nodes v group → IsEnclosedBelow (nodes ++ more) v group
enclosed_grown nodes more v None h = tt
enclosed_grown nodes more v (Some g) h = (h.0, some_and (λ (node : Node). node.kind ≡ kinds.Group) (slice_get nodes g) (slice_get (nodes ++ more) g) (λ node is. slice_get_append nodes more g node is) h.1)

-- what encloses a node that comes next
pub enclosed_next : (nodes : List Node) (ps : List PlannedPromise) (blocks : List OpenBlock) → AllByRecursion (IsSoundBlock nodes ps) blocks → IsEnclosedBelow nodes (length nodes) (group_in blocks)
enclosed_next nodes ps [] h = tt
enclosed_next nodes ps (TaskBlock name ∷ blocks) h = enclosed_next nodes ps blocks h.1
enclosed_next nodes ps (MatrixBlock ∷ blocks) h = enclosed_next nodes ps blocks h.1
enclosed_next nodes ps (GroupBlock number ∷ blocks) h =
    let (node, at, kind) = some_parts (λ (node : Node). node.kind ≡ kinds.Group) (slice_get nodes number) h.0 in
    (slice_get_within nodes number node at, h.0)
enclosed_next nodes ps (ScopeBlock name first ∷ blocks) h = enclosed_next nodes ps blocks h.1

-- open blocks stay sound below more nodes
pub blocks_grown : (nodes more : List Node) (ps : List PlannedPromise) (blocks : List OpenBlock) → AllByRecursion (IsSoundBlock nodes ps) blocks → AllByRecursion (IsSoundBlock (nodes ++ more) ps) blocks
blocks_grown nodes more ps [] h = tt
blocks_grown nodes more ps (TaskBlock name ∷ blocks) h = (h.0, blocks_grown nodes more ps blocks h.1)
blocks_grown nodes more ps (MatrixBlock ∷ blocks) h = (tt, blocks_grown nodes more ps blocks h.1)
blocks_grown nodes more ps (GroupBlock number ∷ blocks) h = (some_and (λ (node : Node). node.kind ≡ kinds.Group) (slice_get nodes number) (slice_get (nodes ++ more) number) (λ node is. slice_get_append nodes more number node is) h.0, blocks_grown nodes more ps blocks h.1)
blocks_grown nodes more ps (ScopeBlock name first ∷ blocks) h = (h.0, blocks_grown nodes more ps blocks h.1)

-- and beside promises in which their own are as they were
pub blocks_kept : (nodes : List Node) (ps qs : List PlannedPromise) (blocks : List OpenBlock) → ((i : ℕ) (p : PlannedPromise) → slice_get ps i ≡ Some p → is_among p.name (scope_names blocks) ≡ true → p.scope ≡ true → slice_get qs i ≡ Some p)
    → AllByRecursion (IsSoundBlock nodes ps) blocks → AllByRecursion (IsSoundBlock nodes qs) blocks
blocks_kept nodes ps qs [] stays h = tt
blocks_kept nodes ps qs (TaskBlock name ∷ blocks) stays h = (h.0, blocks_kept nodes ps qs blocks stays h.1)
blocks_kept nodes ps qs (MatrixBlock ∷ blocks) stays h = (tt, blocks_kept nodes ps qs blocks stays h.1)
blocks_kept nodes ps qs (GroupBlock number ∷ blocks) stays h = (h.0, blocks_kept nodes ps qs blocks stays h.1)
blocks_kept nodes ps qs (ScopeBlock name first ∷ blocks) stays h =
    let o = h.0 in (
      record { named = o.named; at = o.at; own = o.own; there = stays o.at o.own o.there (or_left (bytes_eq name o.own.name) (is_among o.own.name (scope_names blocks)) (name_is name o.own.name (sym o.is))) o.scope; is = o.is; scope = o.scope; unput = o.unput; len = o.len },
      blocks_kept nodes ps qs blocks (λ i p at among scope. stays i p at (or_right (bytes_eq name p.name) (is_among p.name (scope_names blocks)) among) scope) h.1,
    )

-- a task that has done nothing yet
none_distinct : IsDistinct nat_eq []
unfolding IsDistinct
none_distinct = tt

pub no_names : IsDistinct bytes_eq []
unfolding IsDistinct
no_names = tt

pub idle_task : (shapes : List Shape) (ps : List PlannedPromise) (v : ℕ) → IsSoundTask shapes ps v [] []
idle_task shapes ps v = record { awaited = tt; awaits_once = none_distinct; sound = tt; own = tt; once = none_distinct; unscoped = tt; dropped = tt; drops_once = none_distinct; short = tt }

pub no_numbers : IsDistinct nat_eq []
no_numbers = none_distinct

pub distinct_push : (xs : List ℕ) (y : ℕ) → IsDistinct nat_eq xs → AllByRecursion (λ x. nat_eq x y ≡ false) xs → IsDistinct nat_eq (xs ++ y ∷ [])
unfolding IsDistinct
distinct_push [] y distinct apart = (tt, tt)
distinct_push (x ∷ xs) y distinct apart = (all_append (λ z. nat_eq x z ≡ false) xs (y ∷ []) distinct.0 (apart.0, tt), distinct_push xs y distinct.1 apart.1)

-- a number is among these and itself
pub among_last : (xs : List ℕ) (y : ℕ) → IsAmong (xs ++ y ∷ []) y
among_last xs y =
    let own : list_any (λ m. nat_eq m y) (y ∷ []) ≡ true = elim (eqb_tells y y) [ inl e ↦ rw e.0 refl | inr o ↦ absurd (o.1 refl) ] in
    list_any-append (λ m. nat_eq m y) xs (y ∷ []) ∙ or_right (is_in y xs) (is_in y (y ∷ [])) own

pub among_more : (xs ys : List ℕ) (y : ℕ) → IsAmong xs y → IsAmong (xs ++ ys) y
among_more xs ys y h = list_any-append (λ m. nat_eq m y) xs ys ∙ or_left (is_in y xs) (is_in y ys) h
