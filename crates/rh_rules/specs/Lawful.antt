-- What holds of the nodes and promises that are planned, beside what the text says of them.
use Rattle.std.specs.Prelude.{ℕ, ◌≡◌, ◌<◌, ◌≤◌, ◌+◌, ◌↔◌, List, [], ◌∷◌, ◌++◌, Bool, Option, Some, None, ⊤, true, false, filter, length, map, slice_get, slice_index, slice_index_or, IsSomeAnd, is_some, nat_eq, option_and_then, take}
use Rattle.std.specs.List.{AllByRecursion, IsDistinct, list_any}
use Rattle.std.specs.Str.{bytes_eq}
use Rattle.rh_rules.specs.declared.node.TheConstants.{SCOPE_WORDS}
use Rattle.rh_words.specs.Naming.{is_name}
use Rattle.rh_words.specs.declared.limits.TheConstants.{MAX_NODES, MAX_PROMISES, MAX_PROMISE_WORDS, MAX_TOTAL_WORDS, MAX_SHOWN_WORDS, MAX_AWAITS, MAX_LETS, MAX_CHECKS, MAX_TERMS, MAX_SHIFT, MAX_REPLAYS}
use Rattle.rh_check.specs.declared.spec.Spec.{Spec}
use Rattle.rh_check.specs.declared.spec.Spec.TheVariants.{Range, Total, Linear, Conserve, Conserve2, Product, User}
use Rattle.rh_check.specs.declared.spec.UserSpec.{UserSpec}
use Rattle.rh_rules.specs.declared.node.Node.{Node}
use Rattle.rh_rules.specs.declared.node.Kind.{Kind}
use Rattle.rh_rules.specs.declared.node.Kind.TheVariants.{Task, Group, Scope}
use Rattle.rh_rules.specs.declared.node.Scheme.{Scheme}
use Rattle.rh_rules.specs.declared.node.Scheme.TheVariants.{Plain, Replicate, Replay, Abft}
use Rattle.rh_rules.specs.declared.node.PlannedPromise.{PlannedPromise}
use Rattle.rh_rules.specs.Kept.{KeptCheck}
use Rattle.rh_rules.specs.Tables.{is_in}
use Rattle.rh_rules.specs.declared.shape.Shape.{Shape}
use Rattle.rh_rules.specs.Bodies.{HasWords, AreHalos, AreSoundSteps, lens_at, lens_after_all, promises_put, drops_of}
use Rattle.rh_rules.specs.Above.{words_in, shown_in}

-- how many words each promise has
abbrev pub promise_lens : List PlannedPromise → List ℕ
promise_lens promises = map (λ p. p.len) promises

-- the node that puts a promise, where there is one
abbrev pub putter_of : List PlannedPromise → ℕ → Option ℕ
putter_of promises q = option_and_then (λ p. p.putter) (slice_get promises q)

-- one of the numbers is this one
abbrev pub IsAmong : List ℕ → ℕ → Type 0
IsAmong numbers q = is_in q numbers ≡ true

-- how many words the awaited promises of a task have
abbrev pub input_lens : List PlannedPromise → Node → List ℕ
input_lens promises node = lens_at (promise_lens promises) node.awaits

-- The check reads awaited words that are there, those of a step and of a product have the lengths that these need, and a handed-in check
-- has its spec kept. Matrices are given by their shapes, the awaited words and those that are put by their lengths.
abbrev pub IsFittingSpec : List Shape → List ℕ → ℕ → Option UserSpec → Spec → Type 0
IsFittingSpec shapes awaits put kept (Range lo hi) = ⊤
IsFittingSpec shapes awaits put kept (Total sum) = ⊤
IsFittingSpec shapes awaits put kept (Linear base terms count) = (count ≤ MAX_TERMS) × AllByRecursion (λ t. t.input < length awaits) (take count terms)
IsFittingSpec shapes awaits put kept (Conserve l m r k s) = HasWords awaits l × HasWords awaits m × HasWords awaits r × (s ≤ MAX_SHIFT) × (put ≡ slice_index awaits m)
IsFittingSpec shapes awaits put kept (Conserve2 north south west east m cols k s) = AreHalos awaits north south west east m cols × (s ≤ MAX_SHIFT) × (put ≡ slice_index awaits m)
IsFittingSpec shapes awaits put kept (Product matrix x) = (x < length awaits) × IsSomeAnd (slice_get shapes matrix) (λ s. (slice_index awaits x ≡ s.cols) × (put ≡ s.rows))
IsFittingSpec shapes awaits put kept (User at) = is_some kept ≡ true

-- a check reads a put of its task
pub record IsLawfulCheck (shapes : List Shape) (promises : List PlannedPromise) (node : Node) (check : KeptCheck) : Type 0 where
  pub put : IsAmong node.puts check.promise
  pub fits : IsFittingSpec shapes (input_lens promises node) (slice_index (promise_lens promises) check.promise) check.user check.spec

abbrev pub is_product : Spec → Bool
is_product (Range lo hi) = false
is_product (Total sum) = false
is_product (Linear base terms count) = false
is_product (Conserve l m r k s) = false
is_product (Conserve2 north south west east m cols k s) = false
is_product (Product matrix x) = true
is_product (User at) = false

-- the checks of a product among these
abbrev pub product_checks : List KeptCheck → List KeptCheck
product_checks checks = filter (λ c. is_product c.spec) checks

-- one of the checks is that of a product
abbrev pub has_product : List KeptCheck → Bool
has_product checks = list_any (λ c. is_product c.spec) checks

-- A replayed task has 1 to 8 attempts, a task with correction has one check of a product, and a plain or replicated task has no checks.
abbrev pub IsLawfulScheme : Node → Scheme → Type 0
IsLawfulScheme node Plain = node.checks ≡ []
IsLawfulScheme node Replicate = node.checks ≡ []
IsLawfulScheme node (Replay limit) = (1 ≤ limit) × (limit ≤ MAX_REPLAYS)
IsLawfulScheme node Abft = length (product_checks node.checks) ≡ 1

-- how many words the locals of a task have when it ends
abbrev pub local_lens : List Shape → List PlannedPromise → Node → List ℕ
local_lens shapes promises node = lens_after_all shapes (input_lens promises node) node.body

-- the names of the promises at these numbers
abbrev pub names_at : List PlannedPromise → List ℕ → List (List ℕ)
names_at promises numbers = map (λ q. slice_index_or (map (λ p. p.name) promises) q []) numbers

-- the names of the locals of a task: of the promises that it awaits, then of the results of its `let` lines
abbrev pub local_names : List PlannedPromise → Node → List (List ℕ)
local_names promises node = names_at promises node.awaits ++ node.lets

-- A task's steps are sound, its puts and drops are those of its steps, its locals are few and short, and each has a name of its own. It has no members.
pub record IsLawfulTask (shapes : List Shape) (promises : List PlannedPromise) (node : Node) : Type 0 where
  pub sound : AreSoundSteps shapes (promise_lens promises) (input_lens promises node) node.body
  pub puts : node.puts ≡ promises_put node.body
  pub dropped : AllByRecursion (IsAmong node.awaits) (drops_of node.body)
  pub drops_once : IsDistinct nat_eq (drops_of node.body)
  pub few_locals : length (local_lens shapes promises node) ≤ MAX_AWAITS + MAX_LETS
  pub short_locals : AllByRecursion (λ n. (1 ≤ n) × (n ≤ MAX_PROMISE_WORDS)) (local_lens shapes promises node)
  pub checks : AllByRecursion (IsLawfulCheck shapes promises node) node.checks
  pub scheme : IsLawfulScheme node node.scheme
  pub all_named : length node.awaits + length node.lets ≡ length (local_lens shapes promises node)
  pub lets_named : AllByRecursion (λ n. is_name n ≡ true) node.lets
  pub names_once : IsDistinct bytes_eq (local_names promises node)
  pub members : node.members ≡ []

-- a node that is no task: it has no steps, no checks and no scheme but `plain`
pub record IsBodiless (node : Node) : Type 0 where
  pub body : node.body ≡ []
  pub checks : node.checks ≡ []
  pub lets : node.lets ≡ []
  pub scheme : node.scheme ≡ Plain

-- a group puts nothing, and has no members
pub record IsLawfulGroup (node : Node) : Type 0 where
  pub bodiless : IsBodiless node
  pub puts : node.puts ≡ []
  pub members : node.members ≡ []

-- a scope awaits nothing, puts one promise of three words, and has each member once
pub record IsLawfulScope (promises : List PlannedPromise) (node : Node) : Type 0 where
  pub bodiless : IsBodiless node
  pub awaits : node.awaits ≡ []
  pub own : (q : ℕ) × (node.puts ≡ q ∷ []) × (slice_index (promise_lens promises) q ≡ SCOPE_WORDS)
  pub members_once : IsDistinct nat_eq node.members

-- a node of this kind is a task
abbrev pub is_task : Kind → Bool
is_task Task = true
is_task Group = false
is_task Scope = false

-- what a node has by its kind
abbrev pub IsLawfulKind : List Shape → List PlannedPromise → Node → Kind → Type 0
IsLawfulKind shapes promises node Task = IsLawfulTask shapes promises node
IsLawfulKind shapes promises node Group = IsLawfulGroup node
IsLawfulKind shapes promises node Scope = IsLawfulScope promises node

-- the enclosing group is a group that stands above
abbrev pub IsEnclosedBelow : List Node → ℕ → Option ℕ → Type 0
IsEnclosedBelow nodes v None = ⊤
IsEnclosedBelow nodes v (Some g) = (g < v) × IsSomeAnd (slice_get nodes g) (λ node. node.kind ≡ Group)

-- The node of this number awaits promises that nodes before it put, each once, and it is the putter of what it may put, each once.
pub record IsLawfulNode (shapes : List Shape) (promises : List PlannedPromise) (nodes : List Node) (v : ℕ) (node : Node) : Type 0 where
  pub name : is_name node.name ≡ true
  pub awaited : AllByRecursion (λ q. IsSomeAnd (putter_of promises q) (λ u. u < v)) node.awaits
  pub awaits_once : IsDistinct nat_eq node.awaits
  pub few_awaits : length node.awaits ≤ MAX_AWAITS
  pub few_checks : length node.checks ≤ MAX_CHECKS
  pub enclosed : IsEnclosedBelow nodes v node.group
  pub members : AllByRecursion (λ u. u < v) node.members
  pub own : AllByRecursion (λ q. putter_of promises q ≡ Some v) node.puts
  pub once : IsDistinct nat_eq node.puts
  pub kind : IsLawfulKind shapes promises node node.kind

-- The promise has 1 to 4,096 words. It is a scope's own exactly where a scope puts it.
pub record IsLawfulPromise (nodes : List Node) (p : PlannedPromise) : Type 0 where
  pub name : is_name p.name ≡ true
  pub len : (1 ≤ p.len) × (p.len ≤ MAX_PROMISE_WORDS)
  pub scope : (p.scope ≡ true) ↔ IsSomeAnd (option_and_then (λ v. slice_get nodes v) p.putter) (λ node. node.kind ≡ Scope)

-- The nodes and promises are lawful, a promise with a putter is put by it, no two nodes and no two promises have one name, and the totals are within their limits.
pub record AreLawful (shapes : List Shape) (ns : List Node) (ps : List PlannedPromise) : Type 0 where
  pub nodes : (v : ℕ) (node : Node) → slice_get ns v ≡ Some node → IsLawfulNode shapes ps ns v node
  pub promises : AllByRecursion (IsLawfulPromise ns) ps
  pub put : (q v : ℕ) → putter_of ps q ≡ Some v → IsSomeAnd (slice_get ns v) (λ node. IsAmong node.puts q)
  pub node_names : IsDistinct bytes_eq (map (λ node. node.name) ns)
  pub promise_names : IsDistinct bytes_eq (map (λ p. p.name) ps)
  pub few_nodes : length ns ≤ MAX_NODES
  pub few_promises : length ps ≤ MAX_PROMISES
  pub total : words_in ps ≤ MAX_TOTAL_WORDS
  pub shown : shown_in ps ≤ MAX_SHOWN_WORDS
