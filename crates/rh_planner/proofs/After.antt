-- What each kind of statement adds to the facts above.
use Rattle.std.proofs.Common.{◌≡◌, ℕ, ◌+◌, List, [], ◌∷◌, ◌++◌, Bool, true, false, arith, refl, map, append-nil, Option, Some, None}
use Rattle.std.specs.Prelude.{option_to_list}
use Rattle.std.specs.Option.{option_map}
use Rattle.rh_task_text.specs.declared.statement.Statement.TheVariants as text
use Rattle.rh_sparse.specs.Matrix.{MatrixData, matrix_data}
use Rattle.rh_rules.specs.Tables.{declared_promise, promise_number, number_of, putting, given, named_shape}
use Rattle.rh_rules.specs.Facets.{facets, cells_of}
use Rattle.rh_rules.specs.declared.block.OpenBlock.{OpenBlock}
use Rattle.rh_rules.specs.declared.block.OpenBlock.TheVariants.{TaskBlock, MatrixBlock, GroupBlock, ScopeBlock}
use Rattle.rh_rules.specs.declared.node.Node.{Node}
use Rattle.rh_rules.specs.Above.{Look, Facts, await_local, drop_step, task_node, group_node, scope_node, group_in, lets_of, planned_scheme, with_row}
use Rattle.rh_rules.specs.declared.node.Scheme.TheVariants as schemes
use Rattle.rh_task_text.specs.declared.statement.SchemeText.{SchemeText}
use Rattle.rh_check.specs.Users.{HandedChecks}
use Rattle.rh_planner.specs.Planned.{look_above}
use Rattle.rh_planner.specs.Following.{after}

no_more : (n : ℕ) → n + 0 ≡ n
no_more n = omega arith

-- a line that adds no row leaves the open matrix
pub no_row : (begun : Option MatrixData) → option_map (with_row None) begun ≡ begun
no_row None = refl
no_row (Some a) = refl

abbrev pub with_promise : Facts → List ℕ → ℕ → Bool → Facts
with_promise f name len temp = record f { names = f.names ++ name ∷ []; promises = f.promises ++ declared_promise name len temp false ∷ [] }

pub after_promise : (look : Look) (f : Facts) (name : List ℕ) (len : ℕ) (temp : Bool) → after look f (text.Promise name len temp) ≡ with_promise f name len temp
unfolding facets
after_promise look f name len temp = simp (append-nil, no_more, no_row)

abbrev pub with_task : Facts → List ℕ → SchemeText → List (List ℕ) → Facts
with_task f name scheme awaits = record f {
  names = f.names ++ name ∷ [];
  begun = None;
  blocks = TaskBlock name ∷ f.blocks;
  inputs = map (promise_number f.promises) awaits;
  locals = map (await_local f.promises) awaits;
  drops = [];
  steps = [];
  scheme = planned_scheme scheme;
  checks = [];
}

pub after_task : (handed : HandedChecks) (f : Facts) (name : List ℕ) (scheme : SchemeText) (awaits : List (List ℕ)) → after (look_above handed) f (text.Task name scheme awaits) ≡ with_task f name scheme awaits
unfolding facets
after_task handed f name scheme awaits = simp (append-nil, no_more)

abbrev pub with_finish : Facts → List ℕ → Facts
with_finish f name = record f {
  names = f.names ++ name ∷ [];
  promises = f.promises ++ declared_promise name 3 false true ∷ [];
  begun = None;
  blocks = ScopeBlock name f.count ∷ f.blocks;
  inputs = [];
  locals = [];
  drops = [];
  steps = [];
  scheme = schemes.Plain;
  checks = [];
}

pub after_finish : (look : Look) (f : Facts) (name : List ℕ) → after look f (text.Finish name) ≡ with_finish f name
unfolding facets
after_finish look f name = simp (append-nil, no_more)

abbrev pub group_in_facts : Facts → List ℕ → List (List ℕ) → Node
group_in_facts f name awaits = group_node name (map (promise_number f.promises) awaits) (group_in f.blocks)

abbrev pub with_group : Facts → List ℕ → List (List ℕ) → Facts
with_group f name awaits = record f {
  names = f.names ++ name ∷ [];
  begun = None;
  blocks = GroupBlock f.count ∷ f.blocks;
  count = f.count + 1;
  nodes = f.nodes ++ group_in_facts f name awaits ∷ [];
  inputs = [];
  locals = [];
  drops = [];
  steps = [];
  scheme = schemes.Plain;
  checks = [];
}

pub after_group : (handed : HandedChecks) (f : Facts) (name : List ℕ) (awaits : List (List ℕ)) → after (look_above handed) f (text.Group name awaits) ≡ with_group f name awaits
unfolding facets
after_group handed f name awaits = simp append-nil

abbrev pub with_matrix : Facts → List ℕ → ℕ → ℕ → Facts
with_matrix f name rows cols = record f {
  names = f.names ++ name ∷ [];
  matrices = f.matrices ++ named_shape name rows cols ∷ [];
  begun = Some (matrix_data cols []);
  blocks = MatrixBlock ∷ f.blocks;
  inputs = [];
  locals = [];
  drops = [];
  steps = [];
  scheme = schemes.Plain;
  checks = [];
}

pub after_matrix : (look : Look) (f : Facts) (name : List ℕ) (rows cols : ℕ) → after look f (text.Matrix name rows cols) ≡ with_matrix f name rows cols
unfolding facets
after_matrix look f name rows cols = simp (append-nil, no_more)

abbrev pub with_begun : Facts → Option MatrixData → Facts
with_begun f begun = record f { begun = begun }

pub after_row : (look : Look) (f : Facts) (columns values : List ℕ) → after look f (text.Row columns values) ≡ with_begun f (option_map (with_row (Some (cells_of columns values))) f.begun)
unfolding facets
after_row look f columns values = simp (append-nil, no_more)

-- the facts below an `end`, with these blocks left open
abbrev pub with_closed : Facts → List OpenBlock → Facts
with_closed f outer = record f {
  closed = f.closed ++ option_to_list f.begun;
  begun = None;
  blocks = outer;
  inputs = [];
  locals = [];
  drops = [];
  steps = [];
  scheme = schemes.Plain;
  checks = [];
}

abbrev pub ended_task : Facts → List ℕ → List OpenBlock → Node
ended_task f name outer = task_node name f.scheme f.inputs (lets_of f.inputs f.locals) (group_in outer) f.steps f.checks

-- and with the node of the task
abbrev pub with_end : Facts → List ℕ → List OpenBlock → Facts
with_end f name outer = record (with_closed f outer) {
  count = f.count + 1;
  nodes = f.nodes ++ ended_task f name outer ∷ [];
}

pub after_end : (look : Look) (f : Facts) (name : List ℕ) (outer : List OpenBlock) → f.blocks ≡ TaskBlock name ∷ outer → after look f text.End ≡ with_end f name outer
unfolding facets
after_end look f name outer e = rw e (simp append-nil)

pub after_end_group : (look : Look) (f : Facts) (number : ℕ) (outer : List OpenBlock) → f.blocks ≡ GroupBlock number ∷ outer → after look f text.End ≡ with_closed f outer
unfolding facets
after_end_group look f number outer e = rw e (simp (append-nil, no_more))

abbrev pub ended_scope : Facts → List ℕ → ℕ → List OpenBlock → Node
ended_scope f name first outer = scope_node name (promise_number f.promises name) (group_in outer) first f.count

-- or with that of the scope, which puts its own promise
abbrev pub with_scope_end : Facts → List ℕ → ℕ → List OpenBlock → Facts
with_scope_end f name first outer = record (with_closed f outer) {
  promises = map (given (putting name f.count)) f.promises;
  count = f.count + 1;
  nodes = f.nodes ++ ended_scope f name first outer ∷ [];
}

pub after_end_scope : (look : Look) (f : Facts) (name : List ℕ) (first : ℕ) (outer : List OpenBlock) → f.blocks ≡ ScopeBlock name first ∷ outer → after look f text.End ≡ with_scope_end f name first outer
unfolding facets
after_end_scope look f name first outer e = rw e (simp append-nil)

abbrev pub with_drop : Facts → List ℕ → Facts
with_drop f q = record f { drops = f.drops ++ number_of f.locals q ∷ []; steps = f.steps ++ drop_step f.inputs f.locals q ∷ [] }

pub after_drop : (look : Look) (f : Facts) (q : List ℕ) → after look f (text.DropAwait q) ≡ with_drop f q
unfolding facets
after_drop look f q = simp (append-nil, no_more, no_row)

pub after_end_matrix : (look : Look) (f : Facts) (outer : List OpenBlock) → f.blocks ≡ MatrixBlock ∷ outer → after look f text.End ≡ with_closed f outer
unfolding facets
after_end_matrix look f outer e = rw e (simp (append-nil, no_more))

pub after_end_none : (look : Look) (f : Facts) → f.blocks ≡ [] → after look f text.End ≡ with_closed f []
unfolding facets
after_end_none look f e = rw e (simp (append-nil, no_more))
