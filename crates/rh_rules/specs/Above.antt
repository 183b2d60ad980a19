-- What the statements above a line say of it. They are listed with the nearest first.
use Rattle.std.specs.Prelude.{ℕ, ◌+◌, ◌-◌, List, [], ◌∷◌, ◌++◌, Bool, Option, Some, None, map, length, drop, sum, option_to_list, unwrap_or, slice_index, slice_get, cond, not, ◌&&◌, zero, suc, option_and_then}
use Rattle.std.specs.List.{range_with_len}
use Rattle.std.specs.Option.{option_map}
use Rattle.rh_task_text.specs.declared.statement.Statement.{Statement}
use Rattle.rh_task_text.specs.declared.statement.Statement.TheVariants as text
use Rattle.rh_task_text.specs.declared.statement.SchemeText.{SchemeText}
use Rattle.rh_task_text.specs.declared.statement.SchemeText.TheVariants as texts
use Rattle.rh_sparse.specs.declared.matrix.Cell.{Cell}
use Rattle.rh_sparse.specs.Matrix.{MatrixData, matrix_data}
use Rattle.rh_rules.specs.declared.block.OpenBlock.{OpenBlock}
use Rattle.rh_rules.specs.declared.block.OpenBlock.TheVariants.{TaskBlock, MatrixBlock, GroupBlock, ScopeBlock}
use Rattle.rh_check.specs.declared.spec.Spec.{Spec}
use Rattle.rh_check.specs.Users.{HandedChecks, user_place, user_named}
use Rattle.rh_rules.specs.declared.body.Step.{Step}
use Rattle.rh_rules.specs.declared.body.Step.TheVariants as steps
use Rattle.rh_rules.specs.declared.node.Node.{Node}
use Rattle.rh_rules.specs.declared.node.Kind.TheVariants as kinds
use Rattle.rh_rules.specs.declared.node.Scheme.{Scheme}
use Rattle.rh_rules.specs.declared.node.Scheme.TheVariants as schemes
use Rattle.rh_rules.specs.declared.node.PlannedPromise.{PlannedPromise}
use Rattle.rh_rules.specs.declared.shape.Shape.{Shape}
use Rattle.rh_rules.specs.declared.shape.NamedShape.{NamedShape}
use Rattle.rh_rules.specs.Bodies.{promises_put}
use Rattle.rh_rules.specs.Tables.{LocalName, local, Putting, putting, put_all, number_of, lens_of, promise_number, promise_len, matrix_number, matrix_shape, no_shape}
use Rattle.rh_rules.specs.Facets.{OpensMatrix, OpensTask, OpensScope, OpensGroup, ClosesBlock, WithinBlock, block_line, Opens, Closes, Stays, turn, facets}
use Rattle.rh_rules.specs.Kept.{KeptCheck}

-- What a line looks at beside those above it: an await list at the promises of the whole text where it may point forward, a check at the
-- handed-in checks.
pub record Look : Type 0 where
  pub forward : Bool
  pub promises : List PlannedPromise
  pub handed : HandedChecks

abbrev pub seen : Look → List PlannedPromise → List PlannedPromise
seen look above = cond look.forward look.promises above

-- the names that lines declare, in their order
abbrev pub names_above : List Statement → List (List ℕ)
names_above [] = []
names_above (s ∷ above) = names_above above ++ option_to_list (facets s).declared

-- how many words these promises have, and how many of them a report shows
abbrev pub words_in : List PlannedPromise → ℕ
words_in ps = sum (map (λ p. p.len) ps)

abbrev pub shown_in : List PlannedPromise → ℕ
shown_in ps = sum (map (λ p. cond (not p.temp && not p.scope) p.len 0) ps)

-- The open blocks, the innermost first, each as its opening line with the lines above that.
abbrev pub opened : List Statement → List (List Statement)
opened [] = []
opened (s ∷ above) = elim (turn s) [
  | Opens ↦ (s ∷ above) ∷ opened above
  | Closes ↦ drop 1 (opened above)
  | Stays ↦ opened above
]

-- the block that an opening line opens, below so many nodes
abbrev pub opening_block : ℕ → Statement → OpenBlock
opening_block count s = elim (block_line s) [
  | OpensMatrix ↦ MatrixBlock
  | OpensTask name ↦ TaskBlock name
  | OpensScope name ↦ ScopeBlock name count
  | OpensGroup name awaits ↦ GroupBlock count
  | ClosesBlock ↦ MatrixBlock
  | WithinBlock ↦ MatrixBlock
]

-- an `end` of this block is the line of a node: a task has its line at its opening, but no other node's line stands in it
abbrev pub ends_node : OpenBlock → ℕ
ends_node (TaskBlock name) = 1
ends_node (ScopeBlock name first) = 1
ends_node (GroupBlock number) = 0
ends_node MatrixBlock = 0

-- the block that these lines open with their nearest one
abbrev pub ends_opened : List (List Statement) → ℕ
ends_opened [] = 0
ends_opened ([] ∷ outer) = 0
ends_opened ((s ∷ up) ∷ outer) = ends_node (opening_block 0 s)

-- how many nodes a line adds, below these open blocks
abbrev pub adds_nodes : List (List Statement) → Statement → ℕ
adds_nodes around s = elim (block_line s) [
  | OpensMatrix ↦ 0
  | OpensTask name ↦ 0
  | OpensScope name ↦ 0
  | OpensGroup name awaits ↦ 1
  | ClosesBlock ↦ ends_opened around
  | WithinBlock ↦ 0
]

-- how many nodes the lines have
abbrev pub nodes_counted : List Statement → ℕ
nodes_counted [] = 0
nodes_counted (s ∷ above) = nodes_counted above + adds_nodes (opened above) s

-- an open block by its opening line with the lines above that
abbrev pub block_of : List Statement → OpenBlock
block_of [] = MatrixBlock
block_of (s ∷ up) = opening_block (nodes_counted up) s

abbrev pub blocks_above : List Statement → List OpenBlock
blocks_above above = map block_of (opened above)

-- the number of the innermost group
abbrev pub group_in : List OpenBlock → Option ℕ
group_in [] = None
group_in (GroupBlock number ∷ outer) = Some number
group_in (TaskBlock name ∷ outer) = group_in outer
group_in (ScopeBlock name first ∷ outer) = group_in outer
group_in (MatrixBlock ∷ outer) = group_in outer

-- the promise that the `end` of this block puts
abbrev pub put_at_end : ℕ → List OpenBlock → List Putting
put_at_end count [] = []
put_at_end count (TaskBlock name ∷ outer) = []
put_at_end count (ScopeBlock name first ∷ outer) = putting name count ∷ []
put_at_end count (GroupBlock number ∷ outer) = []
put_at_end count (MatrixBlock ∷ outer) = []

-- the promises that a line puts, the next node having this number
abbrev pub puts_by : ℕ → List OpenBlock → Statement → List Putting
puts_by count around s = elim (turn s) [
  | Opens ↦ []
  | Closes ↦ put_at_end count around
  | Stays ↦ map (λ q. putting q count) (option_to_list (facets s).put_to)
]

-- The promises, in the order of their `promise` and `finish` lines, each with the node of the line that puts it. A promise's number is its place.
abbrev pub promises_above : List Statement → List PlannedPromise
promises_above [] = []
promises_above (s ∷ above) = put_all (puts_by (nodes_counted above) (blocks_above above) s) (promises_above above) ++ option_to_list (facets s).promised

-- The matrices, each with its shape, in the order of their `matrix` lines. A matrix's number is its place.
abbrev pub matrices_above : List Statement → List NamedShape
matrices_above [] = []
matrices_above (s ∷ above) = matrices_above above ++ option_to_list (facets s).shaped

-- a matrix of this shape that has no rows yet
abbrev pub no_rows : NamedShape → MatrixData
no_rows m = matrix_data m.shape.cols []

-- the matrix with one row more, where a line adds one
abbrev pub with_row : Option (List Cell) → MatrixData → MatrixData
with_row None a = a
with_row (Some row) a = matrix_data a.cols (a.rows ++ row ∷ [])

-- the open matrix, with the rows that it has so far
abbrev pub begun_above : List Statement → Option MatrixData
begun_above [] = None
begun_above (s ∷ above) = elim (turn s) [
  | Opens ↦ option_map no_rows (facets s).shaped
  | Closes ↦ None
  | Stays ↦ option_map (with_row (facets s).row) (begun_above above)
]

-- the matrix that a line closes, where this one is open
abbrev pub closed_by : Option MatrixData → Statement → List MatrixData
closed_by begun s = elim (turn s) [
  | Opens ↦ []
  | Closes ↦ option_to_list begun
  | Stays ↦ []
]

-- the matrices that are closed, with their rows, by number
abbrev pub closed_above : List Statement → List MatrixData
closed_above [] = []
closed_above (s ∷ above) = closed_above above ++ closed_by (begun_above above) s

-- the number and the shape of the matrix that a line names, where it names one
abbrev pub matrix_used : List NamedShape → Statement → ℕ
matrix_used ms s = unwrap_or (option_map (matrix_number ms) (facets s).matrix) 0

abbrev pub shape_used : List NamedShape → Statement → Shape
shape_used ms s = unwrap_or (option_map (matrix_shape ms) (facets s).matrix) no_shape

-- the numbers and the lengths of the locals that a line uses
abbrev pub numbers_used : List LocalName → Statement → List ℕ
numbers_used ls s = map (number_of ls) (facets s).used

abbrev pub lens_used : List LocalName → Statement → List ℕ
lens_used ls s = map (λ i. slice_index (lens_of ls) i) (numbers_used ls s)

-- the lengths of the awaits that a check reads
abbrev pub lens_read : List LocalName → Statement → List ℕ
lens_read ls s = map (λ i. slice_index (lens_of ls) i) (map (number_of ls) (facets s).inputs)

-- how many words the local has that a line makes
abbrev pub made_len : List NamedShape → List LocalName → Statement → ℕ
made_len ms ls s = (facets s).len (shape_used ms s) (lens_used ls s)

-- the local that a line makes
abbrev pub local_made : List NamedShape → List LocalName → Statement → List LocalName
local_made ms ls s = map (λ x. local x (made_len ms ls s)) (option_to_list (facets s).made)

-- the local that is the copy of an awaited promise
abbrev pub await_local : List PlannedPromise → List ℕ → LocalName
await_local ps name = local name (promise_len ps name)

-- The locals of the open task: its awaited promises, then the results of its `let` lines. A local's number is its place.
abbrev pub locals_above : Look → List Statement → List LocalName
locals_above look [] = []
locals_above look (s ∷ above) = elim (turn s) [
  | Opens ↦ map (await_local (seen look (promises_above above))) (facets s).task_awaits
  | Closes ↦ []
  | Stays ↦ locals_above look above ++ local_made (matrices_above above) (locals_above look above) s
]

-- the numbers of the promises that the open task awaits
abbrev pub inputs_above : Look → List Statement → List ℕ
inputs_above look [] = []
inputs_above look (s ∷ above) = elim (turn s) [
  | Opens ↦ map (promise_number (seen look (promises_above above))) (facets s).task_awaits
  | Closes ↦ []
  | Stays ↦ inputs_above look above
]

-- the numbers of the locals that the open task drops
abbrev pub drops_above : Look → List Statement → List ℕ
drops_above look [] = []
drops_above look (s ∷ above) = elim (turn s) [
  | Opens ↦ []
  | Closes ↦ []
  | Stays ↦ drops_above look above ++ map (number_of (locals_above look above)) (option_to_list (facets s).dropped)
]

abbrev pub planned_scheme : SchemeText → Scheme
planned_scheme texts.Plain = schemes.Plain
planned_scheme texts.Replicate = schemes.Replicate
planned_scheme (texts.Replay limit) = schemes.Replay limit
planned_scheme texts.Abft = schemes.Abft

-- the scheme of the task that a line opens, where it opens one
abbrev pub scheme_opened : Statement → Scheme
scheme_opened s = planned_scheme (unwrap_or (facets s).scheme texts.Plain)

-- the scheme of the open task
abbrev pub scheme_above : List Statement → Scheme
scheme_above [] = schemes.Plain
scheme_above (s ∷ above) = elim (turn s) [
  | Opens ↦ scheme_opened s
  | Closes ↦ schemes.Plain
  | Stays ↦ scheme_above above
]

-- the place of the handed-in check that a line names
abbrev pub asked_place : HandedChecks → Statement → ℕ
asked_place handed s = unwrap_or (option_and_then (user_place handed) (facets s).asked) 0

-- a check of this promise, with the spec of the handed-in check that it names
abbrev pub check_of : HandedChecks → ℕ → Spec → KeptCheck
check_of handed promise spec = record { promise = promise; spec = spec; user = user_named handed.specs spec }

-- what the check of a line asks
abbrev pub spec_asked : HandedChecks → List NamedShape → List LocalName → Statement → Spec
spec_asked handed ms ls s = (facets s).spec (asked_place handed s) (matrix_used ms s) (map (number_of ls) (facets s).inputs)

-- the planned checks of a line, one at most
abbrev pub checks_by : Look → List PlannedPromise → List NamedShape → List LocalName → Statement → List KeptCheck
checks_by look ps ms ls s = map (λ q. check_of look.handed (promise_number ps q) (spec_asked look.handed ms ls s)) (option_to_list (facets s).checked)

-- the checks of the open task
abbrev pub checks_above : Look → List Statement → List KeptCheck
checks_above look [] = []
checks_above look (s ∷ above) = elim (turn s) [
  | Opens ↦ []
  | Closes ↦ []
  | Stays ↦ checks_above look above ++ checks_by look (promises_above above) (matrices_above above) (locals_above look above) s
]

-- a `put` of the first of these locals, on the second where there is one
abbrev pub put_step : List PlannedPromise → List ℕ → List ℕ → Step
put_step ps numbers promise = steps.Put (promise_number ps promise) (slice_index numbers 0) (slice_get numbers 1)

-- a `drop` of an await, of which the inputs have the promise
abbrev pub drop_step : List ℕ → List LocalName → List ℕ → Step
drop_step inputs ls promise = steps.DropAwait (slice_index inputs (number_of ls promise))

-- the planned steps of a line, one at most
abbrev pub steps_by : List PlannedPromise → List NamedShape → List ℕ → List LocalName → Statement → List Step
steps_by ps ms inputs ls s =
    option_to_list ((facets s).step (matrix_used ms s) (numbers_used ls s))
    ++ map (put_step ps (numbers_used ls s)) (option_to_list (facets s).put_to)
    ++ map (drop_step inputs ls) (option_to_list (facets s).dropped)

-- the steps of the open task
abbrev pub steps_above : Look → List Statement → List Step
steps_above look [] = []
steps_above look (s ∷ above) = elim (turn s) [
  | Opens ↦ []
  | Closes ↦ []
  | Stays ↦ steps_above look above ++ steps_by (promises_above above) (matrices_above above) (inputs_above look above) (locals_above look above) s
]

-- the names of the results of the `let` lines: of the locals behind the inputs
abbrev pub lets_of : List ℕ → List LocalName → List (List ℕ)
lets_of inputs locals = map (λ t. t.name) (drop (length inputs) locals)

abbrev pub task_node : List ℕ → Scheme → List ℕ → List (List ℕ) → Option ℕ → List Step → List KeptCheck → Node
task_node name scheme inputs lets group body checks = record { name = name; kind = kinds.Task; scheme = scheme; group = group; awaits = inputs; members = []; puts = promises_put body; body = body; checks = checks; lets = lets }

abbrev pub group_node : List ℕ → List ℕ → Option ℕ → Node
group_node name awaits group = record { name = name; kind = kinds.Group; scheme = schemes.Plain; group = group; awaits = awaits; members = []; puts = []; body = []; checks = []; lets = [] }

-- the members of a scope are the nodes of the lines inside it
abbrev pub scope_node : List ℕ → ℕ → Option ℕ → ℕ → ℕ → Node
scope_node name own group first count = record { name = name; kind = kinds.Scope; scheme = schemes.Plain; group = group; awaits = []; members = range_with_len first (count - first); puts = own ∷ []; body = []; checks = []; lets = [] }

-- What the statements above say of a line.
pub record Facts : Type 0 where
  -- the names that are declared
  pub names : List (List ℕ)
  pub promises : List PlannedPromise
  -- the matrices by their shapes, those that are closed, and the open one
  pub matrices : List NamedShape
  pub closed : List MatrixData
  pub begun : Option MatrixData
  -- the open blocks, the innermost first
  pub blocks : List OpenBlock
  -- how many nodes there are
  pub count : ℕ
  pub nodes : List Node
  -- of the open task: the promises that it awaits, its locals, those that it drops, its steps, its scheme and its checks
  pub inputs : List ℕ
  pub locals : List LocalName
  pub drops : List ℕ
  pub steps : List Step
  pub scheme : Scheme
  pub checks : List KeptCheck

-- the node that ends where the innermost of these blocks is closed
abbrev pub ended_node : Facts → List OpenBlock → List Node
ended_node f [] = []
ended_node f (TaskBlock name ∷ outer) = task_node name f.scheme f.inputs (lets_of f.inputs f.locals) (group_in outer) f.steps f.checks ∷ []
ended_node f (ScopeBlock name first ∷ outer) = scope_node name (promise_number f.promises name) (group_in outer) first f.count ∷ []
ended_node f (GroupBlock number ∷ outer) = []
ended_node f (MatrixBlock ∷ outer) = []

-- the nodes that a line adds
abbrev pub nodes_by : Look → Facts → Statement → List Node
nodes_by look f s = elim (block_line s) [
  | OpensMatrix ↦ []
  | OpensTask name ↦ []
  | OpensScope name ↦ []
  | OpensGroup name awaits ↦ group_node name (map (promise_number (seen look f.promises)) awaits) (group_in f.blocks) ∷ []
  | ClosesBlock ↦ ended_node f f.blocks
  | WithinBlock ↦ []
]

-- what is said but for the nodes
abbrev pub facts_with : Look → List Statement → List Node → Facts
facts_with look above nodes = record {
  names = names_above above;
  promises = promises_above above;
  matrices = matrices_above above;
  closed = closed_above above;
  begun = begun_above above;
  blocks = blocks_above above;
  count = nodes_counted above;
  nodes = nodes;
  inputs = inputs_above look above;
  locals = locals_above look above;
  drops = drops_above look above;
  steps = steps_above look above;
  scheme = scheme_above above;
  checks = checks_above look above;
}

-- The nodes, in the order of their lines: of a task and of a group its opening line, of a scope its `end`. A node's number is its place.
abbrev pub nodes_above : Look → List Statement → List Node
nodes_above look [] = []
nodes_above look (s ∷ above) = nodes_above look above ++ nodes_by look (facts_with look above (nodes_above look above)) s

abbrev pub facts_above : Look → List Statement → Facts
facts_above look above = facts_with look above (nodes_above look above)
