-- What the planner keeps of the statements above a line.
use Rattle.std.specs.Prelude.{ℕ, ◌≡◌, ◌≤◌, ◌<◌, ◌+◌, List, [], ◌∷◌, Option, Some, None, true, false, length, ⊤}
use Rattle.std.specs.List.{AllByRecursion}
use Rattle.rh_words.specs.declared.limits.TheConstants.{MAX_NODES, MAX_AWAITS, MAX_LETS, MAX_MATRICES, MAX_MATRIX_SIDE}
use Rattle.rh_words.specs.declared.reason.Reason.{Reason}
use Rattle.rh_task_text.specs.declared.statement.Statement.{Statement}
use Rattle.rh_task_text.specs.declared.statement.Statement.TheVariants.{Row}
use Rattle.rh_sparse.specs.Matrix.{MatrixData, IsRow}
use Rattle.rh_rules.specs.Facets.{cells_of}
use Rattle.rh_rules.specs.declared.node.PlannedPromise.{PlannedPromise}
use Rattle.rh_rules.specs.declared.node.Node.{Node}
use Rattle.rh_rules.specs.Tables.{is_promise, is_put, promise_number}
use Rattle.rh_rules.specs.declared.block.OpenBlock.{OpenBlock}
use Rattle.rh_rules.specs.declared.block.OpenBlock.TheVariants.{TaskBlock, MatrixBlock, GroupBlock, ScopeBlock}
use Rattle.rh_rules.specs.Above.{Facts, lets_of, task_node, scope_node}
use Rattle.rh_rules.specs.Rules.{reason_in}
use Rattle.rh_tables.specs.declared.open_task.OpenTask.{OpenTask}
use Rattle.rh_planner.specs.declared.planner.Planner.{Planner}
use Rattle.rh_planner.specs.Planned.{look_above}
use Rattle.rh_planner.specs.Following.{after}

-- The planner's tables as facts.
abbrev pub facts_of : Planner → Facts
facts_of p = record {
  names = p.declared.names;
  promises = p.declared.promises;
  matrices = p.matrices.items;
  closed = p.closed;
  begun = p.begun;
  blocks = p.blocks;
  count = length p.nodes.items;
  nodes = p.nodes.items;
  inputs = p.task.inputs;
  locals = p.task.locals.items;
  drops = p.task.drops.items;
  steps = p.task.body;
  scheme = p.task.scheme;
  checks = p.task.checks;
}

-- the planner's tables are these facts
pub record HasFacts (p : Planner) (f : Facts) : Type 0 where
  pub names : p.declared.names ≡ f.names
  pub promises : p.declared.promises ≡ f.promises
  pub matrices : p.matrices.items ≡ f.matrices
  pub closed : p.closed ≡ f.closed
  pub begun : p.begun ≡ f.begun
  pub blocks : p.blocks ≡ f.blocks
  pub count : length p.nodes.items ≡ f.count
  pub nodes : p.nodes.items ≡ f.nodes
  pub inputs : p.task.inputs ≡ f.inputs
  pub locals : p.task.locals.items ≡ f.locals
  pub drops : p.task.drops.items ≡ f.drops
  pub steps : p.task.body ≡ f.steps
  pub scheme : p.task.scheme ≡ f.scheme
  pub checks : p.task.checks ≡ f.checks

-- one more statement is counted in the numbers of the machine
pub record HasRoom (p : Planner) : Type 0 where
  pub nodes : length p.nodes.items ≤ MAX_NODES
  pub locals : length p.task.locals.items ≤ MAX_AWAITS + MAX_LETS
  pub matrices : length p.matrices.items ≤ MAX_MATRICES

-- the answer is the reason of the statement, and where there is none the tables follow; the handed-in checks stay
pub record Judges (old : Planner) (s : Statement) (new : Planner) (answer : Option Reason) : Type 0 where
  pub reason : answer ≡ reason_in (look_above old.handed) (facts_of old) s
  pub tables : answer ≡ None → HasFacts new (after (look_above old.handed) (facts_of old) s)
  pub handed : new.handed ≡ old.handed

-- the innermost block may be closed: a scope has its own promise, which nothing puts yet
abbrev pub IsClosable : List PlannedPromise → List OpenBlock → Type 0
IsClosable promises (ScopeBlock name first ∷ outer) = (is_promise promises name ≡ true) × (is_put promises name ≡ false)
IsClosable promises (TaskBlock name ∷ outer) = ⊤
IsClosable promises (GroupBlock number ∷ outer) = ⊤
IsClosable promises (MatrixBlock ∷ outer) = ⊤
IsClosable promises [] = ⊤

-- the node that the end of this block adds, in this group and below so many nodes: that of the open task, or of a scope
abbrev pub nodes_ended : OpenTask → List PlannedPromise → ℕ → Option ℕ → Option OpenBlock → List Node
nodes_ended task promises count group None = []
nodes_ended task promises count group (Some (TaskBlock name)) = task_node name task.scheme task.inputs (lets_of task.inputs task.locals.items) group task.body task.checks ∷ []
nodes_ended task promises count group (Some (ScopeBlock name first)) = scope_node name (promise_number promises name) group first count ∷ []
nodes_ended task promises count group (Some (GroupBlock number)) = []
nodes_ended task promises count group (Some MatrixBlock) = []

-- the matrix that is begun takes the row, where the statement is one
abbrev pub TakesRow : Option MatrixData → Statement → Type 0
TakesRow (Some a) (Row columns values) = IsRow a.cols (cells_of columns values) × (length a.rows < MAX_MATRIX_SIDE) × AllByRecursion (λ j. j < MAX_MATRIX_SIDE) columns
TakesRow None (Row columns values) = ⊥
TakesRow begun s = ⊤
