-- What holds of the facts above a line where all lines above keep the rules and the grammar.
use Rattle.std.specs.Prelude.{ℕ, ◌≡◌, ◌≤◌, ◌+◌, List, [], ◌∷◌, ◌++◌, true, Option, Some, None, ⊤, length, map}
use Rattle.rh_words.specs.declared.limits.TheConstants.{MAX_NODES, MAX_AWAITS, MAX_MATRICES, MAX_REPLAYS}
use Rattle.rh_task_text.specs.declared.statement.Statement.{Statement}
use Rattle.rh_task_text.specs.declared.form.Block.{Block}
use Rattle.rh_task_text.specs.declared.form.Block.TheVariants as text
use Rattle.rh_task_text.specs.Blocks.{open_blocks, innermost, rows_here, lets_here, checks_here}
use Rattle.rh_sparse.specs.Matrix.{MatrixData}
use Rattle.rh_rules.specs.declared.shape.Shape.{Shape}
use Rattle.rh_rules.specs.declared.shape.NamedShape.{NamedShape}
use Rattle.rh_rules.specs.Bodies.{shapes_of}
use Rattle.rh_rules.specs.Lawful.{product_checks}
use Rattle.rh_rules.specs.Rules.{is_corrected}
use Rattle.rh_rules.specs.declared.block.OpenBlock.{OpenBlock}
use Rattle.rh_rules.specs.declared.block.OpenBlock.TheVariants.{TaskBlock, MatrixBlock, GroupBlock, ScopeBlock}
use Rattle.rh_rules.specs.Above.{Facts}
use Rattle.rh_rules.specs.declared.node.Scheme.TheVariants.{Plain, Replicate, Replay, Abft}
use Rattle.rh_rules.specs.declared.node.Scheme.{Scheme}

-- scopes and groups are open, and no other block
pub data AreOuter : List Block → List OpenBlock → Type 0 where
  none_open : AreOuter [] []
  group_open : (number : ℕ) (bs : List Block) (obs : List OpenBlock) → AreOuter bs obs → AreOuter (text.ScopeBlock ∷ bs) (GroupBlock number ∷ obs)
  scope_open : (name : List ℕ) (first : ℕ) (bs : List Block) (obs : List OpenBlock) → AreOuter bs obs → AreOuter (text.ScopeBlock ∷ bs) (ScopeBlock name first ∷ obs)

-- and maybe one task or matrix in them
pub data AreBlocks : List Block → List OpenBlock → Type 0 where
  outer_open : (bs : List Block) (obs : List OpenBlock) → AreOuter bs obs → AreBlocks bs obs
  task_open : (name : List ℕ) (bs : List Block) (obs : List OpenBlock) → AreOuter bs obs → AreBlocks (text.TaskBlock ∷ bs) (TaskBlock name ∷ obs)
  matrix_open : (rows cols : ℕ) (bs : List Block) (obs : List OpenBlock) → AreOuter bs obs → AreBlocks (text.MatrixBlock rows cols ∷ bs) (MatrixBlock ∷ obs)

-- nothing is said of an open task
pub record IsIdle (f : Facts) : Type 0 where
  pub inputs : f.inputs ≡ []
  pub locals : f.locals ≡ []
  pub drops : f.drops ≡ []
  pub steps : f.steps ≡ []
  pub checks : f.checks ≡ []

-- outside of tasks nothing is said of an open one
abbrev pub IsIdleIn : List OpenBlock → Facts → Type 0
IsIdleIn [] f = IsIdle f
IsIdleIn (TaskBlock name ∷ blocks) f = ⊤
IsIdleIn (GroupBlock number ∷ blocks) f = IsIdle f
IsIdleIn (ScopeBlock name first ∷ blocks) f = IsIdle f
IsIdleIn (MatrixBlock ∷ blocks) f = IsIdle f

-- how many nodes have their opening line above, and are not counted yet: the open task
abbrev pub nodes_open : List OpenBlock → ℕ
nodes_open [] = 0
nodes_open (TaskBlock name ∷ blocks) = 1
nodes_open (GroupBlock number ∷ blocks) = 0
nodes_open (ScopeBlock name first ∷ blocks) = 0
nodes_open (MatrixBlock ∷ blocks) = 0

-- the shapes of the matrices by their lines
abbrev pub shapes_named : List NamedShape → List Shape
shapes_named ms = map (λ m. m.shape) ms

abbrev pub shape : ℕ → ℕ → Shape
shape rows cols = record { rows = rows; cols = cols }

-- no matrix is open, and each has the shape of its line
pub record AreClosed (f : Facts) : Type 0 where
  pub none_open : f.begun ≡ None
  pub shapes : shapes_named f.matrices ≡ shapes_of f.closed

-- A matrix is open, with these columns and so many rows, which is the last of the lines; the others have the shapes of theirs.
pub record IsOpenMatrix (rows cols count : ℕ) (f : Facts) : Type 0 where
  pub matrix : MatrixData
  pub here : f.begun ≡ Some matrix
  pub columns : matrix.cols ≡ cols
  pub counted : length matrix.rows ≡ count
  pub shapes : shapes_named f.matrices ≡ shapes_of f.closed ++ shape rows cols ∷ []

-- in this block, after so many rows of it, the matrices have the shapes of their lines
abbrev pub AreShaped : Option Block → ℕ → Facts → Type 0
AreShaped None count f = AreClosed f
AreShaped (Some text.TaskBlock) count f = AreClosed f
AreShaped (Some (text.MatrixBlock rows cols)) count f = IsOpenMatrix rows cols count f
AreShaped (Some text.ScopeBlock) count f = AreClosed f

-- a task of this scheme is planned
abbrev pub IsPlannedScheme : Scheme → Type 0
IsPlannedScheme Plain = ⊤
IsPlannedScheme Replicate = ⊤
IsPlannedScheme (Replay limit) = (1 ≤ limit) × (limit ≤ MAX_REPLAYS)
IsPlannedScheme Abft = ⊤

-- Facts are counted: there is room for the node of the open task, the locals are the awaits and the results of `let` lines, and there are no
-- more checks than `check` lines.
pub record AreCounted (above : List Statement) (f : Facts) : Type 0 where
  pub blocks : AreBlocks (open_blocks above) f.blocks
  pub counted : length f.nodes ≡ f.count
  pub room : f.count + nodes_open f.blocks ≤ MAX_NODES
  pub inputs : length f.inputs ≤ MAX_AWAITS
  pub locals : length f.locals ≤ length f.inputs + lets_here above
  pub idle : IsIdleIn f.blocks f
  pub scheme : IsPlannedScheme f.scheme
  pub checks : length f.checks ≤ checks_here above
  pub shaped : AreShaped (innermost (open_blocks above)) (rows_here above) f
  pub few_matrices : length f.matrices ≤ MAX_MATRICES
  pub one_product : is_corrected f.scheme ≡ true → length (product_checks f.checks) ≤ 1
