-- Which blocks are open, and which of them an `end` closes.
use Rattle.std.proofs.Common.{◌≡◌, ℕ, List, [], ◌∷◌, true, Option, Some, None, refl, sym, subst}
use Rattle.std.specs.Prelude.{if◌then◌else◌}
use Rattle.std.proofs.lemmas.Bool.{false≢true}
use Rattle.std.proofs.lemmas.Option.{none-some}
use Rattle.rh_words.specs.declared.reason.Reason.{Reason}
use Rattle.rh_task_text.specs.declared.form.Block.{Block}
use Rattle.rh_task_text.specs.declared.form.Block.TheVariants as opened
use Rattle.rh_task_text.specs.declared.form.FormKind.TheVariants.{EndForm}
use Rattle.rh_task_text.specs.declared.form.Standing.TheVariants.{Outside, InTask, InMatrix}
use Rattle.rh_task_text.specs.Blocks.{innermost, may_stand, ends_nothing}
use Rattle.rh_rules.specs.declared.block.OpenBlock.{OpenBlock}
use Rattle.rh_rules.specs.declared.block.OpenBlock.TheVariants.{TaskBlock, MatrixBlock, GroupBlock, ScopeBlock}
use Rattle.rh_rules.specs.declared.node.Scheme.TheVariants as schemes
use Rattle.rh_sparse.specs.Matrix.{MatrixData}
use Rattle.rh_rules.specs.Above.{Facts}
use Rattle.rh_planner.specs.Sound.{AreOuter, none_open, group_open, scope_open, AreBlocks, outer_open, task_open, matrix_open, IsIdle, IsIdleIn, nodes_open, AreClosed, AreShaped}

-- outside of tasks and matrices none is open
pub outside : (bs : List Block) (obs : List OpenBlock) → AreBlocks bs obs → may_stand Outside (innermost bs) ≡ true → AreOuter bs obs
outside bs obs (outer_open cs os outer) e = outer
outside bs obs (task_open name cs os outer) e = absurd (false≢true e)
outside bs obs (matrix_open rows cols cs os outer) e = absurd (false≢true e)

-- a task is open, in these scopes and groups
pub record IsInTask (bs : List Block) (obs : List OpenBlock) : Type 0 where
  pub name : List ℕ
  pub around : List Block
  pub outer : List OpenBlock
  pub opens : bs ≡ opened.TaskBlock ∷ around
  pub block : obs ≡ TaskBlock name ∷ outer
  pub are : AreOuter around outer

no_task : (bs : List Block) (obs : List OpenBlock) → AreOuter bs obs → may_stand InTask (innermost bs) ≡ true → ⊥
no_task bs obs none_open e = false≢true e
no_task bs obs (group_open number cs os outer) e = false≢true e
no_task bs obs (scope_open name first cs os outer) e = false≢true e

-- in a task one is open
pub inside : (bs : List Block) (obs : List OpenBlock) → AreBlocks bs obs → may_stand InTask (innermost bs) ≡ true → IsInTask bs obs
inside bs obs (outer_open cs os outer) e = absurd (no_task cs os outer e)
inside bs obs (task_open name cs os outer) e = record { name = name; around = cs; outer = os; opens = refl; block = refl; are = outer }
inside bs obs (matrix_open rows cols cs os outer) e = absurd (false≢true e)

-- a matrix is open, in these scopes and groups
pub record IsInMatrix (bs : List Block) (obs : List OpenBlock) : Type 0 where
  pub rows : ℕ
  pub cols : ℕ
  pub around : List Block
  pub outer : List OpenBlock
  pub opens : bs ≡ opened.MatrixBlock rows cols ∷ around
  pub block : obs ≡ MatrixBlock ∷ outer
  pub are : AreOuter around outer

no_matrix : (bs : List Block) (obs : List OpenBlock) → AreOuter bs obs → may_stand InMatrix (innermost bs) ≡ true → ⊥
no_matrix bs obs none_open e = false≢true e
no_matrix bs obs (group_open number cs os outer) e = false≢true e
no_matrix bs obs (scope_open name first cs os outer) e = false≢true e

-- where a row stands, a matrix is open
pub in_matrix : (bs : List Block) (obs : List OpenBlock) → AreBlocks bs obs → may_stand InMatrix (innermost bs) ≡ true → IsInMatrix bs obs
in_matrix bs obs (outer_open cs os outer) e = absurd (no_matrix cs os outer e)
in_matrix bs obs (task_open name cs os outer) e = absurd (false≢true e)
in_matrix bs obs (matrix_open rows cols cs os outer) e = record { rows = rows; cols = cols; around = cs; outer = os; opens = refl; block = refl; are = outer }

-- the innermost block, which an `end` closes
pub data Closed (bs : List Block) (obs : List OpenBlock) : Type 0 where
  closed_matrix : (rows cols : ℕ) (around : List Block) (outer : List OpenBlock) → bs ≡ opened.MatrixBlock rows cols ∷ around → obs ≡ MatrixBlock ∷ outer → AreOuter around outer → Closed bs obs
  closed_task : (name : List ℕ) (around : List Block) (outer : List OpenBlock) → bs ≡ opened.TaskBlock ∷ around → obs ≡ TaskBlock name ∷ outer → AreOuter around outer → Closed bs obs
  closed_group : (number : ℕ) (around : List Block) (outer : List OpenBlock) → bs ≡ opened.ScopeBlock ∷ around → obs ≡ GroupBlock number ∷ outer → AreOuter around outer → Closed bs obs
  closed_scope : (name : List ℕ) (first : ℕ) (around : List Block) (outer : List OpenBlock) → bs ≡ opened.ScopeBlock ∷ around → obs ≡ ScopeBlock name first ∷ outer → AreOuter around outer → Closed bs obs

closed_outer : (bs : List Block) (obs : List OpenBlock) (r : Reason) (o : Option Reason) → AreOuter bs obs → (if ends_nothing (innermost bs) EndForm then Some r else o) ≡ None → Closed bs obs
closed_outer bs obs r o none_open e = absurd (none-some r (sym e))
closed_outer bs obs r o (group_open number cs os outer) e = closed_group number cs os refl refl outer
closed_outer bs obs r o (scope_open name first cs os outer) e = closed_scope name first cs os refl refl outer

pub closed : (bs : List Block) (obs : List OpenBlock) (r : Reason) (o : Option Reason) → AreBlocks bs obs → (if ends_nothing (innermost bs) EndForm then Some r else o) ≡ None → Closed bs obs
closed bs obs r o (outer_open cs os outer) e = closed_outer cs os r o outer e
closed bs obs r o (task_open name cs os outer) e = closed_task name cs os refl refl outer
closed bs obs r o (matrix_open rows cols cs os outer) e = closed_matrix rows cols cs os refl refl outer

-- where no task is open, nothing is said of one
pub idle : (bs : List Block) (obs : List OpenBlock) (f : Facts) → AreOuter bs obs → IsIdleIn obs f → IsIdle f
idle bs obs f none_open h = h
idle bs obs f (group_open number cs os outer) h = h
idle bs obs f (scope_open name first cs os outer) h = h

pub idle_in : (bs : List Block) (obs : List OpenBlock) (f : Facts) → AreOuter bs obs → IsIdle f → IsIdleIn obs f
idle_in bs obs f none_open h = h
idle_in bs obs f (group_open number cs os outer) h = h
idle_in bs obs f (scope_open name first cs os outer) h = h

pub none_waits : (bs : List Block) (obs : List OpenBlock) → AreOuter bs obs → nodes_open obs ≡ 0
none_waits bs obs none_open = refl
none_waits bs obs (group_open number cs os outer) = refl
none_waits bs obs (scope_open name first cs os outer) = refl

-- where no matrix is open, each has the shape of its line
pub outer_closed : (bs : List Block) (obs : List OpenBlock) (count : ℕ) (f : Facts) → AreOuter bs obs → AreShaped (innermost bs) count f → AreClosed f
outer_closed bs obs count f none_open h = h
outer_closed bs obs count f (group_open number cs os outer) h = h
outer_closed bs obs count f (scope_open name first cs os outer) h = h

pub outer_shaped : (bs : List Block) (obs : List OpenBlock) (count : ℕ) (f : Facts) → AreOuter bs obs → AreClosed f → AreShaped (innermost bs) count f
outer_shaped bs obs count f none_open h = h
outer_shaped bs obs count f (group_open number cs os outer) h = h
outer_shaped bs obs count f (scope_open name first cs os outer) h = h

-- where a task is open, nothing has to be idle
pub busy : (bs outer : List OpenBlock) (name : List ℕ) (f : Facts) → bs ≡ TaskBlock name ∷ outer → IsIdleIn bs f
busy bs outer name f e = subst (λ (l : List OpenBlock). IsIdleIn l f) (sym e) tt

none_left : (bs : List Block) (obs : List OpenBlock) → AreOuter bs obs → bs ≡ [] → obs ≡ []
none_left bs obs none_open e = refl
none_left bs obs (group_open number cs os outer) e = cc
none_left bs obs (scope_open name first cs os outer) e = cc

-- at the end of a text no block is open
pub none_closed : (bs : List Block) (obs : List OpenBlock) → AreBlocks bs obs → bs ≡ [] → obs ≡ []
none_closed bs obs (outer_open cs os outer) e = none_left cs os outer e
none_closed bs obs (task_open name cs os outer) e = cc
none_closed bs obs (matrix_open rows cols cs os outer) e = cc

-- facts that say nothing of an open task, with these blocks open and these matrices closed and begun
abbrev pub with_none : Facts → List OpenBlock → List MatrixData → Option MatrixData → Facts
with_none f blocks closed begun = record f { closed = closed; begun = begun; blocks = blocks; inputs = []; locals = []; drops = []; steps = []; scheme = schemes.Plain; checks = [] }
