-- What an attempt of a task of a plan answers.
use Rattle.std.specs.Prelude.{ℕ, ◌≡◌, ◌<◌, ◌==◌, ◌||◌, List, ◌++◌, ⊤, Bool, true, false, Option, Some, None, length, slice_get}
use Rattle.std.specs.List.{list_any}
use Rattle.rh_injector.specs.declared.faults.Strike.{Strike}
use Rattle.rh_rules.specs.declared.body.Step.{Step}
use Rattle.rh_rules.specs.declared.body.Step.TheVariants.{Lit, Gen, Add, Sub, Mul, Scale, Shift, Cut, Join, Sum, Count, Stencil1, Stencil2, Product, Put, DropAwait}
use Rattle.rh_rules.specs.declared.node.Node.{Node}
use Rattle.rh_plan.specs.Plans.{PlanData}
use Rattle.rh_rules.specs.Bodies.{IsSoundWhen, drop_at}
use Rattle.rh_check.specs.Checks.{words_at}
use Rattle.rh_plan.specs.Buffers.{BufferData, buffer_data, puts_at}
use Rattle.rh_plan.specs.Attempts.{attempt_of}

-- the buffer is that of attempt k of the task v
abbrev pub IsAttemptAt : PlanData → List Strike → ℕ → List (List ℕ) → ℕ → BufferData → Type 0
IsAttemptAt plan faults v inputs k buffer = (node : Node) → slice_get plan.nodes v ≡ Some node → buffer ≡ attempt_of plan faults v node inputs k

-- a put reads locals that are there, and its `when` one of one word; the locals are given by their lengths
abbrev pub ReadsLocals : List ℕ → Step → Type 0
ReadsLocals lens (Put promise local when) = (local < length lens) × IsSoundWhen lens when
ReadsLocals lens step = ⊤

-- the local is this one
abbrev pub is_local : ℕ → Option ℕ → Bool
is_local local None = false
is_local local (Some y) = y == local

-- the step is a put that reads the local
abbrev pub reads_local : ℕ → Step → Bool
reads_local local (Put promise x when) = x == local || is_local local when
reads_local local step = false

-- some put among the steps reads the local
abbrev pub is_read : List Step → ℕ → Bool
is_read steps local = list_any (reads_local local) steps

-- As many locals as before, and those that puts among the steps read are as before.
pub record AreAsBefore (steps : List Step) (before after : List (List ℕ)) : Type 0 where
  pub count : length after ≡ length before
  pub read : (i : ℕ) → is_read steps i ≡ true → words_at after i ≡ words_at before i

-- the step is a `let` that makes its words of several locals
abbrev pub combines : Step → Bool
combines (Lit words) = false
combines (Gen n start limit) = false
combines (Add a b) = true
combines (Sub a b) = true
combines (Mul a b) = true
combines (Scale a k) = false
combines (Shift a s) = false
combines (Cut a from len) = false
combines (Join parts) = true
combines (Sum a) = false
combines (Count a) = false
combines (Stencil1 l m r k s) = true
combines (Stencil2 north south west east m cols k s) = true
combines (Product matrix v) = false
combines (Put promise local when) = false
combines (DropAwait promise) = false

-- the buffer after one more step
abbrev pub with_step : BufferData → List (List ℕ) → Step → BufferData
with_step buffer locals step = buffer_data (buffer.puts ++ puts_at locals step) (buffer.drops ++ drop_at step)
