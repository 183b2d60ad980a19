-- Attempts that differ in one word that a check of a sum reads.
use Rattle.std.specs.Prelude.{ℕ, ◌≡◌, ◌<◌, List, Some, None, true, false, slice_get}
use Rattle.rh_injector.specs.declared.faults.Strike.{Strike}
use Rattle.rh_injector.specs.Faults.{names_attempt}
use Rattle.rh_sparse.specs.Laws.{DiffersInOneWord}
use Rattle.rh_check.specs.Altered.{IsSumCheck}
use Rattle.rh_rules.specs.declared.node.Node.{Node}
use Rattle.rh_rules.specs.Kept.{KeptCheck}
use Rattle.rh_plan.specs.Plans.{PlanData}
use Rattle.rh_plan.specs.Buffers.{BufferData, words_put}
use Rattle.rh_plan.specs.Attempts.{attempt_of}
use Rattle.rh_plan.specs.Budgets.{fault_free_inputs, fault_free_buffer, fault_free_failing, ReplaysWithin}

-- Two buffers differ in one word of a put that a check of a sum reads.
pub record DiffersWhereSummed (checks : List KeptCheck) (fault_free buffer : BufferData) : Type 0 where
  pub number : ℕ
  pub check : KeptCheck
  pub there : slice_get checks number ≡ Some check
  pub summed : IsSumCheck check.spec
  pub before : List ℕ
  pub after : List ℕ
  pub put : words_put check.promise fault_free.puts ≡ Some before
  pub put_altered : words_put check.promise buffer.puts ≡ Some after
  pub altered : DiffersInOneWord before after

-- A replayed task keeps within its budget where its fault-free buffer passes all checks, some attempt is named by no fault, and each
-- attempt before the first such one has the fault-free buffer or differs from it in one word of a put that a check of a sum reads.
abbrev pub SummedTasksReplayWithin : Type 0
SummedTasksReplayWithin = (plan : PlanData) (faults : List Strike) (v limit first : ℕ) (node : Node)
    → fault_free_failing plan v node (fault_free_buffer plan v node) ≡ None
    → first < limit → names_attempt faults v first ≡ false → ((k : ℕ) → k < first → names_attempt faults v k ≡ true)
    → ((k : ℕ) → k < first → (attempt_of plan faults v node (fault_free_inputs plan v node) k ≡ fault_free_buffer plan v node → ⊥)
    → DiffersWhereSummed node.checks (fault_free_buffer plan v node) (attempt_of plan faults v node (fault_free_inputs plan v node) k))
    → ReplaysWithin plan faults v node limit
