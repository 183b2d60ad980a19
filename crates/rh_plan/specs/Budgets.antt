-- What a node depends on, and when a node keeps within its fault budget.
use Rattle.std.specs.Prelude.{ℕ, ◌≡◌, ◌+◌, ◌*◌, ◌<◌, ◌≤◌, ◌⊎◌, List, [], Option, Some, None, true, false, ⊤, is_some, length, slice_get}
use Rattle.std.specs.List.{filter, range_with_len}
use Rattle.std.specs.Option.{option_map}
use Rattle.rh_injector.specs.declared.faults.Strike.{Strike}
use Rattle.rh_rules.specs.declared.node.Kind.{Kind}
use Rattle.rh_rules.specs.declared.node.Kind.TheVariants.{Task, Group, Scope}
use Rattle.rh_rules.specs.declared.node.Scheme.{Scheme}
use Rattle.rh_rules.specs.declared.node.Scheme.TheVariants.{Plain, Replicate, Replay, Abft}
use Rattle.rh_rules.specs.declared.node.Node.{Node}
use Rattle.rh_plan.specs.declared.edge.Edge.{Edge}
use Rattle.rh_rules.specs.Lawful.{putter_of}
use Rattle.rh_plan.specs.Plans.{PlanData}
use Rattle.rh_plan.specs.Lawful.{IsLawfulPlan}
use Rattle.rh_injector.specs.Faults.{names_task, names_attempt}
use Rattle.rh_sparse.specs.Laws.{DiffersInOneWord}
use Rattle.rh_rules.specs.Kept.{KeptCheck}
use Rattle.rh_plan.specs.Buffers.{BufferData, buffer_of, buffer_with, words_put}
use Rattle.rh_plan.specs.Checking.{first_failing}
use Rattle.rh_plan.specs.Correcting.{product_check}
use Rattle.rh_plan.specs.Judging.{tolerated}
use Rattle.rh_plan.specs.Attempts.{attempt_of}
use Rattle.rh_plan.specs.Results.{is_skipped, passes_by, inputs_in, results, all_results, ending_of, value_of}

-- The node v depends on u: it is u, or an edge into it comes from a node that depends on u.
pub data DependsOn (plan : PlanData) : ℕ → ℕ → Type 0 where
  itself : (v : ℕ) → DependsOn plan v v
  through : (e v u : ℕ) (edge : Edge) → slice_get plan.edges e ≡ Some edge → edge.to ≡ v → DependsOn plan edge.from u → DependsOn plan v u

-- the awaited words of a node in the run without faults
abbrev pub fault_free_inputs : PlanData → ℕ → Node → List (List ℕ)
fault_free_inputs plan v node = inputs_in plan (results plan [] v) node.awaits

-- the buffer of its attempts that no fault names, on these words
abbrev pub fault_free_buffer : PlanData → ℕ → Node → BufferData
fault_free_buffer plan v node = buffer_of plan [] (fault_free_inputs plan v node) node.body

-- the number of the first check that a buffer fails, on these words
abbrev pub fault_free_failing : PlanData → ℕ → Node → BufferData → Option ℕ
fault_free_failing plan v node buffer = first_failing plan (fault_free_inputs plan v node) node.checks buffer

-- how many of the first n attempts are named by faults
abbrev pub attempts_named : List Strike → ℕ → ℕ → ℕ
attempts_named faults v n = length (filter (names_attempt faults v) (range_with_len 0 n))

-- The fault-free buffer passes all checks, and some attempt below the limit is named by no fault. Of those below the first such attempt,
-- each whose buffer differs from the fault-free one fails a check.
pub record ReplaysWithin (plan : PlanData) (faults : List Strike) (v : ℕ) (node : Node) (limit : ℕ) : Type 0 where
  pub passes : fault_free_failing plan v node (fault_free_buffer plan v node) ≡ None
  pub first : ℕ
  pub below : first < limit
  pub unnamed : names_attempt faults v first ≡ false
  pub least : (k : ℕ) → k < first → names_attempt faults v k ≡ true
  pub refused : (k : ℕ) → k < first
      → (attempt_of plan faults v node (fault_free_inputs plan v node) k ≡ fault_free_buffer plan v node → ⊥)
      → is_some (fault_free_failing plan v node (attempt_of plan faults v node (fault_free_inputs plan v node) k)) ≡ true

-- the buffer has other words than the fault-free one in one put, which differ in one place, and is the same elsewhere
pub record DiffersInOnePut (promise : ℕ) (words : List ℕ) (fault_free buffer : BufferData) : Type 0 where
  pub altered : List ℕ
  pub one : DiffersInOneWord words altered
  pub elsewhere : buffer ≡ buffer_with promise altered fault_free

-- The fault-free buffer passes all checks and puts the promise of the product's check. The attempt has this buffer, or one that differs
-- from it in one word of that put and nowhere else.
pub record CorrectsWithin (plan : PlanData) (faults : List Strike) (v : ℕ) (node : Node) : Type 0 where
  pub passes : fault_free_failing plan v node (fault_free_buffer plan v node) ≡ None
  pub check : KeptCheck
  pub checked : product_check node.checks ≡ Some check
  pub words : List ℕ
  pub put : words_put check.promise (fault_free_buffer plan v node).puts ≡ Some words
  pub near : (attempt_of plan faults v node (fault_free_inputs plan v node) 0 ≡ fault_free_buffer plan v node)
      ⊎ DiffersInOnePut check.promise words (fault_free_buffer plan v node) (attempt_of plan faults v node (fault_free_inputs plan v node) 0)

-- What a scheme tolerates. A faulted plain task is never within its budget.
abbrev pub ToleratesFaults : PlanData → List Strike → ℕ → Node → Scheme → Type 0
ToleratesFaults plan faults v node Plain = ⊥
ToleratesFaults plan faults v node Replicate = attempts_named faults v (2 * tolerated + 1) ≤ tolerated
ToleratesFaults plan faults v node (Replay limit) = ReplaysWithin plan faults v node limit
ToleratesFaults plan faults v node Abft = CorrectsWithin plan faults v node

-- the node is skipped in the run without faults
abbrev pub IsSkippedFaultFree : PlanData → ℕ → Type 0
IsSkippedFaultFree plan v = passes_by is_skipped (slice_get (all_results plan []) v) ≡ true

-- a task is skipped without faults, or no fault names it, or its scheme tolerates its faults
abbrev pub KeepsBudget : PlanData → List Strike → ℕ → Node → Kind → Type 0
KeepsBudget plan faults v node Group = ⊤
KeepsBudget plan faults v node Scope = ⊤
KeepsBudget plan faults v node Task = IsSkippedFaultFree plan v ⊎ ((names_task faults v ≡ false) ⊎ ToleratesFaults plan faults v node node.scheme)

-- the node is within its fault budget
abbrev pub IsWithinBudget : PlanData → List Strike → ℕ → Type 0
IsWithinBudget plan faults v = (node : Node) → slice_get plan.nodes v ≡ Some node → KeepsBudget plan faults v node node.kind

-- The node ends as without faults, and its promises have their fault-free values.
pub record IsAsFaultFree (plan : PlanData) (faults : List Strike) (v : ℕ) : Type 0 where
  pub ending : option_map (λ r. ending_of r.verdict) (slice_get (all_results plan faults) v) ≡ option_map (λ r. ending_of r.verdict) (slice_get (all_results plan []) v)
  pub values : (q : ℕ) → putter_of plan.promises q ≡ Some v → value_of plan faults q ≡ value_of plan [] q

-- The budget theorem: a node ends as without faults, with its fault-free values, where it and all that it depends on are within their budgets.
abbrev pub BudgetsAreKept : Type 0
BudgetsAreKept = (plan : PlanData) → IsLawfulPlan plan → (faults : List Strike) (v : ℕ)
    → ((u : ℕ) → DependsOn plan v u → IsWithinBudget plan faults u)
    → IsAsFaultFree plan faults v

-- Each promise whose putter and all that it depends on keep within their budgets has its fault-free value, or none as without faults.
abbrev pub HasFaultFreeValues : PlanData → List Strike → Type 0
HasFaultFreeValues plan faults = (q v : ℕ) → putter_of plan.promises q ≡ Some v
    → ((u : ℕ) → DependsOn plan v u → IsWithinBudget plan faults u) → value_of plan faults q ≡ value_of plan [] q
