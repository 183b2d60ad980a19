-- What the code that finds the faults of a text keeps: tasks by name in one map, and the faults of the lines so far.
use Rattle.std.specs.Prelude.{ℕ, ◌≡◌, ◌<◌, ◌≤◌, ◌&&◌, List, [], ◌∷◌, true, Option, Some, None, map, take, cond, sum, slice_index, slice_index_or, IsPermutation, ⊤, ◌⊎◌, false, is_none, nat_le, unwrap_or}
use Rattle.std.specs.HashMap.{HashMap, get}
use Rattle.rh_words.specs.Naming.{is_name}
use Rattle.rh_words.specs.NameKeys.{name_key, keys_eq}
use Rattle.rh_words.specs.declared.limits.TheConstants.{MAX_PROMISE_WORDS}
use Rattle.rh_words.specs.declared.reason.Reason.{Reason}
use Rattle.rh_words.specs.declared.reason.Reason.TheVariants.{FaultTwice, Attempt, Local, BadWord, ZeroMask}
use Rattle.rh_words.specs.declared.name_key.NameKey.{NameKey}
use Rattle.rh_injector.specs.declared.fault_text.FaultLine.{FaultLine}
use Rattle.rh_injector.specs.declared.faults.Strike.{Strike}
use Rattle.rh_injector.specs.Faults.{names_place}
use Rattle.rh_rules.specs.declared.body.Step.{Step}
use Rattle.rh_rules.specs.declared.body.Step.TheVariants.{Join}
use Rattle.rh_rules.specs.declared.node.Node.{Node}
use Rattle.rh_rules.specs.declared.node.PlannedPromise.{PlannedPromise}
use Rattle.rh_rules.specs.declared.shape.Shape.{Shape}
use Rattle.rh_rules.specs.Bodies.{lens_at}
use Rattle.rh_rules.specs.Lawful.{is_task, local_lens}
use Rattle.rh_rules.specs.Tables.{if_any}
use Rattle.rh_plan.specs.Plans.{PlanData}
use Rattle.rh_plan.specs.Judging.{attempts_of}
use Rattle.rh_plan.specs.FaultLines.{local_number, is_zero_mask, task_among, reason_at, strike_of, fault_reason}

-- the number that the map has at a name
abbrev pub number_known : {S : Type 0} → HashMap NameKey ℕ S → List ℕ → Option ℕ
number_known known name = get keys_eq known (name_key name)

-- the map has this node too with this number, where it is a task
abbrev pub IsTaskNoted : {S : Type 0} → HashMap NameKey ℕ S → HashMap NameKey ℕ S → Node → ℕ → Type 0
IsTaskNoted old new node number =
    (name : List ℕ) → number_known new name ≡ cond (is_task node.kind && keys_eq (name_key node.name) (name_key name)) (Some number) (number_known old name)

-- the map has the tasks among these nodes, each by its place
abbrev pub AreTasksNumbered : {S : Type 0} → HashMap NameKey ℕ S → List Node → Type 0
AreTasksNumbered known nodes = (name : List ℕ) → is_name name ≡ true → number_known known name ≡ task_among nodes name

-- the name of the promise of this number
abbrev pub name_at : List PlannedPromise → ℕ → List ℕ
name_at promises q = slice_index_or (map (λ p. p.name) promises) q []

-- the parts of a `join` are not longer together than a local may be
abbrev pub IsShortJoin : List ℕ → Step → Type 0
IsShortJoin lens (Join parts) = sum (lens_at lens parts) ≤ MAX_PROMISE_WORDS
IsShortJoin lens step = ⊤

-- The first n lines have no reason, and these are their faults, in some order.
pub record AreFaultsBelow (plan : PlanData) (lines : List FaultLine) (n : ℕ) (faults : List Strike) : Type 0 where
  pub kept : (at : ℕ) → at < n → reason_at plan lines at ≡ None
  pub same : IsPermutation (map (strike_of plan) (take n lines)) faults

-- The fault of a line that names a place is added to those before it, none of which has that place.
pub record AddsFault (plan : PlanData) (before : List Strike) (line : FaultLine) (after : List Strike) : Type 0 where
  pub placed : fault_reason plan [] line ≡ None
  pub fresh : names_place before (strike_of plan line) ≡ false
  pub added : IsPermutation (strike_of plan line ∷ before) after

-- why the fault of a line is not added to these: it names no place, or one of these has its place
abbrev pub IsNotAdded : PlanData → List Strike → FaultLine → Reason → Type 0
IsNotAdded plan before line reason =
    (fault_reason plan [] line ≡ Some reason)
    ⊎ ((fault_reason plan [] line ≡ None) × (names_place before (strike_of plan line) ≡ true) × (reason ≡ FaultTwice))

-- why a line that names this task names no word of its locals in an attempt that it may make
abbrev pub word_reason : List Shape → List PlannedPromise → Node → FaultLine → Option Reason
word_reason shapes promises node fault =
    cond (nat_le (attempts_of node.scheme) fault.attempt) (Some Attempt)
    (cond (is_none (local_number promises fault.local node)) (Some Local)
    (cond (if_any (λ i. nat_le (slice_index (local_lens shapes promises node) i) fault.word) (local_number promises fault.local node)) (Some BadWord) None))

-- why a line that names this task is refused, but for a place that stands above
abbrev pub reason_in_task : List Shape → List PlannedPromise → Node → FaultLine → Option Reason
reason_in_task shapes promises node fault =
    cond (nat_le (attempts_of node.scheme) fault.attempt) (Some Attempt)
    (cond (is_none (local_number promises fault.local node)) (Some Local)
    (cond (if_any (λ i. nat_le (slice_index (local_lens shapes promises node) i) fault.word) (local_number promises fault.local node)) (Some BadWord)
    (cond (is_zero_mask fault) (Some ZeroMask) None)))

-- the fault of a line that names this task, the node v
abbrev pub strike_in_task : List PlannedPromise → ℕ → Node → FaultLine → Strike
strike_in_task promises v node fault =
    record { node = v; attempt = fault.attempt; local = unwrap_or (local_number promises fault.local node) 0; word = fault.word; mask = fault.mask }
