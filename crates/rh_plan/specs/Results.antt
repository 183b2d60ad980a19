-- What a run of a plan gives, whoever runs it and in whatever order.
use Rattle.std.specs.Prelude.{ℕ, zero, suc, ◌++◌, List, [], ◌∷◌, Bool, true, false, Option, Some, None, is_some, map, length, unwrap_or, slice_get, option_and_then}
use Rattle.std.specs.List.{filter}
use Rattle.rh_injector.specs.declared.faults.Strike.{Strike}
use Rattle.rh_rules.specs.declared.node.Kind.{Kind}
use Rattle.rh_rules.specs.declared.node.Kind.TheVariants.{Task, Group, Scope}
use Rattle.rh_rules.specs.declared.node.Node.{Node}
use Rattle.rh_plan.specs.declared.outcome.Cause.{Cause}
use Rattle.rh_plan.specs.declared.outcome.Cause.TheVariants as cause
use Rattle.rh_plan.specs.declared.outcome.Verdict.{Verdict}
use Rattle.rh_plan.specs.declared.outcome.Verdict.TheVariants.{Accepted, Corrected, Failed, Skipped, Opened, Closed, Ended}
use Rattle.rh_rules.specs.Lawful.{putter_of}
use Rattle.rh_plan.specs.Plans.{PlanData}
use Rattle.rh_plan.specs.Buffers.{BufferData, words_put}
use Rattle.rh_plan.specs.Judging.{NodeResult, node_result}
use Rattle.rh_plan.specs.Attempts.{judged}

-- the words that a node puts to a promise: a scope its three counts, a task what its accepted buffer puts
abbrev pub value_put : ℕ → Option BufferData → Verdict → Option (List ℕ)
value_put q accepted (Ended a f s) = Some (a ∷ f ∷ s ∷ [])
value_put q accepted (Accepted k) = option_and_then (λ b. words_put q b.puts) accepted
value_put q accepted (Corrected i) = option_and_then (λ b. words_put q b.puts) accepted
value_put q accepted Failed = None
value_put q accepted (Skipped c) = None
value_put q accepted Opened = None
value_put q accepted (Closed c) = None

abbrev pub value_by : ℕ → NodeResult → Option (List ℕ)
value_by q r = value_put q r.accepted r.verdict

-- The value of a promise by the results of the first nodes: what its putter puts to it, where its putter is one of them.
abbrev pub value_in : PlanData → List NodeResult → ℕ → Option (List ℕ)
value_in plan results q = option_and_then (λ v. option_and_then (value_by q) (slice_get results v)) (putter_of plan.promises q)

-- the words of the promises that a node awaits
abbrev pub inputs_in : PlanData → List NodeResult → List ℕ → List (List ℕ)
inputs_in plan results awaits = map (λ q. unwrap_or (value_in plan results q) []) awaits

-- the first awaited promise that is not there
abbrev pub first_absent : List ℕ → List Bool → Option Cause
first_absent [] present = None
first_absent (q ∷ awaits) [] = None
first_absent (q ∷ awaits) (true ∷ present) = first_absent awaits present
first_absent (q ∷ awaits) (false ∷ present) = Some (cause.Promise q)

-- Why a task is skipped or a group stays closed: its innermost enclosing group where that did not open, else the first awaited promise that is not there.
abbrev pub blamed : Option ℕ → Bool → List ℕ → List Bool → Option Cause
blamed (Some g) false awaits present = Some (cause.Group g)
blamed (Some g) true awaits present = first_absent awaits present
blamed None opened awaits present = first_absent awaits present

abbrev pub is_opened : Verdict → Bool
is_opened Opened = true
is_opened (Closed c) = false
is_opened (Accepted k) = false
is_opened (Corrected i) = false
is_opened Failed = false
is_opened (Skipped c) = false
is_opened (Ended a f s) = false

abbrev pub passes_by : (Verdict → Bool) → Option NodeResult → Bool
passes_by test None = false
passes_by test (Some r) = test r.verdict

-- whether the innermost enclosing group opened, where there is one
abbrev pub group_opened : List NodeResult → Option ℕ → Bool
group_opened results None = true
group_opened results (Some g) = passes_by is_opened (slice_get results g)

-- which of the awaited promises are there
abbrev pub present_in : PlanData → List NodeResult → List ℕ → List Bool
present_in plan results awaits = map (λ q. is_some (value_in plan results q)) awaits

-- the cause of a task or a group, where there is one
abbrev pub cause_in : PlanData → List NodeResult → Node → Option Cause
cause_in plan results node = blamed node.group (group_opened results node.group) node.awaits (present_in plan results node.awaits)

-- a task without a cause is judged on the words that it awaits
abbrev pub task_result : PlanData → List Strike → List NodeResult → ℕ → Node → Option Cause → NodeResult
task_result plan faults results v node None = judged plan faults v node (inputs_in plan results node.awaits)
task_result plan faults results v node (Some c) = node_result (Skipped c) [] None

abbrev pub group_result : Option Cause → NodeResult
group_result None = node_result Opened [] None
group_result (Some c) = node_result (Closed c) [] None

-- A verdict without the number of the attempt or of the corrected word. Accepted and corrected count as one here.
abbrev pub ending_of : Verdict → Verdict
ending_of (Accepted k) = Accepted 0
ending_of (Corrected i) = Accepted 0
ending_of Failed = Failed
ending_of (Skipped c) = Skipped c
ending_of Opened = Opened
ending_of (Closed c) = Closed c
ending_of (Ended a f s) = Ended a f s

abbrev pub is_accepted : Verdict → Bool
is_accepted (Accepted k) = true
is_accepted (Corrected i) = true
is_accepted Failed = false
is_accepted (Skipped c) = false
is_accepted Opened = false
is_accepted (Closed c) = false
is_accepted (Ended a f s) = false

abbrev pub is_failed : Verdict → Bool
is_failed Failed = true
is_failed (Accepted k) = false
is_failed (Corrected i) = false
is_failed (Skipped c) = false
is_failed Opened = false
is_failed (Closed c) = false
is_failed (Ended a f s) = false

abbrev pub is_skipped : Verdict → Bool
is_skipped (Skipped c) = true
is_skipped (Accepted k) = false
is_skipped (Corrected i) = false
is_skipped Failed = false
is_skipped Opened = false
is_skipped (Closed c) = false
is_skipped (Ended a f s) = false

-- how many of the nodes ended so
abbrev pub count_ended : (Verdict → Bool) → List NodeResult → List ℕ → ℕ
count_ended test results members = length (filter (λ u. passes_by test (slice_get results u)) members)

-- a scope ends with the numbers of its tasks that were accepted, that failed and that were skipped
abbrev pub scope_result : List NodeResult → List ℕ → NodeResult
scope_result results members = node_result (Ended (count_ended is_accepted results members) (count_ended is_failed results members) (count_ended is_skipped results members)) [] None

-- the result of a node by its kind, given the results of those below it
abbrev pub result_by_kind : PlanData → List Strike → List NodeResult → ℕ → Node → Kind → NodeResult
result_by_kind plan faults results v node Task = task_result plan faults results v node (cause_in plan results node)
result_by_kind plan faults results v node Group = group_result (cause_in plan results node)
result_by_kind plan faults results v node Scope = scope_result results node.members

unfoldable pub result_of_node : PlanData → List Strike → List NodeResult → ℕ → Node → NodeResult
result_of_node plan faults results v node = result_by_kind plan faults results v node node.kind

-- the result of the node of a number, where there is one
abbrev pub result_at : PlanData → List Strike → List NodeResult → ℕ → Option Node → List NodeResult
result_at plan faults results v None = []
result_at plan faults results v (Some node) = result_of_node plan faults results v node ∷ []

-- The results of the first n nodes, by recursion on n: each node's result rests on those of lower numbers.
unfoldable pub results : PlanData → List Strike → ℕ → List NodeResult
results plan faults zero = []
results plan faults (suc n) = results plan faults n ++ result_at plan faults (results plan faults n) n (slice_get plan.nodes n)

-- the results of all nodes
abbrev pub all_results : PlanData → List Strike → List NodeResult
all_results plan faults = results plan faults (length plan.nodes)

-- the value of a promise after a run
abbrev pub value_of : PlanData → List Strike → ℕ → Option (List ℕ)
value_of plan faults q = value_in plan (all_results plan faults) q
