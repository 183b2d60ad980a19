-- The events of a run of a plan under injected faults, node by node, by the results.
use Rattle.std.specs.Prelude.{ℕ, ◌+◌, ◌&&◌, ◌++◌, List, [], ◌∷◌, Bool, false, not, Option, Some, None, is_some, map, length, slice_get}
use Rattle.std.specs.List.{filter, range_with_len}
use Rattle.rh_injector.specs.declared.faults.Strike.{Strike}
use Rattle.rh_rules.specs.declared.node.Node.{Node}
use Rattle.rh_rules.specs.declared.node.PlannedPromise.{PlannedPromise}
use Rattle.rh_plan.specs.declared.outcome.Trial.{Trial}
use Rattle.rh_plan.specs.declared.outcome.Verdict.{Verdict}
use Rattle.rh_plan.specs.declared.outcome.Verdict.TheVariants.{Accepted, Corrected, Failed, Skipped, Opened, Closed, Ended}
use Rattle.rh_plan.specs.Plans.{PlanData}
use Rattle.rh_rules.specs.Tables.{is_in}
use Rattle.rh_plan.specs.Derived.{is_shown, references}
use Rattle.rh_plan.specs.Buffers.{BufferData}
use Rattle.rh_plan.specs.Judging.{NodeResult}
use Rattle.rh_plan.specs.Results.{all_results, value_of}
use Rattle.rh_journal.specs.declared.event.Event.{Event}
use Rattle.rh_journal.specs.declared.event.Event.TheVariants.{Claim, Attempt, Put, Void, Release, Decide}

-- what is run: a plan, and the faults that are injected
pub record Run : Type 0 where
  pub plan : PlanData
  pub faults : List Strike

abbrev pub run_of : PlanData → List Strike → Run
run_of plan faults = record { plan = plan; faults = faults }

-- the attempts of a task, the first of which has this number, as they ended
abbrev pub attempts_from : ℕ → ℕ → List Trial → List Event
attempts_from v k [] = []
attempts_from v k (t ∷ trials) = Attempt v k t ∷ attempts_from v (k + 1) trials

abbrev pub promises_of : Option BufferData → List ℕ
promises_of None = []
promises_of (Some b) = map (λ p. p.promise) b.puts

abbrev pub drops_by : Option BufferData → List ℕ
drops_by None = []
drops_by (Some b) = b.drops

-- the promises that a node put: a scope its own, a task those of its accepted buffer
abbrev pub put_by : Node → Option BufferData → Verdict → List ℕ
put_by node accepted (Accepted k) = promises_of accepted
put_by node accepted (Corrected i) = promises_of accepted
put_by node accepted Failed = []
put_by node accepted (Skipped c) = []
put_by node accepted Opened = []
put_by node accepted (Closed c) = []
put_by node accepted (Ended a f s) = node.puts

-- the attempt of its puts: the accepted one, and 0 for a corrected task and for a scope
abbrev pub put_attempt : Verdict → ℕ
put_attempt (Accepted k) = k
put_attempt (Corrected i) = 0
put_attempt Failed = 0
put_attempt (Skipped c) = 0
put_attempt Opened = 0
put_attempt (Closed c) = 0
put_attempt (Ended a f s) = 0

abbrev pub puts_by : Node → NodeResult → List ℕ
puts_by node r = put_by node r.accepted r.verdict

-- the promises that it might have put and did not, in body order
abbrev pub voids_by : Node → NodeResult → List ℕ
voids_by node r = filter (λ q. not (is_in q (puts_by node r))) node.puts

-- The promises that it releases: those that its accepted buffer drops, then its other awaits that have a value, then those that it put.
abbrev pub released_by : (ℕ → Bool) → Node → NodeResult → List ℕ
released_by has node r = drops_by r.accepted ++ (filter (λ q. not (is_in q (drops_by r.accepted)) && has q) node.awaits ++ puts_by node r)

-- The events of a node with this result: its claim, its attempts, puts and voids, its releases, and how it ended.
abbrev pub node_events : (ℕ → Bool) → ℕ → Node → NodeResult → List Event
node_events has v node r =
    Claim v ∷ (attempts_from v 0 r.trials
    ++ (map (λ q. Put q (put_attempt r.verdict)) (puts_by node r)
    ++ (map Void (voids_by node r)
    ++ (map (λ q. Release q (Some v)) (released_by has node r)
    ++ (Decide v r.verdict ∷ [])))))

-- whether a promise has a value after the run
abbrev pub has_value : Run → ℕ → Bool
has_value run q = is_some (value_of run.plan run.faults q)

abbrev pub events_if : (ℕ → Bool) → ℕ → Option Node → Option NodeResult → List Event
events_if has v None r = []
events_if has v (Some node) None = []
events_if has v (Some node) (Some r) = node_events has v node r

-- the node's own events in a run
unfoldable pub own_events : Run → ℕ → List Event
own_events run v = events_if (has_value run) v (slice_get run.plan.nodes v) (slice_get (all_results run.plan run.faults) v)

abbrev pub shown_if : Option PlannedPromise → Bool
shown_if None = false
shown_if (Some p) = is_shown p

-- the report shows the promise
abbrev pub is_shown_at : PlanData → ℕ → Bool
is_shown_at plan q = shown_if (slice_get plan.promises q)

-- the shown promises that have a value, in promise order
abbrev pub shown_promises : Run → List ℕ
shown_promises run = filter (λ q. is_shown_at run.plan q && has_value run q) (range_with_len 0 (length run.plan.promises))

-- the releases of the report
unfoldable pub report_events : Run → List Event
report_events run = map (λ q. Release q None) (shown_promises run)

abbrev pub references_if : PlanData → ℕ → Option PlannedPromise → ℕ
references_if plan q None = 0
references_if plan q (Some p) = references plan q p

-- how many references a promise has
unfoldable pub references_of : PlanData → ℕ → ℕ
references_of plan q = references_if plan q (slice_get plan.promises q)
