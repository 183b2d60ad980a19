-- What the events of a journal tell of nodes and promises, and that it is what the results say.
use Rattle.std.specs.Prelude.{ℕ, ◌≡◌, ◌==◌, List, [], ◌∷◌, if◌then◌else◌, Option, Some, None, map, slice_get}
use Rattle.std.specs.List.{filter, filter_map}
use Rattle.rh_rules.specs.declared.node.Node.{Node}
use Rattle.rh_plan.specs.declared.outcome.Trial.{Trial}
use Rattle.rh_plan.specs.declared.outcome.Verdict.{Verdict}
use Rattle.rh_rules.specs.Lawful.{putter_of}
use Rattle.rh_plan.specs.Judging.{NodeResult}
use Rattle.rh_plan.specs.Results.{all_results}
use Rattle.rh_journal.specs.declared.event.Event.{Event}
use Rattle.rh_journal.specs.declared.event.Event.TheVariants.{Claim, Attempt, Put, Void, Release, Free, Decide}
use Rattle.rh_journal.specs.declared.event.Entry.{Entry}
use Rattle.rh_journal.specs.Events.{events}
use Rattle.rh_journal.specs.Own.{Run, puts_by, put_attempt}
use Rattle.rh_journal.specs.Tells.{Tells}

-- how a node ended
abbrev pub verdict_told : ℕ → Event → Option Verdict
verdict_told v (Claim w) = None
verdict_told v (Attempt w k t) = None
verdict_told v (Put q k) = None
verdict_told v (Void q) = None
verdict_told v (Release q by) = None
verdict_told v (Free q) = None
verdict_told v (Decide w d) = if w == v then Some d else None

-- how an attempt of a node ended
abbrev pub trial_told : ℕ → Event → Option Trial
trial_told v (Claim w) = None
trial_told v (Attempt w k t) = if w == v then Some t else None
trial_told v (Put q k) = None
trial_told v (Void q) = None
trial_told v (Release q by) = None
trial_told v (Free q) = None
trial_told v (Decide w d) = None

-- with which attempt a promise was put
abbrev pub put_told : ℕ → Event → Option ℕ
put_told q (Claim w) = None
put_told q (Attempt w k t) = None
put_told q (Put p k) = if p == q then Some k else None
put_told q (Void p) = None
put_told q (Release p by) = None
put_told q (Free p) = None
put_told q (Decide w d) = None

-- The journal tells of each node its verdict, once, and its trials in order, and of each promise that its putter put the attempt, once. Nothing
-- is put that no node puts.
pub record TellsResults (run : Run) (j : List Entry) : Type 0 where
  pub verdicts : (v : ℕ) (node : Node) (r : NodeResult) → slice_get run.plan.nodes v ≡ Some node → slice_get (all_results run.plan run.faults) v ≡ Some r → filter_map (verdict_told v) (events j) ≡ r.verdict ∷ []
  pub trials : (v : ℕ) (node : Node) (r : NodeResult) → slice_get run.plan.nodes v ≡ Some node → slice_get (all_results run.plan run.faults) v ≡ Some r → filter_map (trial_told v) (events j) ≡ r.trials
  pub puts : (q v : ℕ) (node : Node) (r : NodeResult) → putter_of run.plan.promises q ≡ Some v → slice_get run.plan.nodes v ≡ Some node → slice_get (all_results run.plan run.faults) v ≡ Some r
      → filter_map (put_told q) (events j) ≡ map (λ p. put_attempt r.verdict) (filter (λ p. p == q) (puts_by node r))
  pub unput : (q : ℕ) → putter_of run.plan.promises q ≡ None → filter_map (put_told q) (events j) ≡ []

abbrev pub TellingJournalsTellResults : Type 0
TellingJournalsTellResults = (run : Run) (j : List Entry) (shown : List (ℕ × List ℕ)) → Tells run j shown → TellsResults run j
