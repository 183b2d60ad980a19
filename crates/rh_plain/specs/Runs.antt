-- How the nodes of a plan are run one after another.
use Rattle.std.specs.Prelude.{ℕ, ◌≡◌, List, [], ◌∷◌, Option, Some, None, map, slice_get}
use Rattle.std.specs.List.{AllByRecursion}
use Rattle.rh_injector.specs.declared.faults.Strike.{Strike}
use Rattle.rh_plan.specs.declared.outcome.Verdict.{Verdict}
use Rattle.rh_plan.specs.declared.outcome.Verdict.TheVariants.{Accepted, Corrected, Failed, Skipped, Opened, Closed, Ended}
use Rattle.rh_plan.specs.declared.made_put.MadePut.{MadePut}
use Rattle.rh_rules.specs.declared.node.Node.{Node}
use Rattle.rh_rules.specs.declared.node.Kind.TheVariants.{Task}
use Rattle.rh_plan.specs.Plans.{PlanData, OfNode}
use Rattle.rh_plan.specs.Buffers.{BufferData}
use Rattle.rh_plan.specs.Results.{results, result_of_node, value_in, cause_in}
use Rattle.rh_schemes.specs.Judges.{result_data}
use Rattle.rh_journal.specs.Own.{run_of}
use Rattle.rh_journal.specs.OneThread.{events_below}
use Rattle.rh_schemes.specs.declared.result.NodeResult as code
use Rattle.rh_plain.specs.Values.{words_at}
use Rattle.rh_plain.specs.Drawing.{Drawn, HasDrawn}
use Rattle.rh_plain.specs.Holding.{HoldsWords}

-- what is known between two nodes: how the lower nodes ended, the words of promises, and the journal
pub record Progress : Type 0 where
  pub verdicts : List Verdict
  pub values : List (Option (List ℕ))
  pub drawn : Drawn

abbrev pub progress : List Verdict → List (Option (List ℕ)) → Drawn → Progress
progress verdicts values drawn = record { verdicts = verdicts; values = values; drawn = drawn }

-- The first v nodes have ended.
pub record IsSoFar (plan : PlanData) (faults : List Strike) (v : ℕ) (p : Progress) : Type 0 where
  pub ended : p.verdicts ≡ map (λ r. r.verdict) (results plan faults v)
  pub drawn : HasDrawn plan (events_below (run_of plan faults) v) p.drawn
  pub held : HoldsWords plan (results plan faults v) (events_below (run_of plan faults) v) p.values

-- the words that the node v awaits are there
abbrev pub HasAwaited : PlanData → List Strike → ℕ → List (Option (List ℕ)) → Type 0
HasAwaited plan faults v values = OfNode plan v (λ node. AllByRecursion (λ q. words_at values q ≡ value_in plan (results plan faults v) q) node.awaits)

-- Before the node v it is known how the lower nodes ended, and the words that it awaits are there.
pub record IsBefore (plan : PlanData) (faults : List Strike) (v : ℕ) (verdicts : List Verdict) (values : List (Option (List ℕ))) : Type 0 where
  pub ended : verdicts ≡ map (λ r. r.verdict) (results plan faults v)
  pub awaited : HasAwaited plan faults v values

-- the node v ends as the definition says, given the results of the lower nodes
abbrev pub AnswersNode : PlanData → List Strike → ℕ → code.NodeResult → Type 0
AnswersNode plan faults v r = OfNode plan v (λ node. result_data r ≡ result_of_node plan faults (results plan faults v) v node)

-- what an accepted buffer puts
abbrev pub puts_in : Option BufferData → List MadePut
puts_in None = []
puts_in (Some b) = b.puts

-- the three counts of a scope, put to a promise
abbrev pub counts_put : ℕ → ℕ → ℕ → ℕ → MadePut
counts_put q a f s = record { promise = q; words = a ∷ f ∷ s ∷ [] }

-- what a node puts, by its verdict: a task what its accepted buffer puts, a scope its three counts to its own promise
abbrev pub made_by : List ℕ → Verdict → Option BufferData → List MadePut
made_by puts (Accepted k) accepted = puts_in accepted
made_by puts (Corrected i) accepted = puts_in accepted
made_by puts (Ended a f s) accepted = map (λ q. counts_put q a f s) puts
made_by puts Failed accepted = []
made_by puts (Skipped c) accepted = []
made_by puts Opened accepted = []
made_by puts (Closed c) accepted = []

-- the node is a task that is not skipped
pub record IsUnskipped (plan : PlanData) (faults : List Strike) (v : ℕ) : Type 0 where
  pub node : Node
  pub there : slice_get plan.nodes v ≡ Some node
  pub kind : node.kind ≡ Task
  pub cause : cause_in plan (results plan faults v) node ≡ None
