-- How a node that ended is recorded.
use Rattle.std.specs.Prelude.{ℕ, ◌≡◌, ◌<◌, ◌^◌, ◌++◌, List, [], ◌∷◌, Bool, Option, length}
use Rattle.std.specs.List.{AllByRecursion}
use Rattle.rh_plan.specs.Buffers.{words_put}
use Rattle.rh_plan.specs.Plans.{PlanData, OfNode}
use Rattle.rh_schemes.specs.declared.result.NodeResult as code
use Rattle.rh_schemes.specs.Judges.{result_data}
use Rattle.rh_plain.specs.declared.progress.Ending.{Ending}
use Rattle.rh_plain.specs.Values.{AreGiven}
use Rattle.rh_plain.specs.Drawing.{Draws, listed_events}
use Rattle.rh_plain.specs.Holding.{KeepsWords}
use Rattle.rh_plain.specs.Listing.{HasLists}
use Rattle.rh_plain.specs.NodeLists.{NodeLists}
use Rattle.rh_plain.specs.Runs.{Progress, made_by}

-- how a node ended that has this result, where `has` says which promises have words
pub record IsEndingOf (plan : PlanData) (v : ℕ) (has : ℕ → Bool) (r : code.NodeResult) (ending : Ending) : Type 0 where
  pub verdict : ending.verdict ≡ r.verdict
  pub trials : ending.trials ≡ r.trials
  pub lists : OfNode plan v (λ node. HasLists has node (result_data r) ending.lists)
  pub puts : OfNode plan v (λ node. ending.puts.items ≡ made_by node.puts r.verdict r.accepted)

-- how a node ended that has this result and these lists
pub record IsEndingWith (plan : PlanData) (v : ℕ) (r : code.NodeResult) (listed : NodeLists) (ending : Ending) : Type 0 where
  pub verdict : ending.verdict ≡ r.verdict
  pub trials : ending.trials ≡ r.trials
  pub lists : ending.lists ≡ listed
  pub puts : OfNode plan v (λ node. ending.puts.items ≡ made_by node.puts r.verdict r.accepted)

-- the ending speaks of promises of the plan, and of few attempts
pub record FitsPlan (plan : PlanData) (ending : Ending) : Type 0 where
  pub trials : length ending.trials < 2 ^ 32
  pub released : AllByRecursion (λ q. q < length plan.promises) ending.lists.released
  pub puts : AllByRecursion (λ p. p.promise < length plan.promises) ending.puts.items

-- what is known behind a node that ended so: its verdict, its events, and the words that are not freed
pub record HasTold (plan : PlanData) (v : ℕ) (ending : Ending) (old new : Progress) : Type 0 where
  pub given : List (Option (List ℕ))
  pub gives : AreGiven (λ q. words_put q ending.puts.items) old.values given
  pub drawn : Draws plan old.drawn new.drawn (listed_events v ending.verdict ending.trials ending.lists.puts ending.lists.voids ending.lists.released)
  pub kept : KeepsWords plan old.drawn given new.values (listed_events v ending.verdict ending.trials ending.lists.puts ending.lists.voids ending.lists.released)
  pub verdicts : new.verdicts ≡ old.verdicts ++ ending.verdict ∷ []
