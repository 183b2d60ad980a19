-- What judging a task of a plan answers.
use Rattle.std.specs.Prelude.{ℕ, ◌≡◌, List}
use Rattle.rh_injector.specs.declared.faults.Strike.{Strike}
use Rattle.rh_rules.specs.declared.node.Scheme.{Scheme}
use Rattle.rh_rules.specs.declared.node.Scheme.TheVariants.{Replay}
use Rattle.rh_plan.specs.Plans.{PlanData, OfNode}
use Rattle.rh_plan.specs.Judging.{node_result}
use Rattle.rh_plan.specs.Judging as meaning
use Rattle.rh_plan.specs.Attempts.{judged}
use Rattle.rh_schemes.specs.declared.result.NodeResult.{NodeResult}

-- the result as the definitions have it
abbrev pub result_data : NodeResult → meaning.NodeResult
result_data r = node_result r.verdict r.trials r.accepted

-- The task v is judged as the definition says: by the buffers of all attempts that its scheme allows.
abbrev pub JudgesAs : PlanData → List Strike → ℕ → List (List ℕ) → NodeResult → Type 0
JudgesAs plan faults v inputs r = OfNode plan v (λ node. result_data r ≡ judged plan faults v node inputs)

-- the node has this scheme
abbrev pub HasScheme : PlanData → ℕ → Scheme → Type 0
HasScheme plan v scheme = OfNode plan v (λ node. node.scheme ≡ scheme)

-- the node is replayed
abbrev pub IsReplayed : PlanData → ℕ → Type 0
IsReplayed plan v = OfNode plan v (λ node. (limit : ℕ) × (node.scheme ≡ Replay limit))
