-- How a replicated task is judged by the buffers of its attempts, case by case.
use Rattle.std.specs.Prelude.{◌≡◌, ◌≢◌, [], ◌∷◌, Some, None}
use Rattle.rh_plan.specs.declared.outcome.Trial.TheVariants as trial
use Rattle.rh_plan.specs.declared.outcome.Verdict.TheVariants.{Accepted, Failed}
use Rattle.rh_plan.specs.Buffers.{BufferData}
use Rattle.rh_plan.specs.Judging.{node_result, replicated, tolerated}

-- The buffers b0, b1 and b2 are those of the attempts 0, 1 and 2. Where b0 and b1 are equal, b2 need not be made.
pub record ThreeReplicasDecideByTheTable : Type 0 where
  pub first_two : (b0 b1 b2 : BufferData) → b0 ≡ b1 → replicated tolerated (b0 ∷ b1 ∷ b2 ∷ []) ≡ node_result (Accepted 0) (trial.Accepted ∷ trial.Agreed ∷ []) (Some b0)
  pub first_and_third : (b0 b1 b2 : BufferData) → b0 ≢ b1 → b0 ≡ b2 → replicated tolerated (b0 ∷ b1 ∷ b2 ∷ []) ≡ node_result (Accepted 0) (trial.Accepted ∷ trial.Differed ∷ trial.Agreed ∷ []) (Some b0)
  pub last_two : (b0 b1 b2 : BufferData) → b0 ≢ b1 → b1 ≡ b2 → replicated tolerated (b0 ∷ b1 ∷ b2 ∷ []) ≡ node_result (Accepted 1) (trial.Differed ∷ trial.Accepted ∷ trial.Agreed ∷ []) (Some b1)
  pub none : (b0 b1 b2 : BufferData) → b0 ≢ b1 → b0 ≢ b2 → b1 ≢ b2 → replicated tolerated (b0 ∷ b1 ∷ b2 ∷ []) ≡ node_result Failed (trial.Differed ∷ trial.Differed ∷ trial.Differed ∷ []) None
