-- What a task that is judged needs and gives.
use Rattle.std.proofs.Common.{◌≡◌, ℕ, List, [], ◌∷◌, Some, map, ap, sym, ◌∙◌}
use Rattle.std.proofs.lemmas.Option.{same_Some}
use Rattle.std.specs.List.{slice_get, range_with_len}
use Rattle.rh_injector.specs.declared.faults.Strike.{Strike}
use Rattle.rh_rules.specs.declared.node.Node.{Node}
use Rattle.rh_rules.specs.declared.node.Scheme.{Scheme}
use Rattle.rh_rules.specs.declared.node.Scheme.TheVariants.{Plain, Replicate}
use Rattle.rh_plan.specs.declared.outcome.Trial.TheVariants as trial
use Rattle.rh_plan.specs.declared.outcome.Verdict.TheVariants.{Accepted}
use Rattle.rh_plan.specs.Plans.{PlanData}
use Rattle.rh_plan.specs.Buffers.{BufferData}
use Rattle.rh_plan.specs.Checking.{first_failing}
use Rattle.rh_plan.specs.Judging as meaning
use Rattle.rh_plan.specs.Judging.{are_same, replicated, attempts_of, judged_by}
use Rattle.rh_plan.specs.Correcting.{correction}
use Rattle.rh_plan.specs.Attempts.{attempt_of, attempts_made}
use Rattle.rh_schemes.specs.declared.result.NodeResult.{NodeResult}
use Rattle.rh_attempt.specs.Attempting.{IsAttemptAt}
use Rattle.rh_schemes.specs.Judges.{JudgesAs, HasScheme, result_data}

-- three attempts of a replicated task are all that it may make
made_three : (plan : PlanData) (faults : List Strike) (v : ℕ) (node : Node) (inputs : List (List ℕ)) → node.scheme ≡ Replicate → attempts_made plan faults v node inputs ≡ attempt_of plan faults v node inputs 0 ∷ attempt_of plan faults v node inputs 1 ∷ attempt_of plan faults v node inputs 2 ∷ []
made_three plan faults v node inputs scheme = ap (λ (s : Scheme). map (attempt_of plan faults v node inputs) (range_with_len 0 (attempts_of s))) scheme

-- what three attempts of a replicated task decide is how it is judged
pub replicate_judges : (plan : PlanData) (faults : List Strike) (v : ℕ) (inputs : List (List ℕ)) (a b c : BufferData) (r : NodeResult) → HasScheme plan v Replicate → IsAttemptAt plan faults v inputs 0 a → IsAttemptAt plan faults v inputs 1 b → ((node : Node) → slice_get plan.nodes v ≡ Some node → c ≡ attempt_of plan faults v node inputs 2) → result_data r ≡ replicated 1 (a ∷ b ∷ c ∷ []) → JudgesAs plan faults v inputs r
replicate_judges plan faults v inputs a b c r scheme first second third is node at =
    let failing = first_failing plan inputs node.checks in
    let three : a ∷ b ∷ c ∷ [] ≡ attempts_made plan faults v node inputs =
    ap (λ (x : BufferData). x ∷ b ∷ c ∷ []) (first node at)
    ∙ ap (λ (x : BufferData). attempt_of plan faults v node inputs 0 ∷ x ∷ c ∷ []) (second node at)
    ∙ ap (λ (x : BufferData). attempt_of plan faults v node inputs 0 ∷ attempt_of plan faults v node inputs 1 ∷ x ∷ []) (third node at)
    ∙ sym (made_three plan faults v node inputs (scheme node at)) in
    is ∙ ap (replicated 1) three ∙ sym (ap (judged_by failing (correction plan node inputs) (attempts_made plan faults v node inputs)) (scheme node at))

-- two equal attempts of a replicated task decide, whatever the third would be
pub two_judge : (plan : PlanData) (faults : List Strike) (v : ℕ) (inputs : List (List ℕ)) (a b : BufferData) (r : NodeResult) → HasScheme plan v Replicate → IsAttemptAt plan faults v inputs 0 a → IsAttemptAt plan faults v inputs 1 b → ((c : BufferData) → result_data r ≡ replicated 1 (a ∷ b ∷ c ∷ [])) → JudgesAs plan faults v inputs r
two_judge plan faults v inputs a b r scheme first second is node at =
    let third = attempt_of plan faults v node inputs 2 in
    replicate_judges plan faults v inputs a b third r scheme first second
    (λ other there. ap (λ (n : Node). attempt_of plan faults v n inputs 2) (same_Some node other (sym at ∙ there))) (is third) node at

pub plain_judges : (plan : PlanData) (faults : List Strike) (v : ℕ) (inputs : List (List ℕ)) (b : BufferData) (r : NodeResult) → HasScheme plan v Plain → IsAttemptAt plan faults v inputs 0 b → result_data r ≡ meaning.node_result (Accepted 0) (trial.Accepted ∷ []) (Some b) → JudgesAs plan faults v inputs r
plain_judges plan faults v inputs b r scheme first told node at =
    let failing = first_failing plan inputs node.checks in
    let one : attempts_made plan faults v node inputs ≡ attempt_of plan faults v node inputs 0 ∷ [] = ap (λ (s : Scheme). map (attempt_of plan faults v node inputs) (range_with_len 0 (attempts_of s))) (scheme node at) in
    told ∙ ap (λ (x : BufferData). meaning.plainly (x ∷ [])) (first node at) ∙ ap meaning.plainly (sym one)
    ∙ sym (ap (judged_by failing (correction plan node inputs) (attempts_made plan faults v node inputs)) (scheme node at))
