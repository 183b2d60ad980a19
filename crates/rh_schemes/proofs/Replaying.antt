-- A replayed task, attempt by attempt.
use Rattle.std.proofs.Common.{◌≡◌, ℕ, zero, suc, ◌+◌, ◌<◌, ◌≤◌, List, [], ◌∷◌, ◌++◌, false, Option, Some, None, length, map, take, unwrap_or, refl, arith, ap, sym, ◌∙◌, subst}
use Rattle.std.proofs.lemmas.List.{map-append, take_all}
use Rattle.std.proofs.lemmas.Option.{none-some, same_Some, slice_get_within, get_or_from_slice_get}
use Rattle.std.specs.List.{slice_get, position_or_len}
use Rattle.std.specs.Option.{is_none}
use Rattle.rh_injector.specs.declared.faults.Strike.{Strike}
use Rattle.rh_rules.specs.declared.node.Node.{Node}
use Rattle.rh_rules.specs.declared.node.Scheme.TheVariants.{Replay}
use Rattle.rh_plan.specs.declared.outcome.Trial.{Trial}
use Rattle.rh_plan.specs.declared.outcome.Trial.TheVariants as trial
use Rattle.rh_plan.specs.declared.outcome.Verdict.TheVariants.{Accepted, Failed}
use Rattle.rh_plan.specs.Plans.{PlanData}
use Rattle.rh_plan.specs.Buffers.{BufferData}
use Rattle.rh_plan.specs.Checking.{first_failing}
use Rattle.rh_plan.specs.Judging.{node_result, refused, replayed, replayed_after, attempts_of, judged_by}
use Rattle.rh_plan.specs.Correcting.{correction}
use Rattle.rh_plan.specs.Attempts.{attempts_made}
use Rattle.rh_plan.proofs.Attempts.{length-attempts_made, attempt_at}
use Rattle.rh_schemes.specs.declared.result.NodeResult.{NodeResult}
use Rattle.rh_attempt.specs.Attempting.{IsAttemptAt}
use Rattle.rh_schemes.specs.Judges.{JudgesAs, HasScheme, result_data}
use Rattle.rh_schemes.specs.Checking.{IsFirstFailingAt}
use Rattle.rh_schemes.proofs.Firsts.{first_later, first_here, first_nowhere}

take_one_more : {X : Type 0} (xs : List X) (k : ℕ) (x : X) → slice_get xs k ≡ Some x → take (k + 1) xs ≡ take k xs ++ x ∷ []
take_one_more [] k x at = absurd (none-some x at)
take_one_more (y ∷ xs) zero x at = ap (λ z. z ∷ []) (same_Some y x at)
take_one_more (y ∷ xs) (suc k) x at =
    let more : suc k + 1 ≡ suc (k + 1) = omega arith in
    ap (λ (n : ℕ). take n (y ∷ xs)) more ∙ ap (λ l. y ∷ l) (take_one_more xs k x at)

-- the first k attempts were refused
pub record AreRefused (failing : BufferData → Option ℕ) (made : List BufferData) (k : ℕ) (trials : List Trial) : Type 0 where
  pub told : trials ≡ map (refused failing) (take k made)
  pub none_passes : k ≤ position_or_len (λ b. is_none (failing b)) made

refused_more : (failing : BufferData → Option ℕ) (made : List BufferData) (k which : ℕ) (trials : List Trial) (b : BufferData) → slice_get made k ≡ Some b → Some which ≡ failing b → AreRefused failing made k trials → AreRefused failing made (k + 1) (trials ++ trial.Refused which ∷ [])
refused_more failing made k which trials b at fails before =
    let this : refused failing b ≡ trial.Refused which = ap (λ (o : Option ℕ). trial.Refused (unwrap_or o 0)) (sym fails) in
    let passes : is_none (failing b) ≡ false = ap is_none (sym fails) in
    record {
      told = ap (λ (l : List Trial). l ++ trial.Refused which ∷ []) before.told
          ∙ ap (λ (t : Trial). map (refused failing) (take k made) ++ t ∷ []) (sym this)
          ∙ sym (map-append (refused failing) (take k made) (b ∷ []))
          ∙ ap (map (refused failing)) (sym (take_one_more made k b at));
      none_passes = first_later (λ x. is_none (failing x)) made k b before.none_passes (slice_get_within made k b at)
          (ap (λ x. is_none (failing x)) (get_or_from_slice_get made k b b at) ∙ passes);
    }

accepted_here : (failing : BufferData → Option ℕ) (made : List BufferData) (k : ℕ) (trials : List Trial) (b : BufferData) → slice_get made k ≡ Some b → None ≡ failing b → AreRefused failing made k trials → node_result (Accepted k) (trials ++ trial.Accepted ∷ []) (Some b) ≡ replayed failing made
unfolding replayed
accepted_here failing made k trials b at passes before =
    let here = first_here (λ x. is_none (failing x)) made k b before.none_passes (slice_get_within made k b at)
    (ap (λ x. is_none (failing x)) (get_or_from_slice_get made k b b at) ∙ ap is_none (sym passes)) in
    ap (λ (l : List Trial). node_result (Accepted k) (l ++ trial.Accepted ∷ []) (Some b)) before.told
    ∙ ap (λ (o : Option BufferData). node_result (Accepted k) (map (refused failing) (take k made) ++ trial.Accepted ∷ []) o) (sym at)
    ∙ ap (replayed_after failing made) (sym here)

all_refused : (failing : BufferData → Option ℕ) (made : List BufferData) (k : ℕ) (trials : List Trial) → length made ≡ k → AreRefused failing made k trials → node_result Failed trials None ≡ replayed failing made
unfolding replayed
all_refused failing made k trials long before =
    let past : length made ≤ position_or_len (λ x. is_none (failing x)) made = let low = before.none_passes in omega arith in
    ap (λ (l : List Trial). node_result Failed l None) (before.told ∙ ap (map (refused failing)) (take_all k made (omega arith)))
    ∙ ap (replayed_after failing made) (sym (first_nowhere (λ x. is_none (failing x)) made past))

-- what the loop keeps: the first k attempts of the task were refused
abbrev pub AreRefusedAt : PlanData → List Strike → ℕ → List (List ℕ) → ℕ → List Trial → Type 0
AreRefusedAt plan faults v inputs k trials = (node : Node) → slice_get plan.nodes v ≡ Some node → AreRefused (first_failing plan inputs node.checks) (attempts_made plan faults v node inputs) k trials

pub none_refused : (plan : PlanData) (faults : List Strike) (v : ℕ) (inputs : List (List ℕ)) → AreRefusedAt plan faults v inputs 0 []
none_refused plan faults v inputs node at = record { told = refl; none_passes = omega arith }

made_here : (plan : PlanData) (faults : List Strike) (v : ℕ) (inputs : List (List ℕ)) (limit k : ℕ) (b : BufferData) (node : Node) → slice_get plan.nodes v ≡ Some node → HasScheme plan v (Replay limit) → k < limit → IsAttemptAt plan faults v inputs k b → slice_get (attempts_made plan faults v node inputs) k ≡ Some b
made_here plan faults v inputs limit k b node at scheme below is =
    let count : limit ≡ attempts_of node.scheme = sym (ap attempts_of (scheme node at)) in
    attempt_at plan faults v node inputs k (subst (λ (n : ℕ). k < n) count below) ∙ ap Some (sym (is node at))

pub one_refused : (plan : PlanData) (faults : List Strike) (v : ℕ) (inputs : List (List ℕ)) (limit k which : ℕ) (b : BufferData) (trials : List Trial) → HasScheme plan v (Replay limit) → k < limit → IsAttemptAt plan faults v inputs k b → IsFirstFailingAt plan v inputs b (Some which) → AreRefusedAt plan faults v inputs k trials → AreRefusedAt plan faults v inputs (k + 1) (trials ++ trial.Refused which ∷ [])
one_refused plan faults v inputs limit k which b trials scheme below is fails before node at =
    refused_more (first_failing plan inputs node.checks) (attempts_made plan faults v node inputs) k which trials b (made_here plan faults v inputs limit k b node at scheme below is) (fails node at) (before node at)

judged_replay : (plan : PlanData) (faults : List Strike) (v : ℕ) (inputs : List (List ℕ)) (limit : ℕ) (node : Node) → slice_get plan.nodes v ≡ Some node → HasScheme plan v (Replay limit) → replayed (first_failing plan inputs node.checks) (attempts_made plan faults v node inputs) ≡ judged_by (first_failing plan inputs node.checks) (correction plan node inputs) (attempts_made plan faults v node inputs) node.scheme
judged_replay plan faults v inputs limit node at scheme = ap (judged_by (first_failing plan inputs node.checks) (correction plan node inputs) (attempts_made plan faults v node inputs)) (sym (scheme node at))

pub one_accepted : (plan : PlanData) (faults : List Strike) (v : ℕ) (inputs : List (List ℕ)) (limit k : ℕ) (b : BufferData) (trials : List Trial) (r : NodeResult) → HasScheme plan v (Replay limit) → k < limit → IsAttemptAt plan faults v inputs k b → IsFirstFailingAt plan v inputs b None → AreRefusedAt plan faults v inputs k trials → result_data r ≡ node_result (Accepted k) (trials ++ trial.Accepted ∷ []) (Some b) → JudgesAs plan faults v inputs r
one_accepted plan faults v inputs limit k b trials r scheme below is passes before told node at =
    told ∙ accepted_here (first_failing plan inputs node.checks) (attempts_made plan faults v node inputs) k trials b (made_here plan faults v inputs limit k b node at scheme below is) (passes node at) (before node at)
    ∙ judged_replay plan faults v inputs limit node at scheme

pub none_accepted : (plan : PlanData) (faults : List Strike) (v : ℕ) (inputs : List (List ℕ)) (limit : ℕ) (trials : List Trial) (r : NodeResult) → HasScheme plan v (Replay limit) → AreRefusedAt plan faults v inputs limit trials → result_data r ≡ node_result Failed trials None → JudgesAs plan faults v inputs r
none_accepted plan faults v inputs limit trials r scheme before told node at =
    told ∙ all_refused (first_failing plan inputs node.checks) (attempts_made plan faults v node inputs) limit trials (length-attempts_made plan faults v node inputs ∙ ap attempts_of (scheme node at)) (before node at)
    ∙ judged_replay plan faults v inputs limit node at scheme
