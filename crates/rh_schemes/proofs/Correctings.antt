-- A task that is corrected, step by step.
use Rattle.std.proofs.Common.{◌≡◌, ℕ, List, [], ◌∷◌, Bool, true, false, cond, Option, Some, None, map, refl, ap, sym, ◌∙◌, subst}
use Rattle.std.proofs.lemmas.Bool.{cond-true, cond-false}
use Rattle.std.specs.List.{find, range_with_len}
use Rattle.std.specs.Option.{is_none, option_and_then}
use Rattle.rh_sparse.specs.Matrix.{MatrixData}
use Rattle.rh_check.specs.declared.spec.Spec.{Spec}
use Rattle.rh_injector.specs.declared.faults.Strike.{Strike}
use Rattle.rh_rules.specs.declared.checks.PlannedCheck.{PlannedCheck}
use Rattle.rh_rules.specs.declared.node.Scheme.{Scheme}
use Rattle.rh_rules.specs.declared.node.Scheme.TheVariants.{Abft}
use Rattle.rh_rules.specs.Kept.{KeptCheck, planned_check, planned_checks}
use Rattle.rh_rules.specs.Lawful.{promise_lens, is_product}
use Rattle.rh_plan.specs.declared.outcome.Trial.TheVariants as trial
use Rattle.rh_plan.specs.declared.outcome.Verdict.TheVariants.{Corrected, Failed}
use Rattle.rh_plan.specs.Plans.{PlanData, OfNode}
use Rattle.rh_plan.specs.Buffers.{BufferData, PutsFit}
use Rattle.rh_plan.specs.Checking.{first_failing}
use Rattle.rh_plan.specs.Correcting.{restored_put, restored_buffer, if_passing, correction}
use Rattle.rh_plan.specs.Judging.{node_result, attempts_of, checked_once, corrected_to, corrected, judged_by}
use Rattle.rh_plan.specs.Attempts.{attempt_of, attempts_made}
use Rattle.rh_plan.specs.Asked.{IsTaskOn}
use Rattle.rh_plan.proofs.Replaced.{lengths_stay}
use Rattle.rh_plan.proofs.Corrected.{restored_replaces}
use Rattle.rh_attempt.specs.Attempting.{IsAttemptAt}
use Rattle.rh_schemes.specs.declared.result.NodeResult.{NodeResult}
use Rattle.rh_schemes.specs.Judges.{JudgesAs, HasScheme, result_data}
use Rattle.rh_schemes.specs.Checking.{IsFirstFailingAt}
use Rattle.rh_schemes.specs.Correcting.{placed, restored_planned, IsRestoredAt, IsCheckedAgain, CorrectsAs}

picked : {Y : Type 0} (f : ℕ → Spec → Option Y) (b : Bool) (c : KeptCheck) (o : Option PlannedCheck) (p : Option KeptCheck) → option_and_then (λ k. f k.promise k.spec) o ≡ option_and_then (λ k. f k.promise k.spec) p
    → option_and_then (λ k. f k.promise k.spec) (cond b (Some (planned_check c)) o) ≡ option_and_then (λ k. f k.promise k.spec) (cond b (Some c) p)
picked f true c o p same = refl
picked f false c o p same = same

first_product : {Y : Type 0} (f : ℕ → Spec → Option Y) (checks : List KeptCheck) → option_and_then (λ k. f k.promise k.spec) (find (λ k. is_product k.spec) (planned_checks checks)) ≡ option_and_then (λ k. f k.promise k.spec) (find (λ k. is_product k.spec) checks)
first_product f [] = refl
first_product f (c ∷ checks) = picked f (is_product c.spec) c (find (λ k. is_product k.spec) (planned_checks checks)) (find (λ k. is_product k.spec) checks) (first_product f checks)

-- the planned checks restore what the kept ones do
pub restored_planned-is : (matrices : List MatrixData) (checks : List KeptCheck) (inputs : List (List ℕ)) (buffer : BufferData) → restored_planned matrices (planned_checks checks) inputs buffer ≡ restored_buffer matrices checks inputs buffer
restored_planned-is matrices checks inputs buffer = first_product (restored_put matrices inputs buffer) checks

-- with one word restored a buffer fits as before
pub restored_fits : (plan : PlanData) (v : ℕ) (inputs : List (List ℕ)) (b fixed : BufferData) (o : Option ℕ) (word : ℕ) → IsTaskOn plan v inputs → PutsFit plan b.puts → IsRestoredAt plan v inputs b (placed o fixed) → o ≡ Some word → PutsFit plan fixed.puts
restored_fits plan v inputs b fixed o word task fit restored is =
    let found : restored_buffer plan.matrices task.node.checks inputs b ≡ Some (word, fixed) = sym (restored task.node task.there) ∙ ap (λ (p : Option ℕ). placed p fixed) is in
    let replaced = restored_replaces plan.matrices task.node.checks inputs b (word, fixed) found in
    subst (λ (x : BufferData). PutsFit plan x.puts) (sym replaced.is) (lengths_stay (promise_lens plan.promises) replaced.promise replaced.before replaced.after b.puts replaced.put replaced.long fit)

-- where no word is restored, the task fails
pub none_corrected : (plan : PlanData) (v : ℕ) (inputs : List (List ℕ)) (which : ℕ) (b fixed : BufferData) (o : Option ℕ) (r : NodeResult) → IsRestoredAt plan v inputs b (placed o fixed) → o ≡ None → result_data r ≡ node_result Failed (trial.Refused which ∷ []) None → CorrectsAs plan v inputs which b r
none_corrected plan v inputs which b fixed o r restored is told node at =
    told ∙ ap (λ (p : Option (ℕ × BufferData)). corrected_to which (option_and_then (if_passing (first_failing plan inputs node.checks)) p)) (sym (ap (λ (p : Option ℕ). placed p fixed) is) ∙ restored node at)

-- where one is, the buffer with it is checked again
pub some_corrected : (plan : PlanData) (v : ℕ) (inputs : List (List ℕ)) (which word : ℕ) (b fixed : BufferData) (o : Option ℕ) (r : NodeResult) → IsRestoredAt plan v inputs b (placed o fixed) → o ≡ Some word → IsCheckedAgain plan v inputs which word fixed r → CorrectsAs plan v inputs which b r
some_corrected plan v inputs which word b fixed o r restored is told node at =
    told node at ∙ ap (λ (p : Option (ℕ × BufferData)). corrected_to which (option_and_then (if_passing (first_failing plan inputs node.checks)) p)) (sym (ap (λ (p : Option ℕ). placed p fixed) is) ∙ restored node at)

pub passing_again : (plan : PlanData) (v : ℕ) (inputs : List (List ℕ)) (which word : ℕ) (fixed : BufferData) (o : Option ℕ) (r : NodeResult) → IsFirstFailingAt plan v inputs fixed o → o ≡ None → result_data r ≡ node_result (Corrected word) (trial.Corrected word ∷ []) (Some fixed) → IsCheckedAgain plan v inputs which word fixed r
passing_again plan v inputs which word fixed o r passes is told node at =
    let failing = first_failing plan inputs node.checks in
    told ∙ ap (corrected_to which) (sym (cond-true (is_none (failing fixed)) (Some (word, fixed)) None (ap is_none (sym (passes node at) ∙ is))))

pub failing_again : (plan : PlanData) (v : ℕ) (inputs : List (List ℕ)) (which word other : ℕ) (fixed : BufferData) (o : Option ℕ) (r : NodeResult) → IsFirstFailingAt plan v inputs fixed o → o ≡ Some other → result_data r ≡ node_result Failed (trial.Refused which ∷ []) None → IsCheckedAgain plan v inputs which word fixed r
failing_again plan v inputs which word other fixed o r fails is told node at =
    let failing = first_failing plan inputs node.checks in
    told ∙ ap (corrected_to which) (sym (cond-false (is_none (failing fixed)) (Some (word, fixed)) None (ap is_none (sym (fails node at) ∙ is))))

-- a task with correction is judged by its one attempt, and by the first check that its buffer fails
pub once_judges : (plan : PlanData) (faults : List Strike) (v : ℕ) (inputs : List (List ℕ)) (b : BufferData) (which : Option ℕ) (r : NodeResult) → HasScheme plan v Abft → IsAttemptAt plan faults v inputs 0 b → IsFirstFailingAt plan v inputs b which → OfNode plan v (λ node. result_data r ≡ checked_once (correction plan node inputs) b which) → JudgesAs plan faults v inputs r
once_judges plan faults v inputs b which r scheme first fails told node at =
    let failing = first_failing plan inputs node.checks in
    let correct = correction plan node inputs in
    let one : attempts_made plan faults v node inputs ≡ attempt_of plan faults v node inputs 0 ∷ [] = ap (λ (s : Scheme). map (attempt_of plan faults v node inputs) (range_with_len 0 (attempts_of s))) (scheme node at) in
    told node at ∙ ap (checked_once correct b) (fails node at) ∙ ap (λ (x : BufferData). corrected failing correct (x ∷ [])) (first node at)
    ∙ ap (corrected failing correct) (sym one) ∙ sym (ap (judged_by failing correct (attempts_made plan faults v node inputs)) (scheme node at))
