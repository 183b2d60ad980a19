-- A task that is judged within its budget ends as without faults.
use Rattle.std.proofs.Common.{◌≡◌, ℕ, ◌+◌, ◌*◌, ◌<◌, ◌≤◌, List, [], ◌∷◌, Bool, true, false, Option, Some, None, length, map, refl, arith, ap, sym, ◌∙◌, subst, inl, inr, ◌⊎◌}
use Rattle.std.proofs.lemmas.Option.{same_Some}
use Rattle.std.proofs.lemmas.Bool.{false≢true}
use Rattle.std.specs.List.{filter, slice_get, position, range_with_len}
use Rattle.std.specs.Option.{is_none, is_some}
use Rattle.std.specs.Prelude.{take}
use Rattle.rh_injector.specs.declared.faults.Strike.{Strike}
use Rattle.rh_rules.specs.declared.node.Node.{Node}
use Rattle.rh_rules.specs.declared.node.Scheme.{Scheme}
use Rattle.rh_rules.specs.declared.node.Scheme.TheVariants.{Plain, Replicate, Replay, Abft}
use Rattle.rh_plan.specs.declared.outcome.Verdict.{Verdict}
use Rattle.rh_plan.specs.declared.outcome.Verdict.TheVariants.{Accepted, Corrected, Failed, Skipped, Opened, Closed, Ended}
use Rattle.rh_plan.specs.Plans.{PlanData}
use Rattle.rh_injector.specs.Faults.{names_task, names_attempt}
use Rattle.rh_plan.specs.Buffers.{BufferData, buffer_of}
use Rattle.rh_plan.specs.Checking.{first_failing}
use Rattle.rh_plan.specs.Judging.{attempts_of, tolerated, majority, deciding, replica_accepted, replicated_by, replicated_after, replicated, replayed_after, replayed, corrected_to, checked_once, corrected, judged_by}
use Rattle.rh_plan.specs.Correcting.{correction}
use Rattle.rh_plan.specs.Attempts.{attempt_of, attempts_made, judged}
use Rattle.rh_plan.specs.Results.{is_skipped}
use Rattle.rh_plan.specs.Budgets.{fault_free_inputs, fault_free_buffer, attempts_named, ToleratesFaults, ReplaysWithin, CorrectsWithin}
use Rattle.rh_plan.proofs.Attempts.{length-attempts_made, attempt_at, unnamed_attempt, attempts_unnamed, differing_few}
use Rattle.rh_plan.proofs.Accepting.{Accepts, replicated_accepts, replayed_accepts, corrected_accepts}
use Rattle.rh_plan.proofs.Corrected.{corrected_back}
use Rattle.rh_plan.proofs.Alike.{AreAlike, alike_same, accepted_alike}

-- the task was accepted, corrected or failed
abbrev is_judgement : Verdict → Bool
is_judgement (Accepted k) = true
is_judgement (Corrected i) = true
is_judgement Failed = true
is_judgement (Skipped c) = false
is_judgement Opened = false
is_judgement (Closed c) = false
is_judgement (Ended a f s) = false

accepted_is_judgement : (made : List BufferData) (j : ℕ) (o : Option BufferData) → is_judgement (replica_accepted made j o).verdict ≡ true
accepted_is_judgement made j None = refl
accepted_is_judgement made j (Some b) = refl

by_is_judgement : (made : List BufferData) (o : Option ℕ) → is_judgement (replicated_by made o).verdict ≡ true
by_is_judgement made None = refl
by_is_judgement made (Some j) = accepted_is_judgement made j (slice_get made j)

after_is_judgement : (m : ℕ) (made : List BufferData) (o : Option ℕ) → is_judgement (replicated_after m made o).verdict ≡ true
after_is_judgement m made None = refl
after_is_judgement m made (Some k) = by_is_judgement (take (k + 1) made) (majority m (take (k + 1) made))

replayed_is_judgement : (failing : BufferData → Option ℕ) (made : List BufferData) (o : Option ℕ) → is_judgement (replayed_after failing made o).verdict ≡ true
replayed_is_judgement failing made None = refl
replayed_is_judgement failing made (Some j) = refl

corrected_is_judgement : (which : ℕ) (o : Option (ℕ × BufferData)) → is_judgement (corrected_to which o).verdict ≡ true
corrected_is_judgement which None = refl
corrected_is_judgement which (Some c) = refl

once_is_judgement : (correction : BufferData → Option (ℕ × BufferData)) (b : BufferData) (o : Option ℕ) → is_judgement (checked_once correction b o).verdict ≡ true
once_is_judgement correction b None = refl
once_is_judgement correction b (Some which) = corrected_is_judgement which (correction b)

tried_is_judgement : (failing : BufferData → Option ℕ) (correction : BufferData → Option (ℕ × BufferData)) (made : List BufferData) → is_judgement (corrected failing correction made).verdict ≡ true
tried_is_judgement failing correction [] = refl
tried_is_judgement failing correction (b ∷ made) = once_is_judgement correction b (failing b)

-- each scheme accepts, corrects or fails
pub judged_is_judgement : (failing : BufferData → Option ℕ) (correction : BufferData → Option (ℕ × BufferData)) (made : List BufferData) (s : Scheme) → is_judgement (judged_by failing correction made s).verdict ≡ true
unfolding replicated replayed
judged_is_judgement failing correction made Plain = refl
judged_is_judgement failing correction made Replicate = after_is_judgement tolerated made (deciding tolerated made)
judged_is_judgement failing correction made (Replay limit) = replayed_is_judgement failing made (position (λ b. is_none (failing b)) made)
judged_is_judgement failing correction made Abft = tried_is_judgement failing correction made

judgement_not_skipped : (v : Verdict) → is_judgement v ≡ true → is_skipped v ≡ false
judgement_not_skipped (Accepted k) is = refl
judgement_not_skipped (Corrected i) is = refl
judgement_not_skipped Failed is = refl
judgement_not_skipped (Skipped c) is = sym is
judgement_not_skipped Opened is = refl
judgement_not_skipped (Closed c) is = refl
judgement_not_skipped (Ended a f s) is = refl

-- no scheme skips
pub judged_not_skipped : (failing : BufferData → Option ℕ) (correction : BufferData → Option (ℕ × BufferData)) (made : List BufferData) (s : Scheme) → is_skipped (judged_by failing correction made s).verdict ≡ false
judged_not_skipped failing correction made s = judgement_not_skipped (judged_by failing correction made s).verdict (judged_is_judgement failing correction made s)

-- no scheme ends as a scope does
pub judged_not_ended : (failing : BufferData → Option ℕ) (correction : BufferData → Option (ℕ × BufferData)) (made : List BufferData) (s : Scheme) (a f n : ℕ) → (judged_by failing correction made s).verdict ≡ Ended a f n → ⊥
judged_not_ended failing correction made s a f n is = false≢true (sym (ap is_judgement is) ∙ judged_is_judgement failing correction made s)

none_named : (v : ℕ) (ks : List ℕ) → length (filter (names_attempt [] v) ks) ≡ 0
none_named v [] = refl
none_named v (k ∷ ks) = none_named v ks

-- a replicated task whose faults name few of its attempts accepts the fault-free buffer
replicate_accepts : (plan : PlanData) (faults : List Strike) (v : ℕ) (node : Node) (inputs : List (List ℕ)) → node.scheme ≡ Replicate → attempts_named faults v (2 * tolerated + 1) ≤ tolerated → Accepts (replicated tolerated (attempts_made plan faults v node inputs)) (buffer_of plan [] inputs node.body)
replicate_accepts plan faults v node inputs scheme few =
    let count : attempts_of node.scheme ≡ 2 * tolerated + 1 = ap attempts_of scheme in
    let differing = differing_few plan faults v node inputs in
    let named : attempts_named faults v (attempts_of node.scheme) ≡ attempts_named faults v (2 * tolerated + 1) = ap (attempts_named faults v) count in
    replicated_accepts tolerated (attempts_made plan faults v node inputs) (buffer_of plan [] inputs node.body) (length-attempts_made plan faults v node inputs ∙ count) (omega arith)

-- a replayed task within its budget accepts the fault-free buffer
replay_accepts : (plan : PlanData) (faults : List Strike) (v limit : ℕ) (node : Node) → node.scheme ≡ Replay limit → ReplaysWithin plan faults v node limit → Accepts (replayed (first_failing plan (fault_free_inputs plan v node) node.checks) (attempts_made plan faults v node (fault_free_inputs plan v node))) (fault_free_buffer plan v node)
replay_accepts plan faults v limit node scheme within =
    let inputs = fault_free_inputs plan v node in
    let clean = fault_free_buffer plan v node in
    let count : attempts_of node.scheme ≡ limit = ap attempts_of scheme in
    let below : within.first < attempts_of node.scheme = subst (λ (n : ℕ). within.first < n) (sym count) within.below in
    let at = attempt_at plan faults v node inputs within.first below ∙ ap Some (unnamed_attempt plan faults v node inputs within.first within.unnamed) in
    replayed_accepts (first_failing plan inputs node.checks) (attempts_made plan faults v node inputs) clean within.first within.passes at
    (λ k x before is other.
    let made = attempt_at plan faults v node inputs k (omega arith) in
    let same : attempt_of plan faults v node inputs k ≡ x = same_Some (attempt_of plan faults v node inputs k) x (sym made ∙ is) in
    let refused = within.refused k before (λ e. other (sym same ∙ e)) in
    subst (λ (b : BufferData). is_some (first_failing plan inputs node.checks b) ≡ true) same refused)

replay_accepts-fault_free : (plan : PlanData) (v limit : ℕ) (node : Node) → node.scheme ≡ Replay limit → 0 < limit → first_failing plan (fault_free_inputs plan v node) node.checks (fault_free_buffer plan v node) ≡ None → Accepts (replayed (first_failing plan (fault_free_inputs plan v node) node.checks) (attempts_made plan [] v node (fault_free_inputs plan v node))) (fault_free_buffer plan v node)
replay_accepts-fault_free plan v limit node scheme some passes =
    let inputs = fault_free_inputs plan v node in
    let below : 0 < attempts_of node.scheme = subst (λ (n : ℕ). 0 < n) (sym (ap attempts_of scheme)) some in
    replayed_accepts (first_failing plan inputs node.checks) (attempts_made plan [] v node inputs) (fault_free_buffer plan v node) 0 passes (attempt_at plan [] v node inputs 0 below)
    (λ k x before is other. absurd (omega arith))

-- a task with correction makes one attempt
made_once : (plan : PlanData) (faults : List Strike) (v : ℕ) (node : Node) (inputs : List (List ℕ)) → node.scheme ≡ Abft → attempts_made plan faults v node inputs ≡ attempt_of plan faults v node inputs 0 ∷ []
made_once plan faults v node inputs scheme = ap (λ (s : Scheme). map (attempt_of plan faults v node inputs) (range_with_len 0 (attempts_of s))) scheme

-- a task with correction that is within its budget accepts the fault-free buffer
correction_accepts : (plan : PlanData) (faults : List Strike) (v : ℕ) (node : Node) → node.scheme ≡ Abft → CorrectsWithin plan faults v node → Accepts (corrected (first_failing plan (fault_free_inputs plan v node) node.checks) (correction plan node (fault_free_inputs plan v node)) (attempts_made plan faults v node (fault_free_inputs plan v node))) (fault_free_buffer plan v node)
correction_accepts plan faults v node scheme within =
    let inputs = fault_free_inputs plan v node in
    let clean = fault_free_buffer plan v node in
    let made = attempt_of plan faults v node inputs 0 in
    let failing = first_failing plan inputs node.checks in
    let near : (made ≡ clean) ⊎ ((is_some (failing made) ≡ true) × ((i : ℕ) × (correction plan node inputs made ≡ Some (i, clean)))) = elim within.near [
      | inl same ↦ inl same
      | inr differs ↦ inr (corrected_back plan node inputs clean made within.check within.words within.passes within.checked within.put differs)
    ] in
    subst (λ (l : List BufferData). Accepts (corrected failing (correction plan node inputs) l) clean) (sym (made_once plan faults v node inputs scheme))
    (corrected_accepts failing (correction plan node inputs) made clean within.passes near)

-- what a scheme tolerates changes neither the ending nor the values
tolerated_alike : (plan : PlanData) (faults : List Strike) (v : ℕ) (node : Node) (s : Scheme) → node.scheme ≡ s → ToleratesFaults plan faults v node s
    → AreAlike (judged_by (first_failing plan (fault_free_inputs plan v node) node.checks) (correction plan node (fault_free_inputs plan v node)) (attempts_made plan faults v node (fault_free_inputs plan v node)) s)
    (judged_by (first_failing plan (fault_free_inputs plan v node) node.checks) (correction plan node (fault_free_inputs plan v node)) (attempts_made plan [] v node (fault_free_inputs plan v node)) s)
tolerated_alike plan faults v node Plain is tolerates = absurd tolerates
tolerated_alike plan faults v node Abft is tolerates =
    let inputs = fault_free_inputs plan v node in
    let scheme = corrected (first_failing plan inputs node.checks) (correction plan node inputs) in
    accepted_alike (scheme (attempts_made plan faults v node inputs)) (scheme (attempts_made plan [] v node inputs)) (fault_free_buffer plan v node)
    (correction_accepts plan faults v node is tolerates)
    (correction_accepts plan [] v node is (record { passes = tolerates.passes; check = tolerates.check; checked = tolerates.checked; words = tolerates.words; put = tolerates.put; near = inl refl }))
tolerated_alike plan faults v node Replicate is tolerates =
    let inputs = fault_free_inputs plan v node in
    let none = none_named v (range_with_len 0 (2 * tolerated + 1)) in
    accepted_alike (replicated tolerated (attempts_made plan faults v node inputs)) (replicated tolerated (attempts_made plan [] v node inputs)) (fault_free_buffer plan v node)
    (replicate_accepts plan faults v node inputs is tolerates)
    (replicate_accepts plan [] v node inputs is (omega arith))
tolerated_alike plan faults v node (Replay limit) is tolerates =
    let inputs = fault_free_inputs plan v node in
    let failing = first_failing plan inputs node.checks in
    accepted_alike (replayed failing (attempts_made plan faults v node inputs)) (replayed failing (attempts_made plan [] v node inputs)) (fault_free_buffer plan v node)
    (replay_accepts plan faults v limit node is tolerates)
    (let below : tolerates.first < limit = tolerates.below in replay_accepts-fault_free plan v limit node is (omega arith) tolerates.passes)

pub judged_alike : (plan : PlanData) (faults : List Strike) (v : ℕ) (node : Node) → (names_task faults v ≡ false) ⊎ ToleratesFaults plan faults v node node.scheme → AreAlike (judged plan faults v node (fault_free_inputs plan v node)) (judged plan [] v node (fault_free_inputs plan v node))
judged_alike plan faults v node (inl none) =
    let inputs = fault_free_inputs plan v node in
    let same = attempts_unnamed plan faults v node inputs (range_with_len 0 (attempts_of node.scheme)) none in
    alike_same (judged plan faults v node inputs) (judged plan [] v node inputs) (ap (λ (made : List BufferData). judged_by (first_failing plan inputs node.checks) (correction plan node inputs) made node.scheme) same)
judged_alike plan faults v node (inr tolerates) = tolerated_alike plan faults v node node.scheme refl tolerates
