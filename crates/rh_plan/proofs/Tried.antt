-- No node has more trials than its scheme allows attempts.
use Rattle.std.proofs.Common.{◌≡◌, ℕ, ◌+◌, ◌≤◌, List, [], ◌∷◌, Option, Some, None, length, map, take, refl, arith, ap, suc, length-append}
use Rattle.std.proofs.lemmas.List.{length-take, length-map, length-replicate}
use Rattle.std.proofs.lemmas.List.Quantifiers.{position-Some}
use Rattle.std.proofs.lemmas.List.FromFn.{length-range_with_len}
use Rattle.std.specs.List.{position, range_with_len, enumerate_from, slice_get}
use Rattle.std.specs.Option.{is_none}
use Rattle.rh_injector.specs.declared.faults.Strike.{Strike}
use Rattle.rh_rules.specs.declared.node.Node.{Node}
use Rattle.rh_rules.specs.declared.node.Kind.{Kind}
use Rattle.rh_rules.specs.declared.node.Kind.TheVariants.{Task, Group, Scope}
use Rattle.rh_rules.specs.declared.node.Scheme.{Scheme}
use Rattle.rh_rules.specs.declared.node.Scheme.TheVariants.{Plain, Replicate, Replay, Abft}
use Rattle.rh_plan.specs.declared.outcome.Trial.TheVariants as trial
use Rattle.rh_plan.specs.Buffers.{BufferData, buffer_data}
use Rattle.rh_plan.specs.declared.outcome.Cause.{Cause}
use Rattle.rh_plan.specs.Plans.{PlanData, shapes_in}
use Rattle.rh_rules.specs.Lawful.{IsLawfulKind, IsLawfulScheme}
use Rattle.rh_plan.specs.Checking.{first_failing}
use Rattle.rh_plan.specs.Correcting.{correction}
use Rattle.rh_plan.specs.Attempts.{attempt_of, attempts_made}
use Rattle.rh_plan.specs.Results.{results, result_of_node, result_by_kind, task_result, group_result, cause_in, inputs_in}
use Rattle.rh_plan.specs.Tried.{FewTrials}
use Rattle.rh_plan.specs.Judging.{attempts_of, tolerated, majority, deciding, replica_trial, replica_accepted, replicated_by, replicated_after, replicated, refused, replayed_after, replayed, corrected_to, checked_once, corrected, judged_by}

length-enumerate : {X : Type 0} (k : ℕ) (xs : List X) → length (enumerate_from k xs) ≡ length xs
length-enumerate k [] = refl
length-enumerate k (x ∷ xs) = ap suc (length-enumerate (k + 1) xs)

replica_few : (made : List BufferData) (j : ℕ) (o : Option BufferData) → length (replica_accepted made j o).trials ≤ length made
replica_few made j None = omega arith
replica_few made j (Some b) = let a = length-map (enumerate_from 0 made) (replica_trial j b) in let c = length-enumerate 0 made in omega arith

by_few : (made : List BufferData) (o : Option ℕ) → length (replicated_by made o).trials ≤ length made
by_few made None = omega arith
by_few made (Some j) = replica_few made j (slice_get made j)

after_few : (m : ℕ) (made : List BufferData) (o : Option ℕ) → length (replicated_after m made o).trials ≤ length made
after_few m made None = let a = length-replicate (length made) trial.Differed in omega arith
after_few m made (Some k) =
    let a = by_few (take (k + 1) made) (majority m (take (k + 1) made)) in
    let b = take_few (k + 1) made in omega arith
  where
    take_few : (n : ℕ) (xs : List BufferData) → length (take n xs) ≤ length xs
    take_few n xs = let a = length-take n xs in omega arith

replayed_few : (failing : BufferData → Option ℕ) (made : List BufferData) (o : Option ℕ) → position (λ b. is_none (failing b)) made ≡ o → length (replayed_after failing made o).trials ≤ length made
replayed_few failing made None at = let a = length-map made (refused failing) in omega arith
replayed_few failing made (Some j) at =
    let (within, passes, first) = position-Some (λ b. is_none (failing b)) made j (buffer_data [] []) at in
    let a = length-append (map (refused failing) (take j made)) (trial.Accepted ∷ []) in
    let b = length-map (take j made) (refused failing) in
    let c = length-take j made in omega arith

to_few : (which : ℕ) (o : Option (ℕ × BufferData)) → length (corrected_to which o).trials ≤ 1
to_few which None = omega arith
to_few which (Some c) = omega arith

once_few : (correction : BufferData → Option (ℕ × BufferData)) (b : BufferData) (o : Option ℕ) → length (checked_once correction b o).trials ≤ 1
once_few correction b None = omega arith
once_few correction b (Some which) = to_few which (correction b)

corrected_few : (failing : BufferData → Option ℕ) (correction : BufferData → Option (ℕ × BufferData)) (made : List BufferData) → length (corrected failing correction made).trials ≤ length made
corrected_few failing correction [] = omega arith
corrected_few failing correction (b ∷ made) = let a = once_few correction b (failing b) in omega arith

-- a task has no more trials than attempts that it may make
judged_few : (failing : BufferData → Option ℕ) (correction : BufferData → Option (ℕ × BufferData)) (made : List BufferData) (s : Scheme) → 1 ≤ length made → length (judged_by failing correction made s).trials ≤ length made
unfolding replicated replayed
judged_few failing correction made Plain some = omega arith
judged_few failing correction made Replicate some = after_few tolerated made (deciding tolerated made)
judged_few failing correction made (Replay limit) some = replayed_few failing made (position (λ b. is_none (failing b)) made) refl
judged_few failing correction made Abft some = corrected_few failing correction made

scheme_few : (node : Node) (s : Scheme) → IsLawfulScheme node s → (1 ≤ attempts_of s) × (attempts_of s ≤ 8)
scheme_few node Plain lawful = (omega arith, omega arith)
scheme_few node Replicate lawful = (omega arith, omega arith)
scheme_few node (Replay limit) lawful = lawful
scheme_few node Abft lawful = (omega arith, omega arith)

task_few : (plan : PlanData) (faults : List Strike) (v : ℕ) (node : Node) (c : Option Cause) → (1 ≤ attempts_of node.scheme) × (attempts_of node.scheme ≤ 8) → length (task_result plan faults (results plan faults v) v node c).trials ≤ 8
task_few plan faults v node None (some, few) =
    let inputs : List (List ℕ) = inputs_in plan (results plan faults v) node.awaits in
    let made : List BufferData = attempts_made plan faults v node inputs in
    let b = length-map (range_with_len 0 (attempts_of node.scheme)) (attempt_of plan faults v node inputs) in
    let c = length-range_with_len 0 (attempts_of node.scheme) in
    let a = judged_few (first_failing plan inputs node.checks) (correction plan node inputs) made node.scheme (omega arith) in
    omega arith
task_few plan faults v node (Some c) few = omega arith

group_few : (c : Option Cause) → length (group_result c).trials ≤ 8
group_few None = omega arith
group_few (Some c) = omega arith

kind_few : (plan : PlanData) (faults : List Strike) (v : ℕ) (node : Node) (k : Kind) → IsLawfulKind (shapes_in plan) plan.promises node k → length (result_by_kind plan faults (results plan faults v) v node k).trials ≤ 8
kind_few plan faults v node Task lawful = task_few plan faults v node (cause_in plan (results plan faults v) node) (scheme_few node node.scheme lawful.scheme)
kind_few plan faults v node Group lawful = group_few (cause_in plan (results plan faults v) node)
kind_few plan faults v node Scope lawful = omega arith

pub few_trials : FewTrials
unfolding result_of_node
few_trials plan lawful faults v node is = kind_few plan faults v node node.kind (lawful.parts.nodes v node is).kind
