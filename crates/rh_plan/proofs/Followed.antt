-- Every accepted buffer follows the body of its task.
use Rattle.std.proofs.Common.{◌≡◌, ℕ, ◌≤◌, ◌==◌, List, [], ◌∷◌, Bool, true, false, cond, Option, Some, None, map, refl, arith, ap, sym, subst, slice_index_or}
use Rattle.std.proofs.lemmas.Option.{none-some}
use Rattle.std.proofs.lemmas.List.{map-append}
use Rattle.std.proofs.lemmas.List.Sums.{sum_by-append}
use Rattle.std.specs.List.{AllByRecursion, range_with_len}
use Rattle.rh_injector.specs.declared.faults.Strike.{Strike}
use Rattle.rh_rules.specs.declared.body.Step.{Step}
use Rattle.rh_rules.specs.declared.body.Step.TheVariants.{Lit, Gen, Add, Sub, Mul, Scale, Shift, Cut, Join, Sum, Count, Stencil1, Stencil2, Product, Put, DropAwait}
use Rattle.rh_plan.specs.declared.made_put.MadePut.{MadePut}
use Rattle.rh_rules.specs.declared.node.Node.{Node}
use Rattle.rh_rules.specs.declared.node.Kind.{Kind}
use Rattle.rh_rules.specs.declared.node.Kind.TheVariants.{Task, Group, Scope}
use Rattle.rh_plan.specs.declared.outcome.Cause.{Cause}
use Rattle.rh_plan.specs.Plans.{PlanData}
use Rattle.rh_rules.specs.Bodies.{put_at, promises_put}
use Rattle.rh_injector.specs.Faults.{faults_in}
use Rattle.rh_plan.specs.Buffers.{BufferData, buffer_of, puts_at, puts_of, is_made, locals_of}
use Rattle.rh_plan.specs.Checking.{first_failing}
use Rattle.rh_plan.specs.Judging.{attempts_of}
use Rattle.rh_plan.specs.Correcting.{correction}
use Rattle.rh_plan.specs.Attempts.{attempt_of, attempts_made}
use Rattle.rh_plan.specs.Results.{results, result_of_node, result_by_kind, task_result, group_result, cause_in, inputs_in}
use Rattle.rh_plan.specs.Followed.{often, FollowsSteps, AcceptedBuffersFollowBodies}
use Rattle.rh_plan.proofs.Replaced.{same_promises}
use Rattle.rh_plan.proofs.Corrected.{correction_replaces}
use Rattle.rh_plan.proofs.Made.{accepted_holds}

made_once : (q p : ℕ) (words : List ℕ) (b : Bool) → often q (map (λ (m : MadePut). m.promise) (cond b ((record { promise = p; words = words }) ∷ []) [])) ≤ often q (p ∷ [])
made_once q p words true = omega arith
made_once q p words false = omega arith

step_puts : (q : ℕ) (locals : List (List ℕ)) (step : Step) → often q (map (λ (m : MadePut). m.promise) (puts_at locals step)) ≤ often q (put_at step)
step_puts q locals (Put promise local when) = made_once q promise (slice_index_or locals local []) (is_made locals when)
step_puts q locals (Lit words) = omega arith
step_puts q locals (Gen n start limit) = omega arith
step_puts q locals (Add a b) = omega arith
step_puts q locals (Sub a b) = omega arith
step_puts q locals (Mul a b) = omega arith
step_puts q locals (Scale a k) = omega arith
step_puts q locals (Shift a s) = omega arith
step_puts q locals (Cut a from len) = omega arith
step_puts q locals (Join parts) = omega arith
step_puts q locals (Sum a) = omega arith
step_puts q locals (Count a) = omega arith
step_puts q locals (Stencil1 l m r k s) = omega arith
step_puts q locals (Stencil2 north south west east m cols k s) = omega arith
step_puts q locals (Product matrix v) = omega arith
step_puts q locals (DropAwait promise) = omega arith

steps_put : (q : ℕ) (locals : List (List ℕ)) (steps : List Step) → often q (map (λ (m : MadePut). m.promise) (puts_of locals steps)) ≤ often q (promises_put steps)
steps_put q locals [] = omega arith
steps_put q locals (step ∷ steps) =
    let here = step_puts q locals step in
    let rest = steps_put q locals steps in
    let split = ap (often q) (map-append (λ (m : MadePut). m.promise) (puts_at locals step) (puts_of locals steps)) in
    let sums = sum_by-append (λ p. cond (p == q) 1 0) (map (λ (m : MadePut). m.promise) (puts_at locals step)) (map (λ (m : MadePut). m.promise) (puts_of locals steps)) in
    let all = sum_by-append (λ p. cond (p == q) 1 0) (put_at step) (promises_put steps) in
    omega arith

buffer_follows : (plan : PlanData) (faults : List Strike) (inputs : List (List ℕ)) (steps : List Step) → FollowsSteps steps (buffer_of plan faults inputs steps)
unfolding buffer_of
buffer_follows plan faults inputs steps = record { drops = refl; puts = λ q. steps_put q (locals_of plan faults inputs steps) steps }

attempts_follow : (plan : PlanData) (faults : List Strike) (v : ℕ) (node : Node) (inputs : List (List ℕ)) (ks : List ℕ) → AllByRecursion (FollowsSteps node.body) (map (attempt_of plan faults v node inputs) ks)
attempts_follow plan faults v node inputs [] = tt
attempts_follow plan faults v node inputs (k ∷ ks) = (buffer_follows plan (faults_in faults v k) inputs node.body, attempts_follow plan faults v node inputs ks)

-- a corrected buffer follows the steps where the one that was made does
correction_follows : (plan : PlanData) (node : Node) (inputs : List (List ℕ)) (x : BufferData) (c : ℕ × BufferData) → FollowsSteps node.body x → correction plan node inputs x ≡ Some c → FollowsSteps node.body c.1
correction_follows plan node inputs x c follows found =
    let replaced = correction_replaces plan node inputs x c found in
    let promises = same_promises replaced.promise replaced.after x.puts in
    subst (FollowsSteps node.body) (sym replaced.is) (record {
      drops = follows.drops;
      puts = λ q. subst (λ (l : List ℕ). often q l ≤ often q (promises_put node.body)) (sym promises) (follows.puts q);
    })

task_follows : (plan : PlanData) (faults : List Strike) (v : ℕ) (node : Node) (b : BufferData) (c : Option Cause) → (task_result plan faults (results plan faults v) v node c).accepted ≡ Some b → FollowsSteps node.body b
task_follows plan faults v node b None is =
    let inputs = inputs_in plan (results plan faults v) node.awaits in
    accepted_holds (FollowsSteps node.body) (first_failing plan inputs node.checks) (correction plan node inputs) (attempts_made plan faults v node inputs) node.scheme b
    (attempts_follow plan faults v node inputs (range_with_len 0 (attempts_of node.scheme))) (λ x c here found. correction_follows plan node inputs x c here found) is
task_follows plan faults v node b (Some c) is = absurd (none-some b is)

group_follows : (node : Node) (b : BufferData) (c : Option Cause) → (group_result c).accepted ≡ Some b → FollowsSteps node.body b
group_follows node b None is = absurd (none-some b is)
group_follows node b (Some c) is = absurd (none-some b is)

kind_follows : (plan : PlanData) (faults : List Strike) (v : ℕ) (node : Node) (b : BufferData) (k : Kind) → (result_by_kind plan faults (results plan faults v) v node k).accepted ≡ Some b → FollowsSteps node.body b
kind_follows plan faults v node b Task is = task_follows plan faults v node b (cause_in plan (results plan faults v) node) is
kind_follows plan faults v node b Group is = group_follows node b (cause_in plan (results plan faults v) node) is
kind_follows plan faults v node b Scope is = absurd (none-some b is)

pub accepted_buffers_follow_bodies : AcceptedBuffersFollowBodies
unfolding result_of_node
accepted_buffers_follow_bodies plan faults v node b is = kind_follows plan faults v node b node.kind is
