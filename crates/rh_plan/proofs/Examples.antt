-- Small plans worked out: the results of the definitions, computed.
use Rattle.std.proofs.Common.{◌≡◌, ℕ, zero, suc, ◌<◌, List, [], ◌∷◌, Option, Some, None, false, true, map, slice_index, unwrap_or, nat_eq, refl, arith, sym, subst, ap, inl, inr}
use Rattle.std.specs.Prelude.{codes}
use Rattle.std.proofs.lemmas.Bool.{false≢true}
use Rattle.std.proofs.lemmas.Option.{same_Some}
use Rattle.rh_plan.specs.Budgets.{IsWithinBudget, KeepsBudget, ReplaysWithin, attempts_named, fault_free_inputs, fault_free_buffer}
use Rattle.rh_injector.specs.Faults.{names_attempt}
use Rattle.rh_plan.specs.Attempts.{attempt_of}
use Rattle.rh_injector.specs.declared.faults.Strike.{Strike}
use Rattle.rh_task_text.specs.declared.statement.Item.{Item}
use Rattle.rh_task_text.specs.declared.statement.Statement.{Statement}
use Rattle.rh_task_text.specs.declared.statement.Statement.TheVariants as text
use Rattle.rh_task_text.specs.declared.statement.SchemeText.TheVariants as schemes
use Rattle.rh_task_text.specs.Program.{ProgramText, version_text}
use Rattle.rh_check.specs.Users.{none_handed}
use Rattle.rh_rules.specs.Facets.{facets}
use Rattle.rh_plan.specs.Planned.{IsPlanOf}
use Rattle.rh_rules.specs.declared.body.Step.{Step}
use Rattle.rh_rules.specs.declared.body.Step.TheVariants.{Lit, Add, Sum, Product as ProductStep, Put, DropAwait}
use Rattle.rh_rules.specs.declared.node.Node.{Node}
use Rattle.rh_rules.specs.declared.node.Kind.TheVariants.{Task, Group, Scope}
use Rattle.rh_rules.specs.declared.node.Scheme.{Scheme}
use Rattle.rh_rules.specs.declared.node.Scheme.TheVariants.{Plain, Replicate, Replay, Abft}
use Rattle.rh_rules.specs.declared.node.PlannedPromise.{PlannedPromise}
use Rattle.rh_check.specs.declared.spec.Spec.{Spec}
use Rattle.rh_check.specs.declared.spec.Spec.TheVariants.{Range, Total, Linear, Product}
use Rattle.rh_plan.specs.declared.outcome.Cause.TheVariants as cause
use Rattle.rh_plan.specs.declared.outcome.Trial.{Trial}
use Rattle.rh_plan.specs.declared.outcome.Trial.TheVariants as trial
use Rattle.rh_plan.specs.declared.outcome.Verdict.{Verdict}
use Rattle.rh_plan.specs.declared.outcome.Verdict.TheVariants.{Accepted, Corrected, Failed, Skipped, Opened, Closed, Ended}
use Rattle.rh_rules.specs.Kept.{KeptCheck}
use Rattle.rh_sparse.specs.declared.matrix.Cell.{Cell}
use Rattle.rh_sparse.specs.Matrix.{MatrixData}
use Rattle.rh_sparse.specs.Product.{row_product}
use Rattle.rh_sparse.specs.Checksums.{entry, plain_difference, weighted_difference}
use Rattle.rh_sparse.specs.Correction.{restored}
use Rattle.rh_plan.specs.Plans.{PlanData, edges_from}
use Rattle.rh_plan.specs.Derived.{levels, levels_by, edges_in, references}
use Rattle.rh_plan.specs.Buffers.{BufferData, buffer_of, words_put}
use Rattle.rh_check.specs.Checks.{spec_passes}
use Rattle.rh_plan.specs.Checking.{first_failing}
use Rattle.rh_plan.specs.Judging.{are_same, replicated, replayed}
use Rattle.rh_plan.specs.Results.{results, all_results, result_of_node, value_in}

abbrev plan_of : List PlannedPromise → List Node → PlanData
plan_of promises nodes = record { nodes = nodes; promises = promises; edges = edges_from promises 0 nodes; matrices = [] }

abbrev promise : ℕ → Option ℕ → PlannedPromise
promise len putter = record { name = []; len = len; putter = putter; temp = false; scope = false }

abbrev own_promise : ℕ → PlannedPromise
own_promise v = record { name = []; len = 3; putter = Some v; temp = false; scope = true }

abbrev task : Scheme → Option ℕ → List ℕ → List ℕ → List Step → List KeptCheck → Node
task scheme group awaits puts body checks = record { name = []; kind = Task; scheme = scheme; group = group; awaits = awaits; members = []; puts = puts; body = body; checks = checks; lets = [] }

abbrev group_node : Option ℕ → List ℕ → Node
group_node group awaits = record { name = []; kind = Group; scheme = Plain; group = group; awaits = awaits; members = []; puts = []; body = []; checks = []; lets = [] }

abbrev scope_node : List ℕ → ℕ → Node
scope_node members q = record { name = []; kind = Scope; scheme = Plain; group = None; awaits = []; members = members; puts = q ∷ []; body = []; checks = []; lets = [] }

abbrev fault : ℕ → ℕ → ℕ → ℕ → ℕ → Strike
fault node attempt local word mask = record { node = node; attempt = attempt; local = local; word = word; mask = mask }

abbrev verdicts : PlanData → List Strike → List Verdict
verdicts plan faults = map (λ r. r.verdict) (all_results plan faults)

abbrev trials : PlanData → List Strike → List (List Trial)
trials plan faults = map (λ r. r.trials) (all_results plan faults)

-- one replicated task that puts 5 6
abbrev replicated_plan : PlanData
replicated_plan = plan_of (promise 2 (Some 0) ∷ []) (task Replicate None [] (0 ∷ []) (Lit (5 ∷ 6 ∷ []) ∷ Put 0 0 None ∷ []) [] ∷ [])

without_faults : verdicts replicated_plan [] ≡ Accepted 0 ∷ []
unfolding results result_of_node replicated are_same buffer_of
without_faults = refl

-- the second attempt is faulted, so a third is made, which agrees with the first
abbrev in_second : List Strike
in_second = fault 0 1 0 0 4 ∷ []

second_trials : trials replicated_plan in_second ≡ (trial.Accepted ∷ trial.Differed ∷ trial.Agreed ∷ []) ∷ []
unfolding results result_of_node replicated are_same buffer_of
second_trials = refl

second_value : value_in replicated_plan (all_results replicated_plan in_second) 0 ≡ Some (5 ∷ 6 ∷ [])
unfolding results result_of_node replicated are_same buffer_of
second_value = refl

-- equal faults in two attempts: what is accepted is wrong, and the budgets say nothing of it
abbrev in_both : List Strike
in_both = fault 0 0 0 0 4 ∷ fault 0 1 0 0 4 ∷ []

both_trials : trials replicated_plan in_both ≡ (trial.Accepted ∷ trial.Agreed ∷ []) ∷ []
unfolding results result_of_node replicated are_same buffer_of
both_trials = refl

both_value : value_in replicated_plan (all_results replicated_plan in_both) 0 ≡ Some (1 ∷ 6 ∷ [])
unfolding results result_of_node replicated are_same buffer_of
both_value = refl

-- a faulted `when` local: the first attempt puts nothing, so the second is accepted
abbrev when_plan : PlanData
when_plan = plan_of (promise 1 (Some 0) ∷ []) (task Replicate None [] (0 ∷ []) (Lit (1 ∷ []) ∷ Lit (7 ∷ []) ∷ Put 0 1 (Some 0) ∷ []) [] ∷ [])

when_trials : trials when_plan (fault 0 0 0 0 1 ∷ []) ≡ (trial.Differed ∷ trial.Accepted ∷ trial.Agreed ∷ []) ∷ []
unfolding results result_of_node replicated are_same buffer_of
when_trials = refl

-- three attempts that all differ: the task fails, and the tasks that need it are skipped
abbrev chain_plan : PlanData
chain_plan = plan_of (promise 2 (Some 0) ∷ promise 2 (Some 1) ∷ promise 2 (Some 2) ∷ [])
    (task Replicate None [] (0 ∷ []) (Lit (5 ∷ 6 ∷ []) ∷ Put 0 0 None ∷ []) []
    ∷ task Plain None (0 ∷ []) (1 ∷ []) (Put 1 0 None ∷ []) []
    ∷ task Plain None (1 ∷ 0 ∷ []) (2 ∷ []) (Put 2 0 None ∷ []) [] ∷ [])

chain_verdicts : verdicts chain_plan (fault 0 0 0 0 1 ∷ fault 0 1 0 0 2 ∷ []) ≡ Failed ∷ Skipped (cause.Promise 0) ∷ Skipped (cause.Promise 1) ∷ []
unfolding results result_of_node replicated are_same buffer_of
chain_verdicts = refl

chain_trials : trials chain_plan (fault 0 0 0 0 1 ∷ fault 0 1 0 0 2 ∷ []) ≡ (trial.Differed ∷ trial.Differed ∷ trial.Differed ∷ []) ∷ [] ∷ [] ∷ []
unfolding results result_of_node replicated are_same buffer_of
chain_trials = refl

-- a replayed task whose check refuses the first two attempts
abbrev replayed_plan : PlanData
replayed_plan = plan_of (promise 2 (Some 0) ∷ []) (task (Replay 3) None [] (0 ∷ []) (Lit (10 ∷ 20 ∷ []) ∷ Put 0 0 None ∷ []) ((record { promise = 0; spec = Total 30; user = None }) ∷ []) ∷ [])

replayed_trials : trials replayed_plan (fault 0 0 0 0 1 ∷ fault 0 1 0 1 8 ∷ []) ≡ (trial.Refused 0 ∷ trial.Refused 0 ∷ trial.Accepted ∷ []) ∷ []
unfolding results result_of_node replayed first_failing spec_passes buffer_of
replayed_trials = refl

replayed_value : value_in replayed_plan (all_results replayed_plan (fault 0 0 0 0 1 ∷ fault 0 1 0 1 8 ∷ [])) 0 ≡ Some (10 ∷ 20 ∷ [])
unfolding results result_of_node replayed first_failing spec_passes buffer_of
replayed_value = refl

replayed_out : verdicts replayed_plan (fault 0 0 0 0 1 ∷ fault 0 1 0 1 8 ∷ fault 0 2 0 0 2 ∷ []) ≡ Failed ∷ []
unfolding results result_of_node replayed first_failing spec_passes buffer_of
replayed_out = refl

-- A finish scope with an accepted, a failed and a skipped task, a task that awaits it, and a group that stays closed.
-- The promises are x, y, z, g and the scope's own. The nodes are a, b, c, f, d, h and e.
abbrev scope_plan : PlanData
scope_plan = plan_of (promise 1 (Some 1) ∷ promise 1 (Some 2) ∷ promise 3 (Some 4) ∷ promise 1 (Some 6) ∷ own_promise 3 ∷ [])
    (task Plain None [] [] [] []
    ∷ task (Replay 1) None [] (0 ∷ []) (Lit (3 ∷ []) ∷ Put 0 0 None ∷ []) ((record { promise = 0; spec = Range 4 9; user = None }) ∷ [])
    ∷ task Plain None (0 ∷ []) (1 ∷ []) (Put 1 0 None ∷ []) []
    ∷ scope_node (0 ∷ 1 ∷ 2 ∷ []) 4
    ∷ task Plain None (4 ∷ []) (2 ∷ []) (Put 2 0 None ∷ []) []
    ∷ group_node None (0 ∷ [])
    ∷ task Plain (Some 5) [] (3 ∷ []) (Lit (1 ∷ []) ∷ Put 3 0 None ∷ []) [] ∷ [])

scope_verdicts : verdicts scope_plan [] ≡ Accepted 0 ∷ Failed ∷ Skipped (cause.Promise 0) ∷ Ended 1 1 1 ∷ Accepted 0 ∷ Closed (cause.Promise 0) ∷ Skipped (cause.Group 5) ∷ []
unfolding results result_of_node replayed first_failing spec_passes buffer_of
scope_verdicts = refl

scope_value : value_in scope_plan (all_results scope_plan []) 2 ≡ Some (1 ∷ 1 ∷ 1 ∷ [])
unfolding results result_of_node replayed first_failing spec_passes buffer_of
scope_value = refl

-- Equal faults in two attempts: the task is not within its budget, so the theorem says nothing of it.
both_beyond : IsWithinBudget replicated_plan in_both 0 → ⊥
unfolding results result_of_node replicated are_same buffer_of
both_beyond within = elim (within (task Replicate None [] (0 ∷ []) (Lit (5 ∷ 6 ∷ []) ∷ Put 0 0 None ∷ []) []) refl) [
  | inl skipped ↦ false≢true skipped
  | inr (inl none) ↦ false≢true (sym none)
  | inr (inr few) ↦ let two : attempts_named in_both 0 3 ≡ 2 = refl in absurd (omega arith)
]

-- one faulted attempt of three is within
second_within : IsWithinBudget replicated_plan in_second 0
second_within node is =
    let the_task = task Replicate None [] (0 ∷ []) (Lit (5 ∷ 6 ∷ []) ∷ Put 0 0 None ∷ []) [] in
    let few : attempts_named in_second 0 3 ≡ 1 = refl in
    let keeps : KeepsBudget replicated_plan in_second 0 the_task Task = inr (inr (omega arith)) in
    subst (λ (n : Node). KeepsBudget replicated_plan in_second 0 n n.kind) (same_Some the_task node is) keeps

-- Groups in a closed group, a scope in a scope, a group in a scope, and a fault on a copy of an awaited word: the check reads the word itself.
-- The promises are x, y, z, w and those of the scopes f and e. The nodes are a, g, h, t, k, u, v, e, f and q.
abbrev linear_check : KeptCheck
linear_check = record { promise = 3; spec = Linear 0 ((record { input = 0; factor = 2 }) ∷ []) 1; user = None }

abbrev nested_plan : PlanData
nested_plan = plan_of (promise 1 (Some 0) ∷ promise 1 (Some 0) ∷ promise 1 (Some 3) ∷ promise 1 (Some 5) ∷ own_promise 8 ∷ own_promise 7 ∷ [])
    (task Plain None [] (0 ∷ 1 ∷ []) (Lit (0 ∷ []) ∷ Lit (7 ∷ []) ∷ Put 0 0 (Some 0) ∷ Put 1 1 None ∷ []) []
    ∷ group_node None (0 ∷ [])
    ∷ group_node (Some 1) []
    ∷ task Replicate (Some 2) (1 ∷ []) (2 ∷ []) (Put 2 0 None ∷ []) []
    ∷ group_node None (1 ∷ [])
    ∷ task (Replay 2) (Some 4) (1 ∷ []) (3 ∷ []) (Add 0 0 ∷ Put 3 1 None ∷ DropAwait 1 ∷ []) (linear_check ∷ [])
    ∷ task Plain None (1 ∷ []) [] [] []
    ∷ scope_node (6 ∷ []) 5
    ∷ scope_node (4 ∷ 5 ∷ 6 ∷ 7 ∷ []) 4
    ∷ task Plain None (4 ∷ 1 ∷ []) [] (DropAwait 1 ∷ []) [] ∷ [])

abbrev on_the_copy : List Strike
on_the_copy = fault 5 0 0 0 1 ∷ []

nested_verdicts : verdicts nested_plan on_the_copy ≡ Accepted 0 ∷ Closed (cause.Promise 0) ∷ Closed (cause.Group 1) ∷ Skipped (cause.Group 2) ∷ Opened ∷ Accepted 1 ∷ Accepted 0 ∷ Ended 1 0 0 ∷ Ended 2 0 0 ∷ Accepted 0 ∷ []
unfolding results result_of_node replicated are_same replayed first_failing spec_passes buffer_of
nested_verdicts = refl

nested_value : value_in nested_plan (all_results nested_plan on_the_copy) 3 ≡ Some (14 ∷ [])
unfolding results result_of_node replicated are_same replayed first_failing spec_passes buffer_of
nested_value = refl

nested_sums : value_in nested_plan (all_results nested_plan on_the_copy) 4 ≡ Some (2 ∷ 0 ∷ 0 ∷ [])
unfolding results result_of_node replicated are_same replayed first_failing spec_passes buffer_of
nested_sums = refl

-- of the plan with a scope: its levels, the edges into its nodes d and e, and the references of x and of the scope's promise
scope_levels : levels scope_plan 7 ≡ 0 ∷ 0 ∷ 1 ∷ 2 ∷ 3 ∷ 1 ∷ 2 ∷ []
unfolding levels_by
scope_levels = refl

scope_edges : edges_in scope_plan 3 ≡ 1 ∷ 2 ∷ 3 ∷ []
scope_edges = refl

references_of_x : references scope_plan 0 (promise 1 (Some 1)) ≡ 4
references_of_x = refl

references_of_scope : references scope_plan 4 (own_promise 3) ≡ 2
references_of_scope = refl

-- A sparse product with a task that is corrected by its checksums. The matrix has the rows 2 0 and 1 3, so its products with 5 7 are 10 26.
-- The promises are x and y. The nodes are init and mul.
abbrev cell : ℕ → ℕ → Cell
cell col value = record { col = col; value = value }

abbrev small_matrix : MatrixData
small_matrix = record { cols = 2; rows = (cell 0 2 ∷ []) ∷ (cell 0 1 ∷ cell 1 3 ∷ []) ∷ [] }

abbrev check_on : ℕ → Spec → KeptCheck
check_on promise spec = record { promise = promise; spec = spec; user = None }

abbrev named_promise : List ℕ → ℕ → ℕ → PlannedPromise
named_promise name len v = record (promise len (Some v)) { name = name }

abbrev named_task : List ℕ → List (List ℕ) → Node → Node
named_task name made node = record node { name = name; lets = made }

abbrev product_plan : List KeptCheck → PlanData
product_plan checks = record (plan_of (named_promise (codes "x") 2 0 ∷ named_promise (codes "y") 2 1 ∷ [])
    (named_task (codes "init") (codes "v" ∷ []) (task Plain None [] (0 ∷ []) (Lit (5 ∷ 7 ∷ []) ∷ Put 0 0 None ∷ []) [])
    ∷ named_task (codes "mul") (codes "w" ∷ []) (task Abft None (0 ∷ []) (1 ∷ []) (ProductStep 0 0 ∷ Put 1 1 None ∷ []) (check_on 1 (Product 0 0) ∷ checks)) ∷ [])) { matrices = small_matrix ∷ [] }

-- it is the plan of this text
abbrev item : ℕ → Statement → Item
item line s = record { line = line; statement = s }

abbrev product_text : ProgramText
product_text = version_text 1 (item 2 (text.Promise (codes "x") 2 false)
    ∷ item 3 (text.Promise (codes "y") 2 false)
    ∷ item 4 (text.Matrix (codes "a") 2 2)
    ∷ item 5 (text.Row (0 ∷ []) (2 ∷ []))
    ∷ item 6 (text.Row (0 ∷ 1 ∷ []) (1 ∷ 3 ∷ []))
    ∷ item 7 text.End
    ∷ item 8 (text.Task (codes "init") schemes.Plain [])
    ∷ item 9 (text.LetLit (codes "v") (5 ∷ 7 ∷ []))
    ∷ item 10 (text.Put (codes "x") (codes "v") None)
    ∷ item 11 text.End
    ∷ item 12 (text.Task (codes "mul") schemes.Abft (codes "x" ∷ []))
    ∷ item 13 (text.LetProduct (codes "w") (codes "a") (codes "x"))
    ∷ item 14 (text.Put (codes "y") (codes "w") None)
    ∷ item 15 (text.CheckProduct (codes "y") (codes "a") (codes "x"))
    ∷ item 16 text.End ∷ [])

product_planned : IsPlanOf none_handed product_text (product_plan [])
unfolding facets
product_planned = record {
  draft = record { kept = (refl, (refl, (refl, (refl, (refl, (refl, (refl, (refl, (refl, (refl, (refl, (refl, (refl, (refl, (refl, tt))))))))))))))); nodes = refl; promises = refl; matrices = refl };
  whole = refl;
}

-- the second word of the product is altered by 1: it is restored
abbrev in_product : List Strike
in_product = fault 1 0 1 1 1 ∷ []

product_trials : trials (product_plan []) in_product ≡ (trial.Accepted ∷ []) ∷ (trial.Corrected 1 ∷ []) ∷ []
unfolding results result_of_node first_failing spec_passes buffer_of row_product entry plain_difference weighted_difference restored
product_trials = refl

product_verdicts : verdicts (product_plan []) in_product ≡ Accepted 0 ∷ Corrected 1 ∷ []
unfolding results result_of_node first_failing spec_passes buffer_of row_product entry plain_difference weighted_difference restored
product_verdicts = refl

product_value_corrected : value_in (product_plan []) (all_results (product_plan []) in_product) 1 ≡ Some (10 ∷ 26 ∷ [])
unfolding results result_of_node first_failing spec_passes buffer_of row_product entry plain_difference weighted_difference restored
product_value_corrected = refl

-- two altered words: their differences, 0 and -1, name no word, and the task fails
product_failed : trials (product_plan []) (fault 1 0 1 0 1 ∷ fault 1 0 1 1 3 ∷ []) ≡ (trial.Accepted ∷ []) ∷ (trial.Refused 0 ∷ []) ∷ []
unfolding results result_of_node first_failing spec_passes buffer_of row_product entry plain_difference weighted_difference restored
product_failed = refl

-- without faults another check fails, the check of the product passes, and no word is corrected
product_bounded : trials (product_plan (check_on 1 (Range 0 20) ∷ [])) [] ≡ (trial.Accepted ∷ []) ∷ (trial.Refused 1 ∷ []) ∷ []
unfolding results result_of_node first_failing spec_passes buffer_of row_product entry plain_difference weighted_difference restored
product_bounded = refl

-- the corrected buffer is checked again: it is within 26, and not within 20
product_within : trials (product_plan (check_on 1 (Range 0 26) ∷ [])) in_product ≡ (trial.Accepted ∷ []) ∷ (trial.Corrected 1 ∷ []) ∷ []
unfolding results result_of_node first_failing spec_passes buffer_of row_product entry plain_difference weighted_difference restored
product_within = refl

product_beyond : trials (product_plan (check_on 1 (Range 0 20) ∷ [])) in_product ≡ (trial.Accepted ∷ []) ∷ (trial.Refused 0 ∷ []) ∷ []
unfolding results result_of_node first_failing spec_passes buffer_of row_product entry plain_difference weighted_difference restored
product_beyond = refl

-- Two faults of one attempt that cancel in the checked sum: the altered words are accepted, and the task is not within its budget.
abbrev cancelling : List Strike
cancelling = fault 0 0 0 0 2 ∷ fault 0 0 0 1 2 ∷ []

cancelling_value : value_in replayed_plan (all_results replayed_plan cancelling) 0 ≡ Some (8 ∷ 22 ∷ [])
unfolding results result_of_node replayed first_failing spec_passes buffer_of
cancelling_value = refl

-- the first word that is put to the promise 0
abbrev first_word : BufferData → ℕ
first_word b = slice_index (unwrap_or (words_put 0 b.puts) []) 0

abbrev replayed_task : Node
replayed_task = task (Replay 3) None [] (0 ∷ []) (Lit (10 ∷ 20 ∷ []) ∷ Put 0 0 None ∷ []) ((record { promise = 0; spec = Total 30; user = None }) ∷ [])

after_first : (k : ℕ) → names_attempt cancelling 0 k ≡ false → 0 < k
after_first zero unnamed = absurd (false≢true (sym unnamed))
after_first (suc k) unnamed = omega arith

cancelling_differs : attempt_of replayed_plan cancelling 0 replayed_task (fault_free_inputs replayed_plan 0 replayed_task) 0 ≡ fault_free_buffer replayed_plan 0 replayed_task → ⊥
unfolding buffer_of results result_of_node
cancelling_differs same = false≢true (ap (λ b. nat_eq (first_word b) 10) same)

cancelling_replays : ReplaysWithin replayed_plan cancelling 0 replayed_task 3 → ⊥
unfolding buffer_of results result_of_node first_failing spec_passes
cancelling_replays within = false≢true (within.refused 0 (after_first within.first within.unnamed) cancelling_differs)

cancelling_beyond : IsWithinBudget replayed_plan cancelling 0 → ⊥
unfolding results result_of_node replayed first_failing spec_passes buffer_of
cancelling_beyond within = elim (within replayed_task refl) [
  | inl skipped ↦ false≢true skipped
  | inr (inl none) ↦ false≢true (sym none)
  | inr (inr replays) ↦ cancelling_replays replays
]

-- A faulted plain task that is skipped without faults is within its budget.
abbrev react : Node
react = task Plain None (0 ∷ []) (1 ∷ []) (Sum 0 ∷ Put 1 1 None ∷ []) []

abbrev skipping_plan : PlanData
skipping_plan = plan_of (promise 1 (Some 0) ∷ promise 1 (Some 1) ∷ []) (task Plain None [] (0 ∷ []) (Lit (0 ∷ []) ∷ Put 0 0 (Some 0) ∷ []) [] ∷ react ∷ [])

abbrev in_react : List Strike
in_react = fault 1 0 1 0 1 ∷ []

skipped_within : IsWithinBudget skipping_plan in_react 1
unfolding results result_of_node buffer_of
skipped_within node is =
    let keeps : KeepsBudget skipping_plan in_react 1 react Task = inl refl in
    subst (λ (n : Node). KeepsBudget skipping_plan in_react 1 n n.kind) (same_Some react node is) keeps
