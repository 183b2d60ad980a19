-- Small plans worked out: their journals on one thread, computed.
use Rattle.std.proofs.Common.{◌≡◌, ℕ, List, [], ◌∷◌, Some, None, false, true, refl}
use Rattle.rh_rules.specs.declared.body.Step.{Step}
use Rattle.rh_rules.specs.declared.body.Step.TheVariants.{Lit, Add, Put, DropAwait}
use Rattle.rh_rules.specs.declared.node.Node.{Node}
use Rattle.rh_rules.specs.declared.node.Kind.TheVariants.{Task}
use Rattle.rh_rules.specs.declared.node.Scheme.TheVariants.{Plain}
use Rattle.rh_rules.specs.declared.node.PlannedPromise.{PlannedPromise}
use Rattle.rh_plan.specs.declared.outcome.Trial.TheVariants as trial
use Rattle.rh_plan.specs.declared.outcome.Verdict.TheVariants.{Accepted}
use Rattle.rh_plan.specs.Plans.{PlanData, edges_from}
use Rattle.rh_plan.specs.Buffers.{buffer_of}
use Rattle.rh_plan.specs.Results.{results, result_of_node}
use Rattle.rh_journal.specs.declared.event.Event.TheVariants as event
use Rattle.rh_journal.specs.Own.{Run, run_of, own_events, report_events, references_of}
use Rattle.rh_journal.specs.OneThread.{one_thread, events_below, numbered_from}
use Rattle.rh_journal.specs.Tells.{shown_words}

abbrev plan_of : List PlannedPromise → List Node → PlanData
plan_of promises nodes = record { nodes = nodes; promises = promises; edges = edges_from promises 0 nodes; matrices = [] }

abbrev promise : ℕ → ℕ → PlannedPromise
promise len putter = record { name = []; len = len; putter = Some putter; temp = false; scope = false }

abbrev temp_promise : ℕ → ℕ → PlannedPromise
temp_promise len putter = record { name = []; len = len; putter = Some putter; temp = true; scope = false }

abbrev task : List ℕ → List ℕ → List Step → Node
task awaits puts body = record { name = []; kind = Task; scheme = Plain; group = None; awaits = awaits; members = []; puts = puts; body = body; checks = []; lets = [] }

-- a puts 1 2 3 to x, and b puts x + x to y
abbrev chain : Run
chain = run_of (plan_of (promise 3 0 ∷ promise 3 1 ∷ [])
    (task [] (0 ∷ []) (Lit (1 ∷ 2 ∷ 3 ∷ []) ∷ Put 0 0 None ∷ [])
    ∷ task (0 ∷ []) (1 ∷ []) (Add 0 0 ∷ Put 1 1 None ∷ []) ∷ [])) []

chain_journal : one_thread chain ≡ numbered_from 0 (
    event.Claim 0 ∷ event.Attempt 0 0 trial.Accepted ∷ event.Put 0 0 ∷ event.Release 0 (Some 0) ∷ event.Decide 0 (Accepted 0)
    ∷ event.Claim 1 ∷ event.Attempt 1 0 trial.Accepted ∷ event.Put 1 0 ∷ event.Release 0 (Some 1) ∷ event.Release 1 (Some 1) ∷ event.Decide 1 (Accepted 0)
    ∷ event.Release 0 None ∷ event.Free 0 ∷ event.Release 1 None ∷ event.Free 1 ∷ [])
unfolding events_below own_events report_events references_of results result_of_node buffer_of
chain_journal = refl

chain_words : shown_words chain ≡ (0, 1 ∷ 2 ∷ 3 ∷ []) ∷ (1, 2 ∷ 4 ∷ 6 ∷ []) ∷ []
unfolding results result_of_node buffer_of
chain_words = refl

-- one task puts to a promise that is not shown, and its own release is the last
abbrev alone : Run
alone = run_of (plan_of (temp_promise 1 0 ∷ []) (task [] (0 ∷ []) (Lit (9 ∷ []) ∷ Put 0 0 None ∷ []) ∷ [])) []

alone_journal : one_thread alone ≡ numbered_from 0 (
    event.Claim 0 ∷ event.Attempt 0 0 trial.Accepted ∷ event.Put 0 0 ∷ event.Release 0 (Some 0) ∷ event.Free 0 ∷ event.Decide 0 (Accepted 0) ∷ [])
unfolding events_below own_events report_events references_of results result_of_node buffer_of
alone_journal = refl

-- b drops y, and then releases x
abbrev dropping : Run
dropping = run_of (plan_of (temp_promise 1 0 ∷ temp_promise 1 0 ∷ [])
    (task [] (0 ∷ 1 ∷ []) (Lit (1 ∷ []) ∷ Put 0 0 None ∷ Put 1 0 None ∷ [])
    ∷ task (0 ∷ 1 ∷ []) [] (DropAwait 1 ∷ []) ∷ [])) []

dropping_journal : one_thread dropping ≡ numbered_from 0 (
    event.Claim 0 ∷ event.Attempt 0 0 trial.Accepted ∷ event.Put 0 0 ∷ event.Put 1 0 ∷ event.Release 0 (Some 0) ∷ event.Release 1 (Some 0) ∷ event.Decide 0 (Accepted 0)
    ∷ event.Claim 1 ∷ event.Attempt 1 0 trial.Accepted ∷ event.Release 1 (Some 1) ∷ event.Free 1 ∷ event.Release 0 (Some 1) ∷ event.Free 0 ∷ event.Decide 1 (Accepted 0) ∷ [])
unfolding events_below own_events report_events references_of results result_of_node buffer_of
dropping_journal = refl
