-- How a node ends, by its kind.
use Rattle.std.proofs.Common.{◌≡◌, ℕ, ◌<◌, ◌≤◌, ◌||◌, List, [], ◌∷◌, Bool, true, Option, Some, None, length, map, refl, arith, ap, sym, ◌∙◌, subst, inl, inr, eqb-true}
use Rattle.std.proofs.lemmas.Bool.{cases_Bool, false≢true}
use Rattle.std.proofs.lemmas.Option.{same_Some}
use Rattle.std.proofs.lemmas.Map.Steps.{length-le_from_distinct_below}
use Rattle.std.specs.List.{AllByRecursion, list_any, slice_get}
use Rattle.std.specs.Prelude.{nat_eq}
use Rattle.rh_injector.specs.declared.faults.Strike.{Strike}
use Rattle.rh_rules.specs.declared.node.Node.{Node}
use Rattle.rh_rules.specs.declared.node.Kind.TheVariants.{Task, Group, Scope}
use Rattle.rh_plan.specs.declared.outcome.Cause.{Cause}
use Rattle.rh_plan.specs.declared.outcome.Verdict.{Verdict}
use Rattle.rh_plan.specs.declared.outcome.Verdict.TheVariants.{Skipped, Ended}
use Rattle.rh_plan.specs.Plans.{PlanData, OfNode, shapes_in}
use Rattle.rh_plan.specs.Lawful.{IsLawfulPlan}
use Rattle.rh_rules.specs.Lawful.{IsLawfulKind}
use Rattle.rh_plan.specs.Asked.{IsTaskOn}
use Rattle.rh_plan.specs.Judging.{NodeResult, node_result}
use Rattle.rh_plan.specs.Attempts.{judged}
use Rattle.rh_plan.specs.Results.{results, result_of_node, result_by_kind, task_result, group_result, cause_in, blamed, group_opened, inputs_in, is_accepted, is_failed, is_skipped, count_ended}
use Rattle.rh_plan.proofs.Sources.{node_there}
use Rattle.rh_plan.proofs.Values.{unskipped_tasks_are_ready}
use Rattle.rh_schemes.specs.declared.result.NodeResult as code
use Rattle.rh_schemes.specs.Judges.{JudgesAs}
use Rattle.rh_plain.specs.Values.{has_words, awaited_words}
use Rattle.rh_plain.specs.Endings.{has_opened, count_of, group_verdict}
use Rattle.rh_plain.specs.Runs.{AnswersNode, HasAwaited, IsBefore, IsUnskipped}
use Rattle.rh_plain.proofs.Tables.{inputs_are, present_are, opened_is, counts_are}

-- the words of awaited promises are those of the definition
words_awaited : (plan : PlanData) (faults : List Strike) (v : ℕ) (values : List (Option (List ℕ))) (awaits : List ℕ) (node : Node) → slice_get plan.nodes v ≡ Some node → HasAwaited plan faults v values → OfNode plan v (λ n. awaits ≡ n.awaits) → awaited_words values awaits ≡ inputs_in plan (results plan faults v) node.awaits
words_awaited plan faults v values awaits node at held are = ap (awaited_words values) (are node at) ∙ inputs_are plan (results plan faults v) values node.awaits (held node at)

-- A task that is not skipped can be judged on the words that it awaits.
pub task_on : (plan : PlanData) (faults : List Strike) (v : ℕ) (values : List (Option (List ℕ))) (awaits : List ℕ) → IsLawfulPlan plan → IsUnskipped plan faults v → HasAwaited plan faults v values → OfNode plan v (λ node. awaits ≡ node.awaits) → IsTaskOn plan v (awaited_words values awaits)
task_on plan faults v values awaits lawful task held are =
    let ready = unskipped_tasks_are_ready plan lawful faults v task.node task.there task.kind task.cause in
    record {
      node = task.node;
      there = task.there;
      kind = task.kind;
      lens = ap (λ (l : List (List ℕ)). map length l) (words_awaited plan faults v values awaits task.node task.there held are) ∙ ready.lens;
    }

-- it ends as it is judged
pub judged_ends : (plan : PlanData) (faults : List Strike) (v : ℕ) (values : List (Option (List ℕ))) (awaits : List ℕ) (r : code.NodeResult) → IsUnskipped plan faults v → HasAwaited plan faults v values → OfNode plan v (λ node. awaits ≡ node.awaits) → JudgesAs plan faults v (awaited_words values awaits) r → AnswersNode plan faults v r
unfolding result_of_node
judged_ends plan faults v values awaits r task held are judges node at =
    let same : task.node ≡ node = same_Some task.node node (sym task.there ∙ at) in
    judges task.node task.there
    ∙ ap (judged plan faults v task.node) (words_awaited plan faults v values awaits task.node task.there held are)
    ∙ sym (ap (task_result plan faults (results plan faults v) v task.node) task.cause)
    ∙ sym (ap (result_by_kind plan faults (results plan faults v) v task.node) task.kind)
    ∙ ap (λ (n : Node). result_by_kind plan faults (results plan faults v) v n n.kind) same

-- the cause that is found is that of the definition
pub cause_is : (plan : PlanData) (faults : List Strike) (v : ℕ) (node : Node) (verdicts : List Verdict) (values : List (Option (List ℕ))) (cause : Option Cause) → slice_get plan.nodes v ≡ Some node → IsBefore plan faults v verdicts values → cause ≡ blamed node.group (has_opened verdicts node.group) node.awaits (map (has_words values) node.awaits) → cause ≡ cause_in plan (results plan faults v) node
cause_is plan faults v node verdicts values cause at before is =
    is ∙ ap (λ (d : List Verdict). blamed node.group (has_opened d node.group) node.awaits (map (has_words values) node.awaits)) before.ended
    ∙ ap (λ (b : Bool). blamed node.group b node.awaits (map (has_words values) node.awaits)) (opened_is (results plan faults v) node.group)
    ∙ ap (blamed node.group (group_opened (results plan faults v) node.group) node.awaits) (present_are plan (results plan faults v) values node.awaits (before.awaited node at))

-- a task with a cause is skipped
pub skipped_ends : (plan : PlanData) (faults : List Strike) (v : ℕ) (node : Node) (cause : Cause) → node.kind ≡ Task → cause_in plan (results plan faults v) node ≡ Some cause → node_result (Skipped cause) [] None ≡ result_of_node plan faults (results plan faults v) v node
unfolding result_of_node
skipped_ends plan faults v node cause kind is =
    sym (ap (task_result plan faults (results plan faults v) v node) is) ∙ sym (ap (result_by_kind plan faults (results plan faults v) v node) kind)

group_ends : (cause : Option Cause) → node_result (group_verdict cause) [] None ≡ group_result cause
group_ends None = refl
group_ends (Some c) = refl

-- a group ends by its cause
pub group_ends_by : (plan : PlanData) (faults : List Strike) (v : ℕ) (node : Node) (cause : Option Cause) → node.kind ≡ Group → cause ≡ cause_in plan (results plan faults v) node → node_result (group_verdict cause) [] None ≡ result_of_node plan faults (results plan faults v) v node
unfolding result_of_node
group_ends_by plan faults v node cause kind is =
    group_ends cause ∙ ap group_result is ∙ sym (ap (result_by_kind plan faults (results plan faults v) v node) kind)

-- a scope ends with the counts of its members
pub scope_ends : (plan : PlanData) (faults : List Strike) (v : ℕ) (node : Node) (verdicts : List Verdict) (members : List ℕ) (ending : Verdict) → node.kind ≡ Scope → verdicts ≡ map (λ r. r.verdict) (results plan faults v) → members ≡ node.members
    → ending ≡ Ended (count_of is_accepted verdicts members) (count_of is_failed verdicts members) (count_of is_skipped verdicts members) → node_result ending [] None ≡ result_of_node plan faults (results plan faults v) v node
unfolding result_of_node
scope_ends plan faults v node verdicts members ending kind read members_are is =
    let rs : List NodeResult = results plan faults v in
    ap (λ (e : Verdict). node_result e [] None) is
    ∙ ap (λ (l : List Verdict). node_result (Ended (count_of is_accepted l members) (count_of is_failed l members) (count_of is_skipped l members)) [] None) read
    ∙ ap (λ (l : List ℕ). node_result (Ended (count_of is_accepted (map (λ (r : NodeResult). r.verdict) rs) l) (count_of is_failed (map (λ (r : NodeResult). r.verdict) rs) l) (count_of is_skipped (map (λ (r : NodeResult). r.verdict) rs) l)) [] None) members_are
    ∙ ap (λ (n : ℕ). node_result (Ended n (count_of is_failed (map (λ (r : NodeResult). r.verdict) rs) node.members) (count_of is_skipped (map (λ (r : NodeResult). r.verdict) rs) node.members)) [] None) (counts_are is_accepted rs node.members)
    ∙ ap (λ (n : ℕ). node_result (Ended (count_ended is_accepted rs node.members) n (count_of is_skipped (map (λ (r : NodeResult). r.verdict) rs) node.members)) [] None) (counts_are is_failed rs node.members)
    ∙ ap (λ (n : ℕ). node_result (Ended (count_ended is_accepted rs node.members) (count_ended is_failed rs node.members) n) [] None) (counts_are is_skipped rs node.members)
    ∙ sym (ap (result_by_kind plan faults rs v node) kind)

among_below : (xs : List ℕ) (n q : ℕ) → AllByRecursion (λ u. u < n) xs → list_any (nat_eq q) xs ≡ true → q < n
among_below [] n q below among = absurd (false≢true among)
among_below (x ∷ xs) n q below among = elim (cases_Bool (nat_eq q x)) [
  | inl here ↦ let same = eqb-true q x here in let b = below.0 in omega arith
  | inr other ↦ among_below xs n q below.1 (sym (ap (λ (b : Bool). b || list_any (nat_eq q) xs) other) ∙ among)
]

-- a scope has few members
pub few_members : (plan : PlanData) (v : ℕ) (node : Node) (members : List ℕ) → IsLawfulPlan plan → slice_get plan.nodes v ≡ Some node → node.kind ≡ Scope → v < length plan.nodes → members ≡ node.members → length members ≤ 16384
few_members plan v node members lawful at kind within are =
    let one = lawful.parts.nodes v node at in
    let scope = subst (IsLawfulKind (shapes_in plan) plan.promises node) kind one.kind in
    let few = length-le_from_distinct_below node.members v scope.members_once (λ q among. among_below node.members v q one.members among) in
    let all = lawful.parts.few_nodes in
    let long = ap (λ (l : List ℕ). length l) are in
    omega arith

-- a node awaits few promises
pub few_awaits : (plan : PlanData) (v : ℕ) (awaits : List ℕ) → IsLawfulPlan plan → v < length plan.nodes → OfNode plan v (λ node. awaits ≡ node.awaits) → length awaits ≤ 16
few_awaits plan v awaits lawful within are =
    let (node, at) = node_there plan v within in
    subst (λ (l : List ℕ). length l ≤ 16) (sym (are node at)) (lawful.parts.nodes v node at).few_awaits
