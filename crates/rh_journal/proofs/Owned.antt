-- What the own events of a node are.
use Rattle.std.proofs.Common.{◌≡◌, ℕ, ◌+◌, ◌<◌, ◌≤◌, ◌==◌, ◌&&◌, ◌||◌, List, [], ◌∷◌, ◌++◌, Bool, true, false, not, Option, Some, None, length, map, refl, arith, ap, sym, ◌∙◌, inl, inr, subst, eqb-true, eq-eqb, append_assoc}
use Rattle.std.proofs.lemmas.Option.{none-some, same_Some, slice_get_within, slice_get_cases}
use Rattle.std.proofs.lemmas.Bool.{cases_Bool, false≢true}
use Rattle.std.specs.List.{AllByRecursion, filter, list_any, slice_get}
use Rattle.std.specs.Option.{option_and_then, IsSomeAnd}
use Rattle.rh_rules.specs.declared.node.Node.{Node}
use Rattle.rh_rules.specs.declared.node.Kind.{Kind}
use Rattle.rh_rules.specs.declared.node.Kind.TheVariants.{Task, Group, Scope}
use Rattle.rh_rules.specs.declared.node.PlannedPromise.{PlannedPromise}
use Rattle.rh_plan.specs.declared.outcome.Trial.{Trial}
use Rattle.rh_plan.specs.declared.outcome.Verdict.{Verdict}
use Rattle.rh_plan.specs.declared.outcome.Verdict.TheVariants.{Accepted, Corrected, Failed, Skipped, Opened, Closed, Ended}
use Rattle.rh_plan.specs.Plans.{PlanData, shapes_in}
use Rattle.rh_rules.specs.Lawful.{putter_of}
use Rattle.rh_rules.specs.Bodies.{promises_put}
use Rattle.rh_plan.specs.Lawful.{IsLawfulPlan}
use Rattle.rh_rules.specs.Lawful.{IsLawfulKind, IsAmong}
use Rattle.rh_plan.specs.Buffers.{BufferData}
use Rattle.rh_rules.specs.Bodies.{drops_of}
use Rattle.rh_plan.specs.Judging.{NodeResult}
use Rattle.rh_plan.specs.Results.{results, all_results, result_of_node}
use Rattle.rh_plan.specs.Followed.{often, FollowsSteps}
use Rattle.rh_journal.specs.declared.event.Event.{Event}
use Rattle.rh_journal.specs.declared.event.Event.TheVariants.{Claim, Put, Void, Release, Decide}
use Rattle.rh_journal.specs.Events.{node_of, is_reports, claimed, released, freed}
use Rattle.rh_journal.specs.Own.{Run, attempts_from, promises_of, drops_by, put_by, put_attempt, puts_by, voids_by, released_by, node_events, has_value, events_if, own_events}
use Rattle.rh_rules.specs.Tables.{is_in}
use Rattle.rh_plan.proofs.Lists.{all_by}
use Rattle.rh_plan.proofs.Rows.{result_there}
use Rattle.rh_plan.proofs.Followed.{accepted_buffers_follow_bodies}
use Rattle.rh_journal.proofs.Counts.{all_append, all_of_map, all_filter, count_yes, count_no}

-- the result of a node, by those of the lower nodes
abbrev pub row : Run → ℕ → Node → NodeResult
row run v node = result_of_node run.plan run.faults (results run.plan run.faults v) v node

pub own_there : (run : Run) (v : ℕ) (node : Node) → slice_get run.plan.nodes v ≡ Some node → own_events run v ≡ node_events (has_value run) v node (row run v node)
unfolding own_events
own_there run v node is =
    ap (λ (o : Option Node). events_if (has_value run) v o (slice_get (all_results run.plan run.faults) v)) is
    ∙ ap (λ (o : Option NodeResult). events_if (has_value run) v (Some node) o) (result_there run.plan run.faults (length run.plan.nodes) v node is (slice_get_within run.plan.nodes v node is))

pub own_past : (run : Run) (v : ℕ) → slice_get run.plan.nodes v ≡ None → own_events run v ≡ []
unfolding own_events
own_past run v is = ap (λ (o : Option Node). events_if (has_value run) v o (slice_get (all_results run.plan run.faults) v)) is

-- a list that has each number no more often than another keeps what holds of that one
pub all_often : (P : ℕ → Type 0) (ys : List ℕ) (q : ℕ) → AllByRecursion P ys → 1 ≤ often q ys → P q
all_often P [] q all some1 = absurd (omega arith)
all_often P (y ∷ ys) q all some1 = elim (cases_Bool (y == q)) [
  | inl yes1 ↦ subst P (eqb-true y q yes1) all.0
  | inr no1 ↦ let a = count_no (λ p. p == q) y ys no1 in all_often P ys q all.1 (omega arith)
]

pub all_fewer : (P : ℕ → Type 0) (xs ys : List ℕ) → ((q : ℕ) → often q xs ≤ often q ys) → AllByRecursion P ys → AllByRecursion P xs
all_fewer P xs ys few all = each xs (λ q some1. all_often P ys q all (let a = few q in omega arith))
  where
    cons : (q x : ℕ) (xs : List ℕ) → often q xs ≤ often q (x ∷ xs)
    cons q x xs = elim (cases_Bool (x == q)) [
      | inl yes1 ↦ let a = count_yes (λ p. p == q) x xs yes1 in omega arith
      | inr no1 ↦ let a = count_no (λ p. p == q) x xs no1 in omega arith
    ]

    each : (xs : List ℕ) → ((q : ℕ) → 1 ≤ often q xs → P q) → AllByRecursion P xs
    each [] h = tt
    each (x ∷ xs) h = (h x (let a = count_yes (λ p. p == x) x xs (eq-eqb x x refl) in omega arith), each xs (λ q some1. h q (let a = cons q x xs in omega arith)))

-- a lawful node's body puts no more than the node may put
body_few : (plan : PlanData) (node : Node) (k : Kind) → IsLawfulKind (shapes_in plan) plan.promises node k → (q : ℕ) → often q (promises_put node.body) ≤ often q node.puts
body_few plan node Task lawful q = let a = ap (often q) lawful.puts in omega arith
body_few plan node Group lawful q = let a = ap (λ b. often q (promises_put b)) lawful.bodiless.body in omega arith
body_few plan node Scope lawful q = let a = ap (λ b. often q (promises_put b)) lawful.bodiless.body in omega arith

promises_few : (node : Node) (o : Option BufferData) (q : ℕ) → often q (promises_put node.body) ≤ often q node.puts → ((b : BufferData) → o ≡ Some b → FollowsSteps node.body b) → often q (promises_of o) ≤ often q node.puts
promises_few node None q few follow = omega arith
promises_few node (Some b) q few follow = let a = (follow b refl).puts q in omega arith

put_few : (node : Node) (o : Option BufferData) (d : Verdict) (q : ℕ) → often q (promises_put node.body) ≤ often q node.puts → ((b : BufferData) → o ≡ Some b → FollowsSteps node.body b) → often q (put_by node o d) ≤ often q node.puts
put_few node o (Accepted k) q few follow = promises_few node o q few follow
put_few node o (Corrected i) q few follow = promises_few node o q few follow
put_few node o Failed q few follow = omega arith
put_few node o (Skipped c) q few follow = omega arith
put_few node o Opened q few follow = omega arith
put_few node o (Closed c) q few follow = omega arith
put_few node o (Ended a f s) q few follow = omega arith

-- a node puts no promise more often than it may
pub puts_few : (run : Run) → IsLawfulPlan run.plan → (v : ℕ) (node : Node) → slice_get run.plan.nodes v ≡ Some node → (q : ℕ) → often q (puts_by node (row run v node)) ≤ often q node.puts
puts_few run lawful v node is q =
    put_few node (row run v node).accepted (row run v node).verdict q (body_few run.plan node node.kind (lawful.parts.nodes v node is).kind q) (accepted_buffers_follow_bodies run.plan run.faults v node)

-- what is dropped is awaited
drops_awaited : (node : Node) (o : Option BufferData) → (P : ℕ → Type 0) → AllByRecursion P (drops_of node.body) → ((b : BufferData) → o ≡ Some b → FollowsSteps node.body b) → AllByRecursion P (drops_by o)
drops_awaited node None P all follow = tt
drops_awaited node (Some b) P all follow = subst (AllByRecursion P) (sym (follow b refl).drops) all

-- An event between the claim of a node and its end: the node's, and no claim, no free and none of the report. Releases are of promises of the plan.
pub record IsPlain (plan : PlanData) (v : ℕ) (x : Event) : Type 0 where
  pub by : node_of plan x ≡ Some v
  pub no_claim : claimed x ≡ None
  pub no_report : is_reports x ≡ false
  pub no_free : freed x ≡ None
  pub known : (q : ℕ) → released x ≡ Some q → q < length plan.promises

pub record HasEvents (run : Run) (v : ℕ) : Type 0 where
  pub middle : List Event
  pub verdict : Verdict
  pub is : own_events run v ≡ Claim v ∷ (middle ++ Decide v verdict ∷ [])
  pub plain : AllByRecursion (IsPlain run.plan v) middle

pub putter_known : (plan : PlanData) (q u : ℕ) → putter_of plan.promises q ≡ Some u → q < length plan.promises
putter_known plan q u by = elim (slice_get_cases plan.promises q).1 [
  | inl there ↦ there.1
  | inr past ↦ absurd (none-some u (ap (λ (o : Option PlannedPromise). option_and_then (λ p. p.putter) o) (sym past.1) ∙ by))
]

attempts_plain : (plan : PlanData) (v k : ℕ) (trials : List Trial) → AllByRecursion (IsPlain plan v) (attempts_from v k trials)
attempts_plain plan v k [] = tt
attempts_plain plan v k (t ∷ trials) = (record { by = refl; no_claim = refl; no_report = refl; no_free = refl; known = λ q is. absurd (none-some q is) }, attempts_plain plan v (k + 1) trials)

-- the awaits of a node, which lower nodes put, are promises of the plan
pub awaits_known : (plan : PlanData) (v : ℕ) (awaits : List ℕ) → AllByRecursion (λ q. IsSomeAnd (putter_of plan.promises q) (λ u. u < v)) awaits → AllByRecursion (λ q. q < length plan.promises) awaits
awaits_known plan v [] all = tt
awaits_known plan v (q ∷ awaits) all = (one (putter_of plan.promises q) refl all.0, awaits_known plan v awaits all.1)
  where
    one : (o : Option ℕ) → putter_of plan.promises q ≡ o → IsSomeAnd o (λ u. u < v) → q < length plan.promises
    one None by below = absurd below
    one (Some u) by below = putter_known plan q u by

-- what is among the awaits keeps what holds of each of them
among_all : (P : ℕ → Type 0) (awaits drops : List ℕ) → AllByRecursion P awaits → AllByRecursion (IsAmong awaits) drops → AllByRecursion P drops
among_all P awaits [] all among = tt
among_all P awaits (q ∷ drops) all among = (one awaits all among.0, among_all P awaits drops all among.1)
  where
    one : (awaits : List ℕ) → AllByRecursion P awaits → list_any (λ p. p == q) awaits ≡ true → P q
    one [] all is = absurd (false≢true is)
    one (p ∷ awaits) all is = elim (cases_Bool (p == q)) [
      | inl yes1 ↦ subst P (eqb-true p q yes1) all.0
      | inr no1 ↦ one awaits all.1 (ap (λ (b : Bool). b || list_any (λ x. x == q) awaits) (sym no1) ∙ is)
    ]

drops_known : (plan : PlanData) (P : ℕ → Type 0) (node : Node) (k : Kind) → IsLawfulKind (shapes_in plan) plan.promises node k → AllByRecursion P node.awaits → AllByRecursion P (drops_of node.body)
drops_known plan P node Task lawful all = among_all P node.awaits (drops_of node.body) all lawful.dropped
drops_known plan P node Group lawful all = subst (λ b. AllByRecursion P (drops_of b)) (sym lawful.bodiless.body) tt
drops_known plan P node Scope lawful all = subst (λ b. AllByRecursion P (drops_of b)) (sym lawful.bodiless.body) tt

-- a node gives up references of promises of the plan alone
pub released_known : (run : Run) → IsLawfulPlan run.plan → (v : ℕ) (node : Node) → slice_get run.plan.nodes v ≡ Some node → (has : ℕ → Bool) → AllByRecursion (λ q. q < length run.plan.promises) (released_by has node (row run v node))
released_known run lawful v node is has =
    let one = lawful.parts.nodes v node is in
    let r : NodeResult = row run v node in
    let known : ℕ → Type 0 = λ q. q < length run.plan.promises in
    let put_own : AllByRecursion (λ q. putter_of run.plan.promises q ≡ Some v) (puts_by node r) = all_fewer (λ q. putter_of run.plan.promises q ≡ Some v) (puts_by node r) node.puts (puts_few run lawful v node is) one.own in
    let awaited = awaits_known run.plan v node.awaits one.awaited in
    let dropped = drops_awaited node r.accepted known (drops_known run.plan known node node.kind one.kind awaited) (accepted_buffers_follow_bodies run.plan run.faults v node) in
    let put_known = all_by (λ q. putter_of run.plan.promises q ≡ Some v) known (puts_by node r) (λ q by. putter_known run.plan q v by) put_own in
    all_append known (drops_by r.accepted) (filter (λ q. not (is_in q (drops_by r.accepted)) && has q) node.awaits ++ puts_by node r) dropped
    (all_append known (filter (λ q. not (is_in q (drops_by r.accepted)) && has q) node.awaits) (puts_by node r) (all_filter known (λ q. not (is_in q (drops_by r.accepted)) && has q) node.awaits awaited) put_known)

pub has_events : (run : Run) → IsLawfulPlan run.plan → (v : ℕ) (node : Node) → slice_get run.plan.nodes v ≡ Some node → HasEvents run v
has_events run lawful v node is =
    let one = lawful.parts.nodes v node is in
    let r : NodeResult = row run v node in
    let few = puts_few run lawful v node is in
    let put_own : AllByRecursion (λ q. putter_of run.plan.promises q ≡ Some v) (puts_by node r) = all_fewer (λ q. putter_of run.plan.promises q ≡ Some v) (puts_by node r) node.puts few one.own in
    let awaited = awaits_known run.plan v node.awaits one.awaited in
    let dropped = drops_awaited node r.accepted (λ q. q < length run.plan.promises) (drops_known run.plan (λ q. q < length run.plan.promises) node node.kind one.kind awaited) (accepted_buffers_follow_bodies run.plan run.faults v node) in
    let put_known = all_by (λ q. putter_of run.plan.promises q ≡ Some v) (λ q. q < length run.plan.promises) (puts_by node r) (λ q by. putter_known run.plan q v by) put_own in
    let rest_known = all_append (λ q. q < length run.plan.promises) (filter (λ q. not (is_in q (drops_by r.accepted)) && has_value run q) node.awaits) (puts_by node r) (all_filter (λ q. q < length run.plan.promises) (λ q. not (is_in q (drops_by r.accepted)) && has_value run q) node.awaits awaited) put_known in
    let all_known = all_append (λ q. q < length run.plan.promises) (drops_by r.accepted) (filter (λ q. not (is_in q (drops_by r.accepted)) && has_value run q) node.awaits ++ puts_by node r) dropped rest_known in
    let plain = IsPlain run.plan v in
    let tries : List Event = attempts_from v 0 r.trials in
    let puts : List Event = map (λ q. Put q (put_attempt r.verdict)) (puts_by node r) in
    let voids : List Event = map Void (voids_by node r) in
    let releases : List Event = map (λ q. Release q (Some v)) (released_by (has_value run) node r) in
    let puts_plain : AllByRecursion plain puts = all_of_map plain (λ q. Put q (put_attempt r.verdict)) (puts_by node r)
    (all_by (λ q. putter_of run.plan.promises q ≡ Some v) (λ q. plain (Put q (put_attempt r.verdict))) (puts_by node r) (λ q by. put_plain run.plan v q (put_attempt r.verdict) by) put_own) in
    let voids_plain : AllByRecursion plain voids = all_of_map plain Void (voids_by node r)
    (all_by (λ q. putter_of run.plan.promises q ≡ Some v) (λ q. plain (Void q)) (voids_by node r) (λ q by. void_plain run.plan v q by) (all_filter (λ q. putter_of run.plan.promises q ≡ Some v) (λ q. not (is_in q (puts_by node r))) node.puts one.own)) in
    let releases_plain : AllByRecursion plain releases = all_of_map plain (λ q. Release q (Some v)) (released_by (has_value run) node r)
    (all_by (λ q. q < length run.plan.promises) (λ q. plain (Release q (Some v))) (released_by (has_value run) node r) (λ q known. release_plain run.plan v q known) all_known) in
    record {
      middle = tries ++ (puts ++ (voids ++ releases));
      verdict = r.verdict;
      is = own_there run v node is ∙ ap (λ (l : List Event). Claim v ∷ l) (four tries puts voids releases (Decide v r.verdict ∷ []));
      plain = all_append plain tries (puts ++ (voids ++ releases)) (attempts_plain run.plan v 0 r.trials) (all_append plain puts (voids ++ releases) puts_plain (all_append plain voids releases voids_plain releases_plain));
    }
  where
    put_plain : (plan : PlanData) (v q k : ℕ) → putter_of plan.promises q ≡ Some v → IsPlain plan v (Put q k)
    put_plain plan v q k by = record { by = by; no_claim = refl; no_report = refl; no_free = refl; known = λ p is. absurd (none-some p is) }

    void_plain : (plan : PlanData) (v q : ℕ) → putter_of plan.promises q ≡ Some v → IsPlain plan v (Void q)
    void_plain plan v q by = record { by = by; no_claim = refl; no_report = refl; no_free = refl; known = λ p is. absurd (none-some p is) }

    release_plain : (plan : PlanData) (v q : ℕ) → q < length plan.promises → IsPlain plan v (Release q (Some v))
    release_plain plan v q known = record { by = refl; no_claim = refl; no_report = refl; no_free = refl; known = λ p is. subst (λ (n : ℕ). n < length plan.promises) (same_Some q p is) known }

    four : (a b c d e : List Event) → a ++ (b ++ (c ++ (d ++ e))) ≡ (a ++ (b ++ (c ++ d))) ++ e
    four a b c d e =
        ap (λ (l : List Event). a ++ (b ++ l)) (sym (append_assoc c d e))
        ∙ ap (λ (l : List Event). a ++ l) (sym (append_assoc b (c ++ d) e))
        ∙ sym (append_assoc a (b ++ (c ++ d)) e)
