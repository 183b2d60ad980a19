-- A promise has a reference left before each node that awaits it, and before the report where that shows it.
use Rattle.std.proofs.Common.{◌≡◌, ℕ, zero, suc, ◌+◌, ◌<◌, ◌≤◌, List, [], ◌∷◌, ◌++◌, Bool, true, cond, Option, Some, None, length, map, take, refl, arith, ap, sym, ◌∙◌, inl, inr}
use Rattle.std.proofs.lemmas.Option.{none-some, same_Some, slice_get_cases, slice_get_within}
use Rattle.std.proofs.lemmas.Bool.{cases_lt, false≢true}
use Rattle.std.specs.List.{AllByRecursion, slice_get, count_by}
use Rattle.std.specs.Option.{option_to_list}
use Rattle.rh_rules.specs.declared.node.Node.{Node}
use Rattle.rh_rules.specs.declared.node.Kind.{Kind}
use Rattle.rh_rules.specs.declared.node.Kind.TheVariants.{Task, Group, Scope}
use Rattle.rh_rules.specs.declared.node.PlannedPromise.{PlannedPromise}
use Rattle.rh_rules.specs.declared.shape.Shape.{Shape}
use Rattle.rh_rules.specs.Lawful.{putter_of, IsLawfulKind}
use Rattle.rh_rules.specs.Tables.{is_in}
use Rattle.rh_plan.specs.declared.edge.Edge.{Edge}
use Rattle.rh_plan.specs.Plans.{PlanData, await_edge, order_edge, start_edges, edges_into, edges_into_kind, edges_from, shapes_in}
use Rattle.rh_plan.specs.Lawful.{IsLawfulPlan}
use Rattle.rh_plan.specs.Derived.{is_number, is_shown, references}
use Rattle.rh_journal.specs.Events.{is_release, times}
use Rattle.rh_journal.specs.Own.{Run, own_events, is_shown_at, shown_if, references_if, references_of}
use Rattle.rh_journal.specs.OneThread.{events_below}
use Rattle.rh_journal.specs.References.{ReferencesAreLeft}
use Rattle.rh_journal.proofs.Counts.{count-append, count-map, count-cons, bit_yes, bit_no, some_is_number, other_number}
use Rattle.rh_journal.proofs.Owned.{all_often, awaits_known}
use Rattle.rh_journal.proofs.Whole.{events_below-suc, events_below-zero}
use Rattle.rh_journal.proofs.Distinct.{among_some}
use Rattle.rh_journal.proofs.Referring.{puts_it, own_releases_most}

-- how many nodes await a promise
abbrev awaiting : List Node → ℕ → ℕ
awaiting nodes q = count_by (λ node. is_in q node.awaits) nodes

-- how many edges carry a promise
abbrev carrying : List Edge → ℕ → ℕ
carrying edges q = count_by (λ e. is_number q e.promise) edges

take_more : {X : Type 0} (xs : List X) (n : ℕ) (x : X) → slice_get xs n ≡ Some x → take (suc n) xs ≡ take n xs ++ x ∷ []
take_more [] n x at = absurd (none-some x at)
take_more {X = X} (y ∷ xs) zero x at = ap (λ (z : X). z ∷ []) (same_Some y x at)
take_more {X = X} (y ∷ xs) (suc n) x at = ap (λ (l : List X). y ∷ l) (take_more xs n x at)

take_fewer : {X : Type 0} (p : X → Bool) (n : ℕ) (xs : List X) → count_by p (take n xs) ≤ count_by p xs
take_fewer p zero xs = omega arith
take_fewer p (suc n) [] = omega arith
take_fewer p (suc n) (x ∷ xs) = omega (arith, count-cons p x (take n xs), count-cons p x xs, take_fewer p n xs)

-- how many of the first n nodes put the promise
abbrev putters : Run → ℕ → ℕ → ℕ
putters run q zero = 0
putters run q (suc n) = putters run q n + puts_it run q n

putters_none : (run : Run) (q u n : ℕ) → putter_of run.plan.promises q ≡ Some u → n ≤ u → putters run q n ≡ 0
putters_none run q u zero by past = refl
putters_none run q u (suc n) by past =
    let rest = putters_none run q u n by (omega arith) in
    let here = bit_no (is_number n (putter_of run.plan.promises q)) (other_number n u (putter_of run.plan.promises q) by (λ same. omega arith)) in
    omega arith

putters_one : (run : Run) (q u n : ℕ) → putter_of run.plan.promises q ≡ Some u → u < n → putters run q n ≡ 1
putters_one run q u zero by below = absurd (omega arith)
putters_one run q u (suc n) by below = elim (cases_lt u n) [
  | inl earlier ↦
      let rest = putters_one run q u n by earlier in
      let here = bit_no (is_number n (putter_of run.plan.promises q)) (other_number n u (putter_of run.plan.promises q) by (λ same. omega arith)) in
      omega arith
  | inr last ↦
      let same : u ≡ n = omega arith in
      let rest = putters_none run q u n by (omega arith) in
      let here = bit_yes (is_number n (putter_of run.plan.promises q)) (some_is_number n (putter_of run.plan.promises q) (by ∙ ap Some same)) in
      omega arith
]

node_below : (run : Run) (v : ℕ) → v < length run.plan.nodes → (node : Node) × (slice_get run.plan.nodes v ≡ Some node)
node_below run v below = elim (slice_get_cases run.plan.nodes v).1 [
  | inl there ↦ let (node, within, is, same) = there in (node, is)
  | inr past ↦ absurd (let a = past.0 in omega arith)
]

awaiting_more : (run : Run) (q n : ℕ) (node : Node) → slice_get run.plan.nodes n ≡ Some node → awaiting (take (suc n) run.plan.nodes) q ≡ awaiting (take n run.plan.nodes) q + cond (is_in q node.awaits) 1 0
awaiting_more run q n node is =
    ap (λ (l : List Node). awaiting l q) (take_more run.plan.nodes n node is)
    ∙ count-append (λ x. is_in q x.awaits) (take n run.plan.nodes) (node ∷ [])
    ∙ ap (λ (m : ℕ). awaiting (take n run.plan.nodes) q + m) (count-cons (λ x. is_in q x.awaits) node [] ∙ omega arith)

more_releases : (run : Run) (q n : ℕ) → times (is_release q) (events_below run (suc n)) ≡ times (is_release q) (events_below run n) + times (is_release q) (own_events run n)
more_releases run q n = ap (times (is_release q)) (events_below-suc run n) ∙ count-append (is_release q) (events_below run n) (own_events run n)

below_most : (run : Run) → IsLawfulPlan run.plan → (q n : ℕ) → n ≤ length run.plan.nodes → times (is_release q) (events_below run n) ≤ awaiting (take n run.plan.nodes) q + putters run q n
below_most run lawful q zero within = let a = ap (times (is_release q)) (events_below-zero run) in omega arith
below_most run lawful q (suc n) within =
    let (node, is) = node_below run n (omega arith) in
    let rest = below_most run lawful q n (omega arith) in
    let here = own_releases_most run lawful n node is q in
    omega (arith, more_releases run q n, awaiting_more run q n node is)

putters_few : (run : Run) (q n : ℕ) → putters run q n ≤ 1
putters_few run q n = by (putter_of run.plan.promises q) refl
  where
    nobody : (n : ℕ) → putter_of run.plan.promises q ≡ None → putters run q n ≡ 0
    nobody zero is = refl
    nobody (suc n) is =
        let rest = nobody n is in
        let here = bit_no (is_number n (putter_of run.plan.promises q)) (ap (is_number n) is) in
        omega arith

    by : (o : Option ℕ) → putter_of run.plan.promises q ≡ o → putters run q n ≤ 1
    by None is = let a = nobody n is in omega arith
    by (Some u) is = elim (cases_lt u n) [
      | inl earlier ↦ let a = putters_one run q u n is earlier in omega arith
      | inr later ↦ let a = putters_none run q u n is later in omega arith
    ]

-- a node that awaits a promise has an edge that carries it
start_carries : (ps : List PlannedPromise) (v q : ℕ) (node : Node) → cond (is_in q node.awaits) 1 0 ≤ carrying (start_edges ps v node) q
start_carries ps v q node =
    let both = count-append (λ (e : Edge). is_number q e.promise) (map (await_edge ps v) node.awaits) (map (order_edge v) (option_to_list node.group)) in
    let awaits = count-map (λ (e : Edge). is_number q e.promise) (await_edge ps v) node.awaits in
    let some1 = among_some node.awaits q in
    omega arith

kind_carries : (shapes : List Shape) (ps : List PlannedPromise) (v q : ℕ) (node : Node) (k : Kind) → IsLawfulKind shapes ps node k → cond (is_in q node.awaits) 1 0 ≤ carrying (edges_into_kind ps v node k) q
kind_carries shapes ps v q node Task lawful = start_carries ps v q node
kind_carries shapes ps v q node Group lawful = start_carries ps v q node
kind_carries shapes ps v q node Scope lawful =
    let none = bit_no (is_in q node.awaits) (ap (λ (l : List ℕ). is_in q l) lawful.awaits) in
    omega arith

edges_carry : (shapes : List Shape) (ps : List PlannedPromise) (q v : ℕ) (ns : List Node) → ((i : ℕ) (node : Node) → slice_get ns i ≡ Some node → IsLawfulKind shapes ps node node.kind) → awaiting ns q ≤ carrying (edges_from ps v ns) q
edges_carry shapes ps q v [] lawful = omega arith
edges_carry shapes ps q v (node ∷ ns) lawful =
    let here = kind_carries shapes ps v q node node.kind (lawful 0 node refl) in
    let rest = edges_carry shapes ps q (v + 1) ns (λ i other at. lawful (suc i) other at) in
    omega (arith, count-cons (λ (n : Node). is_in q n.awaits) node ns, count-append (λ (e : Edge). is_number q e.promise) (edges_into ps v node) (edges_from ps (v + 1) ns))

references-is : (plan : PlanData) (q : ℕ) (p : PlannedPromise) → slice_get plan.promises q ≡ Some p → references_of plan q ≡ references plan q p
unfolding references_of
references-is plan q p at = ap (references_if plan q) at

references_carry : (run : Run) → IsLawfulPlan run.plan → (q : ℕ) (p : PlannedPromise) → slice_get run.plan.promises q ≡ Some p → 1 + awaiting run.plan.nodes q + cond (is_shown p) 1 0 ≤ references_of run.plan q
references_carry run lawful q p at =
    let edges = edges_carry (shapes_in run.plan) run.plan.promises q 0 run.plan.nodes (λ i node is. (lawful.parts.nodes i node is).kind) in
    let same = ap (λ (l : List Edge). carrying l q) lawful.edges in
    omega (arith, references-is run.plan q p at)

promise_there : (ps : List PlannedPromise) (q : ℕ) → q < length ps → (p : PlannedPromise) × (slice_get ps q ≡ Some p)
promise_there ps q within = elim (slice_get_cases ps q).1 [
  | inl there ↦ (there.0, there.2)
  | inr past ↦ let a : length ps ≤ q = past.0 in absurd (omega arith)
]

awaited_left : (run : Run) → IsLawfulPlan run.plan → (q v : ℕ) (node : Node) → slice_get run.plan.nodes v ≡ Some node → is_in q node.awaits ≡ true → times (is_release q) (events_below run v) < references_of run.plan q
awaited_left run lawful q v node is among =
    let within = slice_get_within run.plan.nodes v node is in
    let known = awaits_known run.plan v node.awaits (lawful.parts.nodes v node is).awaited in
    let here : q < length run.plan.promises = among_keeps node.awaits known among in
    let (p, at) = promise_there run.plan.promises q here in
    let most = below_most run lawful q v (omega arith) in
    let one = bit_yes (is_in q node.awaits) among in
    omega (arith, references_carry run lawful q p at, putters_few run q v, awaiting_more run q v node is, take_fewer (λ (n : Node). is_in q n.awaits) (suc v) run.plan.nodes)
  where
    among_keeps : (awaits : List ℕ) → AllByRecursion (λ x. x < length run.plan.promises) awaits → is_in q awaits ≡ true → q < length run.plan.promises
    among_keeps awaits all some1 = all_often (λ x. x < length run.plan.promises) awaits q all (let a = among_some awaits q in let b = bit_yes (is_in q awaits) some1 in omega arith)

shown_left : (run : Run) → IsLawfulPlan run.plan → (q : ℕ) → is_shown_at run.plan q ≡ true → times (is_release q) (events_below run (length run.plan.nodes)) < references_of run.plan q
shown_left run lawful q shown = by (slice_get run.plan.promises q) refl
  where
    by : (o : Option PlannedPromise) → slice_get run.plan.promises q ≡ o → times (is_release q) (events_below run (length run.plan.nodes)) < references_of run.plan q
    by None at = absurd (false≢true (ap shown_if (sym at) ∙ shown))
    by (Some p) at =
        let one = bit_yes (is_shown p) (ap shown_if (sym at) ∙ shown) in
        let most = below_most run lawful q (length run.plan.nodes) (omega arith) in
        omega (arith, references_carry run lawful q p at, putters_few run q (length run.plan.nodes), take_fewer (λ (n : Node). is_in q n.awaits) (length run.plan.nodes) run.plan.nodes)

pub references_are_left : ReferencesAreLeft
references_are_left run lawful q = record { awaited = awaited_left run lawful q; shown = shown_left run lawful q }
