-- How many releases of a promise there are.
use Rattle.std.proofs.Common.{◌≡◌, ℕ, ◌+◌, ◌≤◌, ◌==◌, ◌&&◌, List, [], ◌∷◌, ◌++◌, Bool, true, false, not, cond, Option, Some, None, map, refl, arith, ap, sym, ◌∙◌, inl, inr, subst}
use Rattle.std.proofs.lemmas.Bool.{cases_Bool, cases_lt, cond-false}
use Rattle.std.specs.List.{AllByRecursion, IsDistinct, filter, slice_get}
use Rattle.std.specs.Prelude.{nat_eq}
use Rattle.rh_rules.specs.declared.node.Node.{Node}
use Rattle.rh_rules.specs.declared.node.Kind.{Kind}
use Rattle.rh_rules.specs.declared.node.Kind.TheVariants.{Task, Group, Scope}
use Rattle.rh_plan.specs.declared.outcome.Trial.{Trial}
use Rattle.rh_plan.specs.Plans.{PlanData, shapes_in}
use Rattle.rh_rules.specs.Lawful.{putter_of}
use Rattle.rh_plan.specs.Lawful.{IsLawfulPlan}
use Rattle.rh_rules.specs.Lawful.{IsLawfulKind, IsAmong}
use Rattle.rh_plan.specs.Buffers.{BufferData}
use Rattle.rh_rules.specs.Bodies.{drops_of}
use Rattle.rh_plan.specs.Judging.{NodeResult}
use Rattle.rh_plan.specs.Derived.{is_number}
use Rattle.rh_plan.specs.Followed.{often, FollowsSteps}
use Rattle.rh_journal.specs.declared.event.Event.{Event}
use Rattle.rh_journal.specs.declared.event.Event.TheVariants.{Claim, Attempt, Put, Void, Release, Decide}
use Rattle.rh_journal.specs.Events.{is_release, times}
use Rattle.rh_rules.specs.Tables.{is_in}
use Rattle.rh_journal.specs.Own.{Run, attempts_from, drops_by, put_attempt, puts_by, voids_by, released_by, node_events, has_value, own_events}
use Rattle.rh_journal.proofs.Counts.{count-append, count-map, count-cons, count_any, bit_yes, bit_no, some_is_number}
use Rattle.rh_plan.proofs.Followed.{accepted_buffers_follow_bodies}
use Rattle.rh_journal.proofs.Owned.{row, own_there, puts_few, all_often}
use Rattle.rh_journal.proofs.Distinct.{distinct_once, among_once, often_filter}

no_attempts : (q v k : ℕ) (trials : List Trial) → times (is_release q) (attempts_from v k trials) ≡ 0
no_attempts q v k [] = refl
no_attempts q v k (t ∷ trials) = count-cons (is_release q) (Attempt v k t) (attempts_from v (k + 1) trials) ∙ omega (arith, no_attempts q v (k + 1) trials)

no_puts : (q k : ℕ) (xs : List ℕ) → times (is_release q) (map (λ p. Put p k) xs) ≡ 0
no_puts q k [] = refl
no_puts q k (x ∷ xs) = count-cons (is_release q) (Put x k) (map (λ p. Put p k) xs) ∙ omega (arith, no_puts q k xs)

no_voids : (q : ℕ) (xs : List ℕ) → times (is_release q) (map Void xs) ≡ 0
no_voids q [] = refl
no_voids q (x ∷ xs) = count-cons (is_release q) (Void x) (map Void xs) ∙ omega (arith, no_voids q xs)

-- the releases among the events of a node
pub node_releases : (q v : ℕ) (has : ℕ → Bool) (node : Node) (r : NodeResult) → times (is_release q) (node_events has v node r) ≡ often q (released_by has node r)
node_releases q v has node r =
    let f = is_release q in
    let ends : List Event = Decide v r.verdict ∷ [] in
    let releases : List Event = map (λ p. Release p (Some v)) (released_by has node r) in
    let voids : List Event = map Void (voids_by node r) in
    let puts : List Event = map (λ p. Put p (put_attempt r.verdict)) (puts_by node r) in
    let tries : List Event = attempts_from v 0 r.trials in
    let a = count-cons f (Claim v) (tries ++ (puts ++ (voids ++ (releases ++ ends)))) in
    let b = count-append f tries (puts ++ (voids ++ (releases ++ ends))) in
    let c = count-append f puts (voids ++ (releases ++ ends)) in
    let d = count-append f voids (releases ++ ends) in
    let e = count-append f releases ends in
    let g = count-map f (λ p. Release p (Some v)) (released_by has node r) in
    omega (arith, no_attempts q v 0 r.trials, no_puts q (put_attempt r.verdict) (puts_by node r), no_voids q (voids_by node r))

-- what a node releases of a promise that it awaits
released_parts : (q : ℕ) (has : ℕ → Bool) (node : Node) (r : NodeResult) → often q (released_by has node r)
    ≡ often q (drops_by r.accepted) + (cond (not (is_in q (drops_by r.accepted)) && has q) (often q node.awaits) 0 + often q (puts_by node r))
released_parts q has node r =
    let rest : List ℕ = filter (λ p. not (is_in p (drops_by r.accepted)) && has p) node.awaits in
    let a = count-append (λ p. p == q) (drops_by r.accepted) (rest ++ puts_by node r) in
    let b = count-append (λ p. p == q) rest (puts_by node r) in
    let c = often_filter q (λ p. not (is_in p (drops_by r.accepted)) && has p) node.awaits in
    omega arith

-- at most one of each awaited promise
awaits_most : (q : ℕ) (has : ℕ → Bool) (awaits drops : List ℕ) → IsDistinct nat_eq awaits → IsDistinct nat_eq drops → AllByRecursion (IsAmong awaits) drops
    → often q drops + cond (not (is_in q drops) && has q) (often q awaits) 0 ≤ cond (is_in q awaits) 1 0
awaits_most q has awaits drops once_awaited once_dropped among = elim (cases_Bool (is_in q drops)) [
  | inl yes1 ↦
      let few = distinct_once drops once_dropped q in
      let awaited : is_in q awaits ≡ true = all_often (IsAmong awaits) drops q among (count_any (λ p. p == q) drops yes1) in
      let one = bit_yes (is_in q awaits) awaited in
      let none : (not (is_in q drops) && has q) ≡ false = ap (λ (b : Bool). not b && has q) yes1 in
      let left = cond-false (not (is_in q drops) && has q) (often q awaits) 0 none in
      omega arith
  | inr no1 ↦
      let none = among_once drops once_dropped q in
      let zero1 = bit_no (is_in q drops) no1 in
      let few = among_once awaits once_awaited q in
      let left = less (not (is_in q drops) && has q) (often q awaits) in
      omega arith
]
  where
    less : (b : Bool) (n : ℕ) → cond b n 0 ≤ n
    less true n = omega arith
    less false n = omega arith

drops_lawful : (plan : PlanData) (node : Node) (o : Option BufferData) (k : Kind) → IsLawfulKind (shapes_in plan) plan.promises node k → ((b : BufferData) → o ≡ Some b → FollowsSteps node.body b) → IsDistinct nat_eq (drops_by o) × AllByRecursion (IsAmong node.awaits) (drops_by o)
unfolding IsDistinct
drops_lawful plan node None k lawful follow = (tt, tt)
drops_lawful plan node (Some b) Task lawful follow = (subst (IsDistinct nat_eq) (sym (follow b refl).drops) lawful.drops_once, subst (AllByRecursion (IsAmong node.awaits)) (sym (follow b refl).drops) lawful.dropped)
drops_lawful plan node (Some b) Group lawful follow =
    let none : b.drops ≡ [] = (follow b refl).drops ∙ ap (λ s. drops_of s) lawful.bodiless.body in
    (subst (IsDistinct nat_eq) (sym none) tt, subst (AllByRecursion (IsAmong node.awaits)) (sym none) tt)
drops_lawful plan node (Some b) Scope lawful follow =
    let none : b.drops ≡ [] = (follow b refl).drops ∙ ap (λ s. drops_of s) lawful.bodiless.body in
    (subst (IsDistinct nat_eq) (sym none) tt, subst (AllByRecursion (IsAmong node.awaits)) (sym none) tt)

-- whether the node is the putter, as a number
abbrev pub puts_it : Run → ℕ → ℕ → ℕ
puts_it run q v = cond (is_number v (putter_of run.plan.promises q)) 1 0

puts_most : (run : Run) → IsLawfulPlan run.plan → (v : ℕ) (node : Node) → slice_get run.plan.nodes v ≡ Some node → (q : ℕ) → often q (puts_by node (row run v node)) ≤ puts_it run q v
puts_most run lawful v node is q =
    let few = puts_few run lawful v node is q in
    let once = distinct_once node.puts (lawful.parts.nodes v node is).once q in
    elim (cases_lt (often q (puts_by node (row run v node))) 1) [
      | inl none ↦ omega arith
      | inr some1 ↦
          let by : putter_of run.plan.promises q ≡ Some v = all_often (λ p. putter_of run.plan.promises p ≡ Some v) node.puts q (lawful.parts.nodes v node is).own (omega arith) in
          let one = bit_yes (is_number v (putter_of run.plan.promises q)) (some_is_number v (putter_of run.plan.promises q) by) in
          omega arith
    ]

own_releases-is : (run : Run) (v : ℕ) (node : Node) → slice_get run.plan.nodes v ≡ Some node → (q : ℕ) → times (is_release q) (own_events run v) ≡ often q (released_by (has_value run) node (row run v node))
own_releases-is run v node is q = ap (times (is_release q)) (own_there run v node is) ∙ node_releases q v (has_value run) node (row run v node)

-- a node releases a promise at most once for its await and once for its put
pub own_releases_most : (run : Run) → IsLawfulPlan run.plan → (v : ℕ) (node : Node) → slice_get run.plan.nodes v ≡ Some node → (q : ℕ) → times (is_release q) (own_events run v) ≤ cond (is_in q node.awaits) 1 0 + puts_it run q v
own_releases_most run lawful v node is q =
    let r : NodeResult = row run v node in
    let drops = drops_lawful run.plan node r.accepted node.kind (lawful.parts.nodes v node is).kind (accepted_buffers_follow_bodies run.plan run.faults v node) in
    let awaits = awaits_most q (has_value run) node.awaits (drops_by r.accepted) (lawful.parts.nodes v node is).awaits_once drops.0 drops.1 in
    omega (arith, own_releases-is run v node is q, released_parts q (has_value run) node r, puts_most run lawful v node is q)
