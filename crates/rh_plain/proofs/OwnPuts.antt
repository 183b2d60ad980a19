-- A node puts to promises of its own alone.
use Rattle.std.proofs.Common.{◌≡◌, ◌≢◌, ℕ, suc, ◌+◌, ◌<◌, ◌≤◌, ◌==◌, List, [], ◌∷◌, true, false, cond, Option, Some, None, length, map, refl, arith, ap, sym, ◌∙◌, subst, inl, inr, eqb-true, eq-eqb, ne_eqb}
use Rattle.std.proofs.lemmas.Bool.{cases_Bool, cond-true, cond-false}
use Rattle.std.proofs.lemmas.List.Sums.{sum_by-cons}
use Rattle.std.proofs.lemmas.Option.{none-some, slice_get_cases}
use Rattle.std.specs.List.{AllByRecursion, find, slice_get}
use Rattle.std.specs.Option.{option_and_then, option_map}
use Rattle.rh_injector.specs.declared.faults.Strike.{Strike}
use Rattle.rh_rules.specs.declared.node.Node.{Node}
use Rattle.rh_rules.specs.declared.node.Kind.{Kind}
use Rattle.rh_rules.specs.declared.node.Kind.TheVariants.{Task, Group, Scope}
use Rattle.rh_rules.specs.declared.node.PlannedPromise.{PlannedPromise}
use Rattle.rh_rules.specs.Bodies.{promises_put}
use Rattle.rh_plan.specs.declared.made_put.MadePut.{MadePut}
use Rattle.rh_plan.specs.declared.outcome.Verdict.{Verdict}
use Rattle.rh_plan.specs.declared.outcome.Verdict.TheVariants.{Accepted, Corrected, Failed, Skipped, Opened, Closed, Ended}
use Rattle.rh_plan.specs.Plans.{PlanData, shapes_in}
use Rattle.rh_rules.specs.Lawful.{putter_of}
use Rattle.rh_plan.specs.Lawful.{IsLawfulPlan}
use Rattle.rh_rules.specs.Lawful.{IsLawfulKind}
use Rattle.rh_plan.specs.Buffers.{BufferData, words_put}
use Rattle.rh_plan.specs.Judging.{NodeResult}
use Rattle.rh_plan.specs.Results.{results, result_of_node}
use Rattle.rh_plan.specs.Followed.{often, FollowsSteps}
use Rattle.rh_plan.proofs.Followed.{accepted_buffers_follow_bodies}
use Rattle.rh_plain.specs.Runs.{made_by, puts_in, counts_put}

count-cons : (q x : ℕ) (xs : List ℕ) → often q (x ∷ xs) ≡ cond (x == q) 1 0 + often q xs
count-cons q x xs = sum_by-cons (λ y. cond (y == q) 1 0) x xs

count_yes : (q x : ℕ) (xs : List ℕ) → (x == q) ≡ true → often q (x ∷ xs) ≡ suc (often q xs)
count_yes q x xs here = count-cons q x xs ∙ ap (λ (n : ℕ). n + often q xs) (cond-true (x == q) 1 0 here) ∙ omega arith

count_no : (q x : ℕ) (xs : List ℕ) → (x == q) ≡ false → often q (x ∷ xs) ≡ often q xs
count_no q x xs other = count-cons q x xs ∙ ap (λ (n : ℕ). n + often q xs) (cond-false (x == q) 1 0 other) ∙ omega arith

all_often : (P : ℕ → Type 0) (ys : List ℕ) (q : ℕ) → AllByRecursion P ys → 1 ≤ often q ys → P q
all_often P [] q all some1 = absurd (omega arith)
all_often P (y ∷ ys) q all some1 = elim (cases_Bool (y == q)) [
  | inl here ↦ subst P (eqb-true y q here) all.0
  | inr other ↦ let a = count_no q y ys other in all_often P ys q all.1 (omega arith)
]

-- what holds of the promises of a list holds of those of puts that are to no promise more often
all_put : (P : ℕ → Type 0) (ys : List ℕ) (puts : List MadePut) → ((q : ℕ) → often q (map (λ p. p.promise) puts) ≤ often q ys) → AllByRecursion P ys → AllByRecursion (λ p. P p.promise) puts
all_put P ys puts few all = each puts (λ q some1. all_often P ys q all (let a = few q in omega arith))
  where
    more : (q x : ℕ) (xs : List ℕ) → often q xs ≤ often q (x ∷ xs)
    more q x xs = elim (cases_Bool (x == q)) [
      | inl here ↦ let a = count_yes q x xs here in omega arith
      | inr other ↦ let a = count_no q x xs other in omega arith
    ]

    each : (puts : List MadePut) → ((q : ℕ) → 1 ≤ often q (map (λ p. p.promise) puts) → P q) → AllByRecursion (λ p. P p.promise) puts
    each [] h = tt
    each (p ∷ puts) h = (
      h p.promise (let a = count_yes p.promise p.promise (map (λ m. m.promise) puts) (eq-eqb p.promise p.promise refl) in omega arith),
      each puts (λ q some1. h q (let a = more q p.promise (map (λ m. m.promise) puts) in omega arith)),
    )

-- the body of a lawful node puts no promise more often than the node may
body_few : (plan : PlanData) (node : Node) (k : Kind) → IsLawfulKind (shapes_in plan) plan.promises node k → (q : ℕ) → often q (promises_put node.body) ≤ often q node.puts
body_few plan node Task lawful q = let a = ap (often q) lawful.puts in omega arith
body_few plan node Group lawful q = let a = ap (λ b. often q (promises_put b)) lawful.bodiless.body in omega arith
body_few plan node Scope lawful q = let a = ap (λ b. often q (promises_put b)) lawful.bodiless.body in omega arith

abbrev pub AreOwn : PlanData → ℕ → List MadePut → Type 0
AreOwn plan v puts = AllByRecursion (λ p. putter_of plan.promises p.promise ≡ Some v) puts

accepted_own : (plan : PlanData) (v : ℕ) (node : Node) (accepted : Option BufferData) → AllByRecursion (λ q. putter_of plan.promises q ≡ Some v) node.puts → ((q : ℕ) → often q (promises_put node.body) ≤ often q node.puts) → ((b : BufferData) → accepted ≡ Some b → FollowsSteps node.body b) → AreOwn plan v (puts_in accepted)
accepted_own plan v node None own few follow = tt
accepted_own plan v node (Some b) own few follow = all_put (λ q. putter_of plan.promises q ≡ Some v) node.puts b.puts (λ q. let a = (follow b refl).puts q in let c = few q in omega arith) own

counts_own : (plan : PlanData) (v a f s : ℕ) (puts : List ℕ) → AllByRecursion (λ q. putter_of plan.promises q ≡ Some v) puts → AreOwn plan v (map (λ q. counts_put q a f s) puts)
counts_own plan v a f s [] own = tt
counts_own plan v a f s (q ∷ puts) own = (own.0, counts_own plan v a f s puts own.1)

made_own : (plan : PlanData) (v : ℕ) (node : Node) (verdict : Verdict) (accepted : Option BufferData) → AllByRecursion (λ q. putter_of plan.promises q ≡ Some v) node.puts → AreOwn plan v (puts_in accepted) → AreOwn plan v (made_by node.puts verdict accepted)
made_own plan v node (Accepted k) accepted own buffer = buffer
made_own plan v node (Corrected i) accepted own buffer = buffer
made_own plan v node (Ended a f s) accepted own buffer = counts_own plan v a f s node.puts own
made_own plan v node Failed accepted own buffer = tt
made_own plan v node (Skipped c) accepted own buffer = tt
made_own plan v node Opened accepted own buffer = tt
made_own plan v node (Closed c) accepted own buffer = tt

-- A node puts to promises of which it is the putter.
pub puts_own : (plan : PlanData) (faults : List Strike) (v : ℕ) (node : Node) → IsLawfulPlan plan → slice_get plan.nodes v ≡ Some node → (r : NodeResult) → r ≡ result_of_node plan faults (results plan faults v) v node → AreOwn plan v (made_by node.puts r.verdict r.accepted)
puts_own plan faults v node lawful at r is =
    let one = lawful.parts.nodes v node at in
    made_own plan v node r.verdict r.accepted one.own
    (accepted_own plan v node r.accepted one.own (body_few plan node node.kind one.kind) (λ b accepted. accepted_buffers_follow_bodies plan faults v node b (sym (ap (λ (x : NodeResult). x.accepted) is) ∙ accepted)))

pub putter_known : (plan : PlanData) (q u : ℕ) → putter_of plan.promises q ≡ Some u → q < length plan.promises
putter_known plan q u by = elim (slice_get_cases plan.promises q).1 [
  | inl there ↦ there.1
  | inr past ↦ absurd (none-some u (ap (λ (o : Option PlannedPromise). option_and_then (λ p. p.putter) o) (sym past.1) ∙ by))
]

-- the promises of own puts are there
pub own_known : (plan : PlanData) (v n : ℕ) (puts : List MadePut) → n ≡ length plan.promises → AreOwn plan v puts → AllByRecursion (λ p. p.promise < n) puts
own_known plan v n [] is own = tt
own_known plan v n (p ∷ puts) is own = (let a = putter_known plan p.promise v own.0 in omega arith, own_known plan v n puts is own.1)

-- nothing is put to a promise of another putter
pub other_put : (plan : PlanData) (v q : ℕ) (puts : List MadePut) → AreOwn plan v puts → (putter_of plan.promises q ≡ Some v → ⊥) → words_put q puts ≡ None
other_put plan v q [] own other = refl
other_put plan v q (p ∷ puts) own other =
    let differs : p.promise ≢ q = λ same. other (sym (ap (putter_of plan.promises) same) ∙ own.0) in
    ap (λ (o : Option MadePut). option_map (λ (m : MadePut). m.words) o) (cond-false (p.promise == q) (Some p) (find (λ m. m.promise == q) puts) (ne_eqb p.promise q differs))
    ∙ other_put plan v q puts own.1 other
