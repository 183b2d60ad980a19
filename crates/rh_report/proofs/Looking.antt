-- Which promises are a scope's own.
use Rattle.std.proofs.Common.{◌≡◌, ℕ, ◌<◌, ◌≤◌, List, ◌∷◌, [], Bool, true, false, not, zero, suc, Option, Some, None, length, refl, arith, ap, sym, ◌∙◌, subst, inl, inr}
use Rattle.std.proofs.lemmas.Bool.{cases_Bool, false≢true}
use Rattle.std.proofs.lemmas.Option.{none-some, same_Some, slice_get_cases, slice_get_within}
use Rattle.std.specs.List.{AllByRecursion, slice_get}
use Rattle.std.specs.Option.{IsSomeAnd, option_and_then}
use Rattle.rh_rules.specs.declared.node.Node.{Node}
use Rattle.rh_rules.specs.declared.node.Kind.{Kind}
use Rattle.rh_rules.specs.declared.node.Kind.TheVariants.{Scope}
use Rattle.rh_rules.specs.declared.node.PlannedPromise.{PlannedPromise}
use Rattle.rh_rules.specs.Lawful.{IsLawfulPromise, IsAmong, putter_of}
use Rattle.rh_plan.specs.Plans.{PlanData, OfNode}
use Rattle.rh_plan.specs.Lawful.{IsLawfulPlan}
use Rattle.rh_report.specs.PromiseLines.{is_declared, is_declared_at}

all_at : {X : Type 0} (P : X → Type 0) (xs : List X) (i : ℕ) (x : X) → AllByRecursion P xs → slice_get xs i ≡ Some x → P x
all_at P [] i x all is = absurd (none-some x is)
all_at P (y ∷ xs) zero x all is = subst P (same_Some y x is) all.0
all_at P (y ∷ xs) (suc i) x all is = all_at P xs i x all.1 is

promise_there : (plan : PlanData) (q : ℕ) → q < length plan.promises → (promise : PlannedPromise) × (slice_get plan.promises q ≡ Some promise)
promise_there plan q within = elim (slice_get_cases plan.promises q).1 [
  | inl there ↦ (there.0, there.2)
  | inr past ↦ let h : length plan.promises ≤ q = past.0 in absurd (omega arith)
]

some_there : (nodes : List Node) (q v : ℕ) (o : Option Node) → slice_get nodes v ≡ o → IsSomeAnd o (λ node. IsAmong node.puts q) → v < length nodes
some_there nodes q v None at some1 = absurd some1
some_there nodes q v (Some node) at some1 = slice_get_within nodes v node at

-- a putter is there
pub putter_there : (plan : PlanData) (q v : ℕ) → IsLawfulPlan plan → putter_of plan.promises q ≡ Some v → v < length plan.nodes
putter_there plan q v lawful by = some_there plan.nodes q v (slice_get plan.nodes v) refl (lawful.parts.put q v by)

-- whether the putter, where there is one, is a scope
scope_is : (plan : PlanData) (promise : PlannedPromise) → IsLawfulPromise plan.nodes promise → (b : Bool) → (IsSomeAnd (option_and_then (λ v. slice_get plan.nodes v) promise.putter) (λ node. node.kind ≡ Scope) → b ≡ false) → ((IsSomeAnd (option_and_then (λ v. slice_get plan.nodes v) promise.putter) (λ node. node.kind ≡ Scope) → ⊥) → b ≡ true) → b ≡ not promise.scope
scope_is plan promise lawful b yes1 no1 = elim (cases_Bool promise.scope) [
  | inl is ↦ yes1 (lawful.scope.0 is) ∙ sym (ap not is)
  | inr other ↦ no1 (λ scope. false≢true (sym other ∙ lawful.scope.1 scope)) ∙ sym (ap not other)
]

-- a promise that no node puts was declared
pub unput_declared : (plan : PlanData) (q : ℕ) → IsLawfulPlan plan → q < length plan.promises → putter_of plan.promises q ≡ None → true ≡ is_declared_at plan q
unput_declared plan q lawful within none =
    let (promise, at) = promise_there plan q within in
    let by : promise.putter ≡ None = sym (ap (λ (o : Option PlannedPromise). option_and_then (λ p. p.putter) o) at) ∙ none in
    let one = all_at (IsLawfulPromise plan.nodes) plan.promises q promise lawful.parts.promises at in
    let P : Option ℕ → Type 0 = λ o. IsSomeAnd (option_and_then (λ v. slice_get plan.nodes v) o) (λ node. node.kind ≡ Scope) in
    scope_is plan promise one true (λ scope. absurd (subst P by scope)) (λ never. refl) ∙ sym (ap is_declared at)

-- one that a node puts was declared where the node is no scope
pub put_declared : (plan : PlanData) (q v : ℕ) (kind : Kind) (b : Bool) → IsLawfulPlan plan → q < length plan.promises → putter_of plan.promises q ≡ Some v → OfNode plan v (λ node. kind ≡ node.kind) → (kind ≡ Scope → b ≡ false) → ((kind ≡ Scope → ⊥) → b ≡ true) → b ≡ is_declared_at plan q
put_declared plan q v kind b lawful within by kinds yes1 no1 =
    let (promise, at) = promise_there plan q within in
    let put : promise.putter ≡ Some v = sym (ap (λ (o : Option PlannedPromise). option_and_then (λ p. p.putter) o) at) ∙ by in
    let one = all_at (IsLawfulPromise plan.nodes) plan.promises q promise lawful.parts.promises at in
    let P : Option ℕ → Type 0 = λ o. IsSomeAnd (option_and_then (λ w. slice_get plan.nodes w) o) (λ node. node.kind ≡ Scope) in
    scope_is plan promise one b (λ scope. yes1 (scope_kind (slice_get plan.nodes v) refl (subst P put scope)))
    (λ never. no1 (λ is. never (subst P (sym put) (kind_scope (slice_get plan.nodes v) refl is)))) ∙ sym (ap is_declared at)
  where
    scope_kind : (o : Option Node) → slice_get plan.nodes v ≡ o → IsSomeAnd o (λ node. node.kind ≡ Scope) → kind ≡ Scope
    scope_kind None there some1 = absurd some1
    scope_kind (Some node) there some1 = kinds node there ∙ some1

    kind_scope : (o : Option Node) → slice_get plan.nodes v ≡ o → kind ≡ Scope → IsSomeAnd o (λ node. node.kind ≡ Scope)
    kind_scope None there is = absurd (none_there there)
      where
        none_there : slice_get plan.nodes v ≡ None → ⊥
        none_there gone =
            let inside = putter_there plan q v lawful by in
            elim (slice_get_cases plan.nodes v).1 [
              | inl found ↦ none-some found.0 (sym gone ∙ found.2)
              | inr past ↦ let h : length plan.nodes ≤ v = past.0 in absurd (omega arith)
            ]
    kind_scope (Some node) there is = sym (kinds node there) ∙ is
