-- The edges of lawful nodes go from lower numbers to higher ones, and they are few.
use Rattle.std.proofs.Common.{◌≡◌, ℕ, suc, ◌+◌, ◌*◌, ◌^◌, ◌<◌, ◌≤◌, List, [], ◌∷◌, ◌++◌, Option, Some, None, true, length, map, unwrap_or, option_to_list, nat_eq, refl, arith, sym, subst, length-append, inl, inr}
use Rattle.std.proofs.lemmas.List.{length-map}
use Rattle.std.proofs.lemmas.Bool.{false≢true, or_cases, eqb-true}
use Rattle.std.proofs.lemmas.Map.Steps.{length-le_from_distinct_below}
use Rattle.std.specs.List.{AllByRecursion, list_any, slice_get}
use Rattle.std.specs.Option.{IsSomeAnd}
use Rattle.rh_rules.specs.declared.node.Kind.{Kind}
use Rattle.rh_rules.specs.declared.node.Kind.TheVariants.{Task, Group, Scope}
use Rattle.rh_rules.specs.declared.node.Node.{Node}
use Rattle.rh_rules.specs.declared.node.PlannedPromise.{PlannedPromise}
use Rattle.rh_rules.specs.declared.shape.Shape.{Shape}
use Rattle.rh_rules.specs.Lawful.{AreLawful, IsLawfulNode, IsLawfulKind, IsEnclosedBelow, putter_of}
use Rattle.rh_plan.specs.Plans.{await_edge, order_edge, start_edges, edges_into_kind, edges_into, edges_from}
use Rattle.rh_plan.specs.Lawful.{IsForward}

all_append : {X : Type 0} (P : X → Type 0) (xs ys : List X) → AllByRecursion P xs → AllByRecursion P ys → AllByRecursion P (xs ++ ys)
all_append P [] ys a b = b
all_append P (x ∷ xs) ys a b = (a.0, all_append P xs ys a.1 b)

source_below : (v : ℕ) (o : Option ℕ) → IsSomeAnd o (λ u. u < v) → unwrap_or o 0 < v
source_below v None h = absurd h
source_below v (Some u) h = h

awaits_rise : (ps : List PlannedPromise) (n v : ℕ) → v < n → (awaits : List ℕ) → AllByRecursion (λ q. IsSomeAnd (putter_of ps q) (λ u. u < v)) awaits → AllByRecursion (IsForward n) (map (await_edge ps v) awaits)
awaits_rise ps n v within [] awaited = tt
awaits_rise ps n v within (q ∷ awaits) awaited = (record { rises = source_below v (putter_of ps q) awaited.0; within = within }, awaits_rise ps n v within awaits awaited.1)

orders_rise : (n v : ℕ) → v < n → (nodes : List ℕ) → AllByRecursion (λ u. u < v) nodes → AllByRecursion (IsForward n) (map (order_edge v) nodes)
orders_rise n v within [] below = tt
orders_rise n v within (u ∷ nodes) below = (record { rises = below.0; within = within }, orders_rise n v within nodes below.1)

group_rises : (ns : List Node) (n v : ℕ) → v < n → (g : Option ℕ) → IsEnclosedBelow ns v g → AllByRecursion (IsForward n) (map (order_edge v) (option_to_list g))
group_rises ns n v within None enclosed = tt
group_rises ns n v within (Some g) enclosed = (record { rises = enclosed.0; within = within }, tt)

kind_rises : (shapes : List Shape) (ps : List PlannedPromise) (ns : List Node) (n v : ℕ) (node : Node) → IsLawfulNode shapes ps ns v node → v < n → (k : Kind) → AllByRecursion (IsForward n) (edges_into_kind ps v node k)
kind_rises shapes ps ns n v node lawful within Task = all_append (IsForward n) (map (await_edge ps v) node.awaits) (map (order_edge v) (option_to_list node.group)) (awaits_rise ps n v within node.awaits lawful.awaited) (group_rises ns n v within node.group lawful.enclosed)
kind_rises shapes ps ns n v node lawful within Group = all_append (IsForward n) (map (await_edge ps v) node.awaits) (map (order_edge v) (option_to_list node.group)) (awaits_rise ps n v within node.awaits lawful.awaited) (group_rises ns n v within node.group lawful.enclosed)
kind_rises shapes ps ns n v node lawful within Scope = orders_rise n v within node.members lawful.members

-- the nodes from number v on are lawful
abbrev AreLawfulFrom : List Shape → List PlannedPromise → List Node → ℕ → List Node → Type 0
AreLawfulFrom shapes ps ns v nodes = (i : ℕ) (node : Node) → slice_get nodes i ≡ Some node → IsLawfulNode shapes ps ns (v + i) node

lawful_first : (shapes : List Shape) (ps : List PlannedPromise) (ns : List Node) (v : ℕ) (node : Node) (nodes : List Node) → AreLawfulFrom shapes ps ns v (node ∷ nodes) → IsLawfulNode shapes ps ns v node
lawful_first shapes ps ns v node nodes lawful = let at : v + 0 ≡ v = omega arith in subst (λ (w : ℕ). IsLawfulNode shapes ps ns w node) at (lawful 0 node refl)

lawful_rest : (shapes : List Shape) (ps : List PlannedPromise) (ns : List Node) (v : ℕ) (node : Node) (nodes : List Node) → AreLawfulFrom shapes ps ns v (node ∷ nodes) → AreLawfulFrom shapes ps ns (v + 1) nodes
lawful_rest shapes ps ns v node nodes lawful i other is = let at : v + suc i ≡ v + 1 + i = omega arith in subst (λ (w : ℕ). IsLawfulNode shapes ps ns w other) at (lawful (suc i) other is)

edges_rise_from : (shapes : List Shape) (ps : List PlannedPromise) (ns : List Node) (n v : ℕ) (nodes : List Node) → AreLawfulFrom shapes ps ns v nodes → v + length nodes ≤ n → AllByRecursion (IsForward n) (edges_from ps v nodes)
edges_rise_from shapes ps ns n v [] lawful within = tt
edges_rise_from shapes ps ns n v (node ∷ nodes) lawful within =
    all_append (IsForward n) (edges_into ps v node) (edges_from ps (v + 1) nodes)
    (kind_rises shapes ps ns n v node (lawful_first shapes ps ns v node nodes lawful) (omega arith) node.kind)
    (edges_rise_from shapes ps ns n (v + 1) nodes (lawful_rest shapes ps ns v node nodes lawful) (omega arith))

pub edges_rise : (shapes : List Shape) (ns : List Node) (ps : List PlannedPromise) → AreLawful shapes ns ps → AllByRecursion (IsForward (length ns)) (edges_from ps 0 ns)
edges_rise shapes ns ps lawful = edges_rise_from shapes ps ns (length ns) 0 ns (λ i node is. let at : i ≡ 0 + i = omega arith in subst (λ (w : ℕ). IsLawfulNode shapes ps ns w node) at (lawful.nodes i node is)) (omega arith)

-- a number that stands in a list of numbers below v is below v
among_below : (v : ℕ) (numbers : List ℕ) (q : ℕ) → AllByRecursion (λ u. u < v) numbers → list_any (nat_eq q) numbers ≡ true → q < v
among_below v [] q below among = absurd (false≢true among)
among_below v (u ∷ numbers) q below among = elim (or_cases (nat_eq q u) (list_any (nat_eq q) numbers) among) [
  | inl same ↦ subst (λ (w : ℕ). w < v) (sym (eqb-true q u same)) below.0
  | inr rest ↦ among_below v numbers q below.1 rest
]

group_few : (g : Option ℕ) (v : ℕ) → length (map (order_edge v) (option_to_list g)) ≤ 1
group_few None v = omega arith
group_few (Some g) v = omega arith

start_few : (shapes : List Shape) (ps : List PlannedPromise) (ns : List Node) (v : ℕ) (node : Node) → IsLawfulNode shapes ps ns v node → length (start_edges ps v node) ≤ 17
start_few shapes ps ns v node lawful =
    let both = length-append (map (await_edge ps v) node.awaits) (map (order_edge v) (option_to_list node.group)) in
    let awaits = length-map node.awaits (await_edge ps v) in
    let few = lawful.few_awaits in
    let group = group_few node.group v in
    omega arith

kind_few : (shapes : List Shape) (ps : List PlannedPromise) (ns : List Node) (v : ℕ) (node : Node) → IsLawfulNode shapes ps ns v node → v < 16384 → (k : Kind) → node.kind ≡ k → length (edges_into_kind ps v node k) ≤ 16401
kind_few shapes ps ns v node lawful within Task kind = let few = start_few shapes ps ns v node lawful in omega arith
kind_few shapes ps ns v node lawful within Group kind = let few = start_few shapes ps ns v node lawful in omega arith
kind_few shapes ps ns v node lawful within Scope kind =
    let scope = subst (IsLawfulKind shapes ps node) kind lawful.kind in
    let long = length-map node.members (order_edge v) in
    let few = length-le_from_distinct_below node.members v scope.members_once (λ q among. among_below v node.members q lawful.members among) in
    omega arith

edges_few_from : (shapes : List Shape) (ps : List PlannedPromise) (ns : List Node) (v : ℕ) (nodes : List Node) → AreLawfulFrom shapes ps ns v nodes → v + length nodes ≤ 16384 → length (edges_from ps v nodes) ≤ length nodes * 16401
edges_few_from shapes ps ns v [] lawful within = omega arith
edges_few_from shapes ps ns v (node ∷ nodes) lawful within =
    let here = kind_few shapes ps ns v node (lawful_first shapes ps ns v node nodes lawful) (omega arith) node.kind refl in
    let rest = edges_few_from shapes ps ns (v + 1) nodes (lawful_rest shapes ps ns v node nodes lawful) (omega arith) in
    let both = length-append (edges_into ps v node) (edges_from ps (v + 1) nodes) in
    omega arith

pub edges_few : (shapes : List Shape) (ns : List Node) (ps : List PlannedPromise) → AreLawful shapes ns ps → length (edges_from ps 0 ns) < 2 ^ 32
edges_few shapes ns ps lawful =
    let few_nodes : length ns ≤ 16384 = lawful.few_nodes in
    let few = edges_few_from shapes ps ns 0 ns (λ i node is. let at : i ≡ 0 + i = omega arith in subst (λ (w : ℕ). IsLawfulNode shapes ps ns w node) at (lawful.nodes i node is)) (omega arith) in
    omega arith
