-- The edges of the nodes, one node after another.
use Rattle.std.proofs.Common.{◌≡◌, ℕ, suc, ◌+◌, ◌<◌, ◌≤◌, List, [], ◌∷◌, ◌++◌, length, get_or, drop, drop-cons, map, take, ap, sym, ◌∙◌, arith, append_assoc}
use Rattle.std.proofs.lemmas.List.{take_more, take_all, map-append}
use Rattle.rh_rules.specs.declared.node.Node.{Node}
use Rattle.rh_rules.specs.declared.node.PlannedPromise.{PlannedPromise}
use Rattle.rh_plan.specs.declared.edge.Edge.{Edge}
use Rattle.rh_plan.specs.Plans.{edges_into, edges_from}

-- one node more
pub edges_next : (promises : List PlannedPromise) (nodes : List Node) (to : ℕ) (node d : Node) (old new whole : List Edge) → to < length nodes → node ≡ get_or nodes to d → new ≡ old ++ edges_into promises to node → old ++ edges_from promises to (drop to nodes) ≡ whole
    → new ++ edges_from promises (to + 1) (drop (to + 1) nodes) ≡ whole
edges_next promises nodes to node d old new whole within is made so_far =
    let more : suc to ≡ to + 1 = omega arith in
    let front : drop to nodes ≡ node ∷ drop (to + 1) nodes = drop-cons nodes to d within ∙ ap (λ (n : Node). n ∷ drop (suc to) nodes) (sym is) ∙ ap (λ (j : ℕ). node ∷ drop j nodes) more in
    ap (λ (l : List Edge). l ++ edges_from promises (to + 1) (drop (to + 1) nodes)) made
    ∙ append_assoc old (edges_into promises to node) (edges_from promises (to + 1) (drop (to + 1) nodes))
    ∙ ap (λ (l : List Node). old ++ edges_from promises to l) (sym front)
    ∙ so_far

-- one element more of a list that is made of another
pub pushed_more : {X Y : Type 0} (f : X → Y) (xs : List X) (i : ℕ) (d : X) (start old new : List Y) → i < length xs → new ≡ old ++ f (get_or xs i d) ∷ [] → old ≡ start ++ map f (take i xs) → new ≡ start ++ map f (take (i + 1) xs)
pushed_more {X = X} {Y = Y} f xs i d start old new within made so_far =
    made
    ∙ ap (λ (l : List Y). l ++ f (get_or xs i d) ∷ []) so_far
    ∙ append_assoc start (map f (take i xs)) (f (get_or xs i d) ∷ [])
    ∙ ap (λ (l : List Y). start ++ l) (sym (ap (map f) (take_more xs i d within) ∙ map-append f (take i xs) (get_or xs i d ∷ [])))

-- all elements
pub pushed_all : {X Y : Type 0} (f : X → Y) (xs : List X) (i : ℕ) (start made : List Y) → length xs ≤ i → made ≡ start ++ map f (take i xs) → made ≡ start ++ map f xs
pushed_all {X = X} {Y = Y} f xs i start made past so_far = so_far ∙ ap (λ (l : List X). start ++ map f l) (take_all i xs past)
