-- Tasks found by name through one map.
use Rattle.std.proofs.Common.{◌≡◌, ℕ, ◌+◌, ◌<◌, ◌&&◌, List, [], ◌∷◌, ◌++◌, Bool, true, false, cond, Option, Some, None, length, map, take, get_or, refl, ap, sym, ◌∙◌, subst, arith}
use Rattle.std.specs.HashMap.{HashMap}
use Rattle.std.specs.List.{IsDistinct}
use Rattle.std.specs.Str.{bytes_eq}
use Rattle.std.proofs.lemmas.Bool.{false≢true, and_parts}
use Rattle.std.proofs.lemmas.List.{take_more, length-take-le, length-map, get_or-take, get_or-map}
use Rattle.std.proofs.lemmas.List.Quantifiers.{position-Some}
use Rattle.std.proofs.lemmas.Map.Keys.{apart_from_distinct}
use Rattle.std.proofs.lemmas.Slice.Eq.{bytes_eq-Decides}
use Rattle.rh_words.specs.Naming.{is_name}
use Rattle.rh_words.specs.NameKeys.{name_key, keys_eq}
use Rattle.rh_words.specs.declared.name_key.NameKey.{NameKey}
use Rattle.rh_words.specs.NameKeys.{KeysTellNames}
use Rattle.rh_tables.proofs.FirstPlaces.{place_or, position_push}
use Rattle.rh_rules.specs.declared.node.Node.{Node}
use Rattle.rh_rules.specs.Lawful.{is_task}
use Rattle.rh_plan.specs.FaultLines.{task_among}
use Rattle.rh_plan.specs.FaultTables.{number_known, IsTaskNoted, AreTasksNumbered}

found_first : (b : Bool) (n : ℕ) (o p : Option ℕ) → o ≡ p → (b ≡ true → p ≡ None) → cond b (Some n) o ≡ place_or p (cond b (Some n) None)
found_first true n o p is none = ap (λ q. place_or q (Some n)) (sym (none refl))
found_first false n o None is none = is
found_first false n o (Some i) is none = is

none_or : (o : Option ℕ) → ((i : ℕ) → o ≡ Some i → ⊥) → o ≡ None
none_or None never = refl
none_or (Some i) never = absurd (never i refl)

-- no task before it has the name of a node
first_of_name : (nodes : List Node) (at : ℕ) (d : Node) (name : List ℕ) → IsDistinct bytes_eq (map (λ node. node.name) nodes) → at < length nodes → (get_or nodes at d).name ≡ name → task_among (take at nodes) name ≡ None
first_of_name nodes at d name distinct within is = none_or (task_among (take at nodes) name) never
  where
    names : List (List ℕ)
    names = map (λ (n : Node). n.name) nodes

    named : (k : ℕ) → k < length nodes → get_or (map (λ (n : Node). n.name) nodes) k d.name ≡ (get_or nodes k d).name
    named k inside = get_or-map (λ (n : Node). n.name) nodes k d d.name inside

    never : (i : ℕ) → task_among (take at nodes) name ≡ Some i → ⊥
    never i e =
        let found = position-Some (λ (n : Node). is_task n.kind && bytes_eq n.name name) (take at nodes) i d e in
        let long : length (take at nodes) ≡ at = length-take-le at nodes (omega arith) in
        let below = found.0 in
        let low : i < at = omega arith in
        let same : bytes_eq (get_or nodes i d).name name ≡ true = subst (λ (n : Node). bytes_eq n.name name ≡ true) (get_or-take at nodes i d low) (and_parts (is_task (get_or (take at nodes) i d).kind) (bytes_eq (get_or (take at nodes) i d).name name) found.1).1 in
        let whole : length (map (λ (n : Node). n.name) nodes) ≡ length nodes = length-map nodes (λ (n : Node). n.name) in
        let apart = apart_from_distinct bytes_eq (map (λ (n : Node). n.name) nodes) i at d.name distinct low (omega arith) in
        let moved : bytes_eq (get_or nodes i d).name name ≡ false =
        ap (λ (n : List ℕ). bytes_eq n name) (sym (named i (omega arith)))
        ∙ ap (λ (n : List ℕ). bytes_eq (get_or (map (λ (n : Node). n.name) nodes) i d.name) n) (sym (named at within ∙ is))
        ∙ apart in
        false≢true (sym moved ∙ same)

-- one more node
pub numbered_more : {S : Type 0} → KeysTellNames → (old new : HashMap NameKey ℕ S) (nodes : List Node) (at : ℕ) (node : Node) → at < length nodes → node ≡ get_or nodes at node → is_name node.name ≡ true → IsDistinct bytes_eq (map (λ n. n.name) nodes) → AreTasksNumbered old (take at nodes) → IsTaskNoted old new node at → AreTasksNumbered new (take (at + 1) nodes)
numbered_more law old new nodes at node within is named distinct numbered noted name is_it =
    let key : keys_eq (name_key node.name) (name_key name) ≡ bytes_eq node.name name = law node.name name named is_it in
    let long : length (take at nodes) ≡ at = length-take-le at nodes (omega arith) in
    noted name
    ∙ ap (λ t. cond (is_task node.kind && t) (Some at) (number_known old name)) key
    ∙ found_first (is_task node.kind && bytes_eq node.name name) at (number_known old name) (task_among (take at nodes) name) (numbered name is_it)
    (λ e. first_of_name nodes at node name distinct within (ap (λ (n : Node). n.name) (sym is) ∙ (bytes_eq-Decides node.name name).0 (and_parts (is_task node.kind) (bytes_eq node.name name) e).1))
    ∙ ap (λ n. place_or (task_among (take at nodes) name) (cond (is_task node.kind && bytes_eq node.name name) (Some n) None)) (sym long)
    ∙ sym (position_push (λ n. is_task n.kind && bytes_eq n.name name) (take at nodes) node)
    ∙ ap (λ (l : List Node). task_among l name) (ap (λ (n : Node). take at nodes ++ n ∷ []) is ∙ sym (take_more nodes at node within))
