-- Lines without a reason name places, and two of them name one place exactly where they say the same.
use Rattle.std.proofs.Common.{◌≡◌, ◌≢◌, ℕ, ◌<◌, ◌==◌, ◌&&◌, Bool, true, false, cond, List, [], ◌∷◌, Option, Some, None, get_or, unwrap_or, refl, ap, sym, ◌∙◌, subst, arith}
use Rattle.std.specs.Prelude.{nat_le, nat_eq, is_none, position, slice_get, slice_index, option_and_then}
use Rattle.std.specs.Str.{bytes_eq}
use Rattle.std.proofs.lemmas.Bool.{false≢true, and_parts}
use Rattle.std.proofs.lemmas.Bool.Decides.{nat_tests}
use Rattle.std.proofs.lemmas.List.Quantifiers.{position-Some}
use Rattle.std.proofs.lemmas.Option.{slice_get-get_or, same_Some}
use Rattle.std.proofs.lemmas.Slice.Eq.{bytes_eq-Decides}
use Rattle.rh_injector.specs.declared.fault_text.FaultLine.{FaultLine}
use Rattle.rh_injector.specs.Faults.{has_place_of}
use Rattle.rh_rules.specs.declared.node.Node.{Node}
use Rattle.rh_rules.specs.Lawful.{is_task, local_lens, local_names}
use Rattle.rh_rules.specs.Tables.{if_any}
use Rattle.rh_plan.specs.Plans.{PlanData, shapes_in}
use Rattle.rh_plan.specs.Judging.{attempts_of}
use Rattle.rh_plan.specs.FaultLines.{task_number, task_of, local_number, local_of, is_unknown_task, is_bad_attempt, is_unknown_local, is_bad_word, is_zero_mask, is_same_place, is_fault_twice, fault_reason, strike_of}

-- The line names a place in the plan.
pub record IsPlaced (plan : PlanData) (f : FaultLine) : Type 0 where
  pub v : ℕ
  pub node : Node
  pub task : task_number plan f.task ≡ Some v
  pub there : slice_get plan.nodes v ≡ Some node
  pub attempt : f.attempt < attempts_of node.scheme
  pub i : ℕ
  pub local : local_number plan.promises f.local node ≡ Some i
  pub word : f.word < slice_index (local_lens (shapes_in plan) plan.promises node) i
  pub mask : f.mask ≢ 0

-- a rule that is kept leaves the ones behind it
pub next_rule : {R : Type 0} (b : Bool) (r : R) (rest : Option R) → cond b (Some r) rest ≡ None → (b ≡ false) × (rest ≡ None)
next_rule true r rest e = cc
next_rule false r rest e = (refl, e)

there_is : {X : Type 0} (o : Option X) → is_none o ≡ false → (x : X) × (o ≡ Some x)
there_is None e = cc
there_is (Some x) e = (x, refl)

-- what stands at the place of what passes a test
pub found_there : {X : Type 0} (p : X → Bool) (xs : List X) (i : ℕ) → position p xs ≡ Some i → (x : X) × (slice_get xs i ≡ Some x) × (p x ≡ true)
found_there p [] i e = cc
found_there p (x ∷ xs) i e =
    let at = position-Some p (x ∷ xs) i x e in
    (get_or (x ∷ xs) i x, slice_get-get_or (x ∷ xs) i x at.0, at.1)

-- a line without a reason names a place, which no line above names
pub placed : (plan : PlanData) (above : List FaultLine) (f : FaultLine) → fault_reason plan above f ≡ None → IsPlaced plan f × (is_fault_twice above f ≡ false)
placed plan above f e =
    let r1 = next_rule (is_unknown_task plan f) _ _ e in
    let r2 = next_rule (is_bad_attempt plan f) _ _ r1.1 in
    let r3 = next_rule (is_unknown_local plan f) _ _ r2.1 in
    let r4 = next_rule (is_bad_word plan f) _ _ r3.1 in
    let r5 = next_rule (is_zero_mask f) _ _ r4.1 in
    let r6 = next_rule (is_fault_twice above f) _ _ r5.1 in
    let (v, task) = there_is (task_number plan f.task) r1.0 in
    let (node, there, passes) = found_there _ plan.nodes v task in
    let is : task_of plan f ≡ Some node = ap (λ o. option_and_then (λ u. slice_get plan.nodes u) o) task ∙ there in
    let named : local_of plan f ≡ local_number plan.promises f.local node = ap (λ o. option_and_then (local_number plan.promises f.local) o) is in
    let (i, local) = there_is (local_number plan.promises f.local node) (ap is_none (sym named) ∙ r3.0) in
    let few : nat_le (attempts_of node.scheme) f.attempt ≡ false = ap (λ o. if_any (λ n. nat_le (attempts_of n.scheme) f.attempt) o) (sym is) ∙ r2.0 in
    let short : nat_le (slice_index (local_lens (shapes_in plan) plan.promises node) i) f.word ≡ false =
    ap (λ o. if_any (λ k. nat_le (slice_index (local_lens (shapes_in plan) plan.promises node) k) f.word) o) (sym (named ∙ local))
    ∙ ap (λ o. if_any (λ n. if_any (λ k. nat_le (slice_index (local_lens (shapes_in plan) plan.promises n) k) f.word) (local_of plan f)) o) (sym is)
    ∙ r4.0 in (
      record {
        v = v;
        node = node;
        task = task;
        there = there;
        attempt = grind (arith, nat_tests);
        i = i;
        local = local;
        word = grind (arith, nat_tests);
        mask = let zero = r5.0 in grind (arith, nat_tests);
      },
      r6.0,
    )

-- names at equal places are equal, and equal names have equal places
pub same_places : {X : Type 0} (name : X → List ℕ) (p : List ℕ → X → Bool) (xs : List X) (a b : List ℕ) (i j : ℕ) → ((n : List ℕ) (x : X) → p n x ≡ true → name x ≡ n) → position (p a) xs ≡ Some i → position (p b) xs ≡ Some j → (i == j) ≡ bytes_eq a b
same_places {X} name p xs a b i j tells first second = by (bytes_eq a b) (nat_eq i j) refl refl
  where
    by : (t u : Bool) → bytes_eq a b ≡ t → nat_eq i j ≡ u → nat_eq i j ≡ bytes_eq a b
    by true true h k = k ∙ sym h
    by false false h k = k ∙ sym h
    by true false h k =
        let same : a ≡ b = (bytes_eq-Decides a b).0 h in
        let moved : position (p a) xs ≡ Some j = subst (λ (n : List ℕ). position (p n) xs ≡ Some j) (sym same) second in
        let equal : i ≡ j = same_Some _ _ (sym first ∙ moved) in
        grind (arith, nat_tests)
    by false true h k =
        let equal : i ≡ j = grind (arith, nat_tests) in
        let (x, here, passes) = found_there (p a) xs i first in
        let (y, there, passes') = found_there (p b) xs j second in
        let one : x ≡ y = same_Some _ _ (sym here ∙ ap (slice_get xs) equal ∙ there) in
        let same : a ≡ b = sym (tells a x passes) ∙ ap name one ∙ tells b y passes' in
        absurd (false≢true (sym h ∙ (bytes_eq-Decides a b).1 same))

task_tells : (n : List ℕ) (node : Node) → (is_task node.kind && bytes_eq node.name n) ≡ true → node.name ≡ n
task_tells n node e = (bytes_eq-Decides node.name n).0 (and_parts (is_task node.kind) (bytes_eq node.name n) e).1

name_tells : (n x : List ℕ) → bytes_eq x n ≡ true → x ≡ n
name_tells n x e = (bytes_eq-Decides x n).0 e

-- two lines that name places name one place exactly where they say the same
pub same_place : (plan : PlanData) (g f : FaultLine) → IsPlaced plan g → IsPlaced plan f → has_place_of (strike_of plan g) (strike_of plan f) ≡ is_same_place g f
same_place plan g f a b = by (bytes_eq g.task f.task) refl
  where
    tasks : (a.v == b.v) ≡ bytes_eq g.task f.task
    tasks = same_places (λ node. node.name) (λ n node. is_task node.kind && bytes_eq node.name n) plan.nodes g.task f.task a.v b.v task_tells a.task b.task

    local_is : (h : FaultLine) (p : IsPlaced plan h) → local_of plan h ≡ Some p.i
    local_is h p =
        ap (λ o. option_and_then (local_number plan.promises h.local) (option_and_then (λ u. slice_get plan.nodes u) o)) p.task
        ∙ ap (λ o. option_and_then (local_number plan.promises h.local) o) p.there
        ∙ p.local

    by_numbers : Option ℕ → Option ℕ → Option ℕ → Option ℕ → Bool
    by_numbers v w i j = unwrap_or v 0 == unwrap_or w 0 && (g.attempt == f.attempt && (unwrap_or i 0 == unwrap_or j 0 && g.word == f.word))

    numbers : has_place_of (strike_of plan g) (strike_of plan f) ≡ (a.v == b.v && (g.attempt == f.attempt && (a.i == b.i && g.word == f.word)))
    numbers =
        ap (λ o. by_numbers o (task_number plan f.task) (local_of plan g) (local_of plan f)) a.task
        ∙ ap (λ o. by_numbers (Some a.v) o (local_of plan g) (local_of plan f)) b.task
        ∙ ap (λ o. by_numbers (Some a.v) (Some b.v) o (local_of plan f)) (local_is g a)
        ∙ ap (λ o. by_numbers (Some a.v) (Some b.v) (Some a.i) o) (local_is f b)

    locals : bytes_eq g.task f.task ≡ true → (a.i == b.i) ≡ bytes_eq g.local f.local
    locals same =
        let equal : a.v ≡ b.v = let t = tasks ∙ same in grind (arith, nat_tests) in
        let one : a.node ≡ b.node = same_Some _ _ (sym a.there ∙ ap (slice_get plan.nodes) equal ∙ b.there) in
        let moved : local_number plan.promises g.local b.node ≡ Some a.i = subst (λ (n : Node). local_number plan.promises g.local n ≡ Some a.i) one a.local in
        same_places (λ x. x) (λ n x. bytes_eq x n) (local_names plan.promises b.node) g.local f.local a.i b.i name_tells moved b.local

    by : (t : Bool) → bytes_eq g.task f.task ≡ t → has_place_of (strike_of plan g) (strike_of plan f) ≡ is_same_place g f
    by true same =
        numbers
        ∙ ap (λ t. t && (g.attempt == f.attempt && (a.i == b.i && g.word == f.word))) tasks
        ∙ ap (λ t. bytes_eq g.task f.task && (g.attempt == f.attempt && (t && g.word == f.word))) (locals same)
    by false other =
        numbers
        ∙ ap (λ t. t && (g.attempt == f.attempt && (a.i == b.i && g.word == f.word))) (tasks ∙ other)
        ∙ ap (λ t. t && (g.attempt == f.attempt && (bytes_eq g.local f.local && g.word == f.word))) (sym other)
