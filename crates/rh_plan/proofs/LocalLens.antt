-- The lengths of the locals of a task, one after another.
use Rattle.std.proofs.Common.{◌≡◌, ℕ, zero, suc, unwrap_or, ◌+◌, ◌<◌, ◌≤◌, List, [], ◌∷◌, ◌++◌, Bool, true, false, cond, Option, Some, None, length, map, ap, sym, ◌∙◌, subst, arith, refl, get_or, drop, drop-cons}
use Rattle.std.specs.Option.{option_map}
use Rattle.std.proofs.lemmas.List.{get_or-map, get_or_past, length-map}
use Rattle.std.proofs.lemmas.Option.{slice_get_within, get_or_from_slice_get}
use Rattle.std.specs.Prelude.{slice_get, position}
use Rattle.std.specs.Str.{bytes_eq}
use Rattle.std.proofs.lemmas.Bool.{false≢true}
use Rattle.rh_words.specs.Naming.{is_name}
use Rattle.rh_rules.specs.declared.body.Step.{Step}
use Rattle.rh_rules.specs.declared.body.Step.TheVariants.{Lit, Gen, Add, Sub, Mul, Scale, Shift, Cut, Join, Sum, Count, Stencil1, Stencil2, Product, Put, DropAwait}
use Rattle.rh_rules.specs.declared.node.PlannedPromise.{PlannedPromise}
use Rattle.rh_sparse.specs.Matrix.{MatrixData}
use Rattle.rh_rules.specs.declared.shape.Shape.{Shape}
use Rattle.rh_rules.specs.Bodies.{shapes_of, rows_at, AreSoundSteps, IsSoundStep, lens_after, lens_after_all}
use Rattle.rh_rules.specs.declared.node.Node.{Node}
use Rattle.rh_rules.specs.Lawful.{names_at}
use Rattle.rh_tables.proofs.FirstPlaces.{place_or, first_place, next_place, position-first, position_map}
use Rattle.rh_plan.specs.FaultLines.{local_number}
use Rattle.rh_plan.specs.FaultTables.{IsShortJoin, name_at}

-- the parts of a `join` that is sound are short together
pub short_join : (shapes : List Shape) (promises lens : List ℕ) (step : Step) → IsSoundStep shapes promises lens step → IsShortJoin lens step
short_join shapes promises lens (Join parts) sound = sound.3
short_join shapes promises lens (Lit words) sound = tt
short_join shapes promises lens (Gen n start limit) sound = tt
short_join shapes promises lens (Add a b) sound = tt
short_join shapes promises lens (Sub a b) sound = tt
short_join shapes promises lens (Mul a b) sound = tt
short_join shapes promises lens (Scale a k) sound = tt
short_join shapes promises lens (Shift a s) sound = tt
short_join shapes promises lens (Cut a from len) sound = tt
short_join shapes promises lens (Sum a) sound = tt
short_join shapes promises lens (Count a) sound = tt
short_join shapes promises lens (Stencil1 l m r k s) sound = tt
short_join shapes promises lens (Stencil2 north south west east m cols k s) sound = tt
short_join shapes promises lens (Product matrix v) sound = tt
short_join shapes promises lens (Put promise local when) sound = tt
short_join shapes promises lens (DropAwait promise) sound = tt

-- what the loop over the steps keeps: the steps that are left make the lengths whole
pub record IsMeasuring (shapes : List Shape) (promises lens : List ℕ) (left : List Step) (whole : List ℕ) : Type 0 where
  pub made : lens_after_all shapes lens left ≡ whole
  pub sound : AreSoundSteps shapes promises lens left

-- the step in front of what is left
pub first_sound : (shapes : List Shape) (promises lens : List ℕ) (step : Step) (left rest : List Step) (whole : List ℕ) → left ≡ step ∷ rest → IsMeasuring shapes promises lens left whole → IsSoundStep shapes promises lens step × IsMeasuring shapes promises (lens_after shapes lens step) rest whole
first_sound shapes promises lens step left rest whole is measuring =
    let here = subst (λ (l : List Step). IsMeasuring shapes promises lens l whole) is measuring in
    (here.sound.0, record { made = here.made; sound = here.sound.1 })

-- the step of this number
pub next_sound : (shapes : List Shape) (promises lens : List ℕ) (steps items : List Step) (i : ℕ) (step d : Step) (whole : List ℕ) → items ≡ steps → i < length items → step ≡ get_or items i d → IsMeasuring shapes promises lens (drop i steps) whole
    → IsSoundStep shapes promises lens step × IsMeasuring shapes promises (lens_after shapes lens step) (drop (i + 1) steps) whole
next_sound shapes promises lens steps items i step d whole same within is measuring =
    let more : suc i ≡ i + 1 = omega arith in
    first_sound shapes promises lens step (drop i steps) (drop (i + 1) steps) whole
    (ap (drop i) (sym same) ∙ drop-cons items i d within ∙ ap (λ (s : Step). s ∷ drop (suc i) items) (sym is) ∙ ap (λ (j : ℕ). step ∷ drop j items) more ∙ ap (λ (l : List Step). step ∷ drop (i + 1) l) same)
    measuring

-- the name of a promise that is there, and of one that is not
pub named_there : (promises : List PlannedPromise) (q : ℕ) (p : PlannedPromise) (name : List ℕ) → slice_get promises q ≡ Some p → bytes_eq p.name name ≡ bytes_eq (name_at promises q) name
named_there promises q p name there =
    let within = slice_get_within promises q p there in
    ap (λ (n : List ℕ). bytes_eq n name) (sym (get_or-map (λ (x : PlannedPromise). x.name) promises q p [] within ∙ ap (λ (x : PlannedPromise). x.name) (get_or_from_slice_get promises q p p there)))

pub named_past : (promises : List PlannedPromise) (q : ℕ) (name : List ℕ) → length promises ≤ q → is_name name ≡ true → false ≡ bytes_eq (name_at promises q) name
named_past promises q [] past is = absurd (false≢true is)
named_past promises q (c ∷ cs) past is =
    let long : length (map (λ (x : PlannedPromise). x.name) promises) ≡ length promises = length-map promises (λ x. x.name) in
    ap (λ (n : List ℕ). bytes_eq n (c ∷ cs)) (sym (get_or_past (map (λ (x : PlannedPromise). x.name) promises) q [] (omega arith)))

-- the first place in two lists, one behind the other
next_or : (t : Bool) (o : Option ℕ) (b : Option ℕ) (n : ℕ) → cond t (Some 0) (next_place (place_or o (option_map (λ i. n + i) b))) ≡ place_or (cond t (Some 0) (next_place o)) (option_map (λ i. suc n + i) b)
next_or true o b n = refl
next_or false (Some i) b n = refl
next_or false None None n = refl
next_or false None (Some i) n = let e : suc (n + i) ≡ suc n + i = omega arith in ap Some e

none_before : (b : Option ℕ) → b ≡ option_map (λ i. 0 + i) b
none_before None = refl
none_before (Some i) = let e : i ≡ 0 + i = omega arith in ap Some e

first_append : {X : Type 0} (p : X → Bool) (xs ys : List X) → first_place p (xs ++ ys) ≡ place_or (first_place p xs) (option_map (λ i. length xs + i) (first_place p ys))
first_append p [] ys = none_before (first_place p ys)
first_append p (x ∷ xs) ys = ap (λ o. cond (p x) (Some 0) (next_place o)) (first_append p xs ys) ∙ next_or (p x) (first_place p xs) (first_place p ys) (length xs)

pub position_append : {X : Type 0} (p : X → Bool) (xs ys : List X) → position p (xs ++ ys) ≡ place_or (position p xs) (option_map (λ i. length xs + i) (position p ys))
position_append p xs ys =
    position-first p (xs ++ ys) ∙ first_append p xs ys
    ∙ ap (λ o. place_or o (option_map (λ i. length xs + i) (first_place p ys))) (sym (position-first p xs))
    ∙ ap (λ o. place_or (position p xs) (option_map (λ i. length xs + i) o)) (sym (position-first p ys))

-- the number of a local by the places of its await and of its `let`
pub local_found : (promises : List PlannedPromise) (node : Node) (name : List ℕ) (awaited made : Option ℕ) → awaited ≡ position (λ q. bytes_eq (name_at promises q) name) node.awaits → made ≡ position (λ n. bytes_eq n name) node.lets → place_or awaited (option_map (λ i. length node.awaits + i) made) ≡ local_number promises name node
local_found promises node name awaited made is_awaited is_made =
    let named = position_map (name_at promises) (λ n. bytes_eq n name) node.awaits in
    let long : length (names_at promises node.awaits) ≡ length node.awaits = length-map node.awaits (name_at promises) in
    ap (λ o. place_or o (option_map (λ i. length node.awaits + i) made)) (is_awaited ∙ sym named)
    ∙ ap (λ o. place_or (position (λ n. bytes_eq n name) (names_at promises node.awaits)) (option_map (λ i. length node.awaits + i) o)) is_made
    ∙ ap (λ k. place_or (position (λ n. bytes_eq n name) (names_at promises node.awaits)) (option_map (λ i. k + i) (position (λ n. bytes_eq n name) node.lets))) (sym long)
    ∙ sym (position_append (λ n. bytes_eq n name) (names_at promises node.awaits) node.lets)

-- the rows of a matrix by the shapes of all
pub rows_held : (matrices : List MatrixData) (at : ℕ) (rows : ℕ) → rows ≡ unwrap_or (option_map (λ a. length a.rows) (slice_get matrices at)) 0 → rows ≡ rows_at (shapes_of matrices) at
rows_held matrices at rows is = is ∙ in_list matrices at
  where
    in_list : (ms : List MatrixData) (i : ℕ) → unwrap_or (option_map (λ a. length a.rows) (slice_get ms i)) 0 ≡ rows_at (shapes_of ms) i
    in_list [] i = refl
    in_list (m ∷ ms) zero = refl
    in_list (m ∷ ms) (suc i) = in_list ms i
