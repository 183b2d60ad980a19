-- The first place of what passes a test.
use Rattle.std.proofs.Common.{◌≡◌, ℕ, ◌+◌, List, [], ◌∷◌, ◌++◌, Bool, true, false, cond, not, Option, Some, None, map, length, refl, ap, sym, ◌∙◌, arith, suc, ◌||◌}
use Rattle.std.specs.Prelude.{nat_lt}
use Rattle.std.specs.List.{position, position_or_len, list_any}
use Rattle.std.specs.Option.{option_map, is_some}
use Rattle.std.proofs.lemmas.Bool.Decides.{nat_tests}

abbrev pub next_place : Option ℕ → Option ℕ
next_place o = option_map (λ i. suc i) o

abbrev pub first_place : {X : Type 0} → (X → Bool) → List X → Option ℕ
first_place p [] = None
first_place p (x ∷ xs) = cond (p x) (Some 0) (next_place (first_place p xs))

-- the first of two places that is there
abbrev pub place_or : Option ℕ → Option ℕ → Option ℕ
place_or None o = o
place_or (Some i) o = Some i

counted_on : (q n : ℕ) → cond (nat_lt (1 + q) (suc n)) (Some (1 + q)) None ≡ next_place (cond (nat_lt q n) (Some q) None)
counted_on q n = grind (arith, nat_tests)

pub position-first : {X : Type 0} (p : X → Bool) (xs : List X) → position p xs ≡ first_place p xs
position-first p [] = refl
position-first p (x ∷ xs) =
    let n = position_or_len p xs in
    elim (p x) as (λ t. cond (nat_lt (cond (not t) (1 + n) 0) (length (x ∷ xs))) (Some (cond (not t) (1 + n) 0)) None ≡ cond t (Some 0) (next_place (first_place p xs))) [
      | true ↦ grind (arith, nat_tests)
      | false ↦ counted_on n (length xs) ∙ ap next_place (position-first p xs)
    ]

next_or : (t : Bool) (o : Option ℕ) (u : Bool) (n : ℕ) → cond t (Some 0) (next_place (place_or o (cond u (Some n) None))) ≡ place_or (cond t (Some 0) (next_place o)) (cond u (Some (suc n)) None)
next_or true o u n = refl
next_or false (Some i) u n = refl
next_or false None true n = refl
next_or false None false n = refl

first-push : {X : Type 0} (p : X → Bool) (xs : List X) (y : X) → first_place p (xs ++ y ∷ []) ≡ place_or (first_place p xs) (cond (p y) (Some (length xs)) None)
first-push p [] y = refl
first-push p (x ∷ xs) y = ap (λ o. cond (p x) (Some 0) (next_place o)) (first-push p xs y) ∙ next_or (p x) (first_place p xs) (p y) (length xs)

pub position_push : {X : Type 0} (p : X → Bool) (xs : List X) (y : X) → position p (xs ++ y ∷ []) ≡ place_or (position p xs) (cond (p y) (Some (length xs)) None)
position_push p xs y = position-first p (xs ++ y ∷ []) ∙ first-push p xs y ∙ ap (λ o. place_or o (cond (p y) (Some (length xs)) None)) (sym (position-first p xs))

some_next : (t : Bool) (o : Option ℕ) → is_some (cond t (Some 0) (next_place o)) ≡ (t || is_some o)
some_next true o = refl
some_next false None = refl
some_next false (Some i) = refl

some-first : {X : Type 0} (p : X → Bool) (xs : List X) → is_some (first_place p xs) ≡ list_any p xs
some-first p [] = refl
some-first p (x ∷ xs) = some_next (p x) (first_place p xs) ∙ ap (λ t. p x || t) (some-first p xs)

pub is_some_position : {X : Type 0} (p : X → Bool) (xs : List X) → is_some (position p xs) ≡ list_any p xs
is_some_position p xs = ap is_some (position-first p xs) ∙ some-first p xs

first-map : {X Y : Type 0} (f : X → Y) (p : Y → Bool) (xs : List X) → first_place p (map f xs) ≡ first_place (λ x. p (f x)) xs
first-map f p [] = refl
first-map f p (x ∷ xs) = ap (λ o. cond (p (f x)) (Some 0) (next_place o)) (first-map f p xs)

pub position_map : {X Y : Type 0} (f : X → Y) (p : Y → Bool) (xs : List X) → position p (map f xs) ≡ position (λ x. p (f x)) xs
position_map f p xs = position-first p (map f xs) ∙ first-map f p xs ∙ sym (position-first (λ x. p (f x)) xs)
