-- Lists filtered, searched and read by place.
use Rattle.std.proofs.Common.{◌≡◌, ℕ, zero, suc, ◌+◌, ◌<◌, ◌≤◌, List, [], ◌∷◌, ◌++◌, Bool, true, false, cond, Some, length, map, take, drop, refl, arith, ap, sym, ◌∙◌, inl, inr, subst}
use Rattle.std.proofs.lemmas.Option.{none-some, same_Some}
use Rattle.std.proofs.lemmas.Bool.{cases_Bool, or_parts, cond-true, cond-false}
use Rattle.std.specs.List.{AllByRecursion, filter, find, list_any, slice_get, range_with_len}
use Rattle.std.proofs.Math.Seq.{take-append_seam}

pub filter_none : {X : Type 0} (p : X → Bool) (xs : List X) → list_any p xs ≡ false → filter p xs ≡ []
filter_none p [] none = refl
filter_none p (x ∷ xs) none =
    let (here, rest) = or_parts (p x) (list_any p xs) none in
    cond-false (p x) (x ∷ filter p xs) (filter p xs) here ∙ filter_none p xs rest

-- a test that less passes leaves no more
pub filter_fewer : {X : Type 0} (p q : X → Bool) (xs : List X) → ((x : X) → p x ≡ true → q x ≡ true) → length (filter p xs) ≤ length (filter q xs)
filter_fewer p q [] less = omega arith
filter_fewer p q (x ∷ xs) less = elim (cases_Bool (p x)) [
  | inl y1 ↦
      let rest = filter_fewer p q xs less in
      let there = less x y1 in
      let one : length (filter p (x ∷ xs)) ≡ suc (length (filter p xs)) = ap length (cond-true (p x) (x ∷ filter p xs) (filter p xs) y1) in
      let two : length (filter q (x ∷ xs)) ≡ suc (length (filter q xs)) = ap length (cond-true (q x) (x ∷ filter q xs) (filter q xs) there) in
      omega arith
  | inr n1 ↦
      let rest = filter_fewer p q xs less in
      let one : length (filter p (x ∷ xs)) ≡ length (filter p xs) = ap length (cond-false (p x) (x ∷ filter p xs) (filter p xs) n1) in
      elim (cases_Bool (q x)) [
        | inl y2 ↦ let two : length (filter q (x ∷ xs)) ≡ suc (length (filter q xs)) = ap length (cond-true (q x) (x ∷ filter q xs) (filter q xs) y2) in omega arith
        | inr n2 ↦ let two : length (filter q (x ∷ xs)) ≡ length (filter q xs) = ap length (cond-false (q x) (x ∷ filter q xs) (filter q xs) n2) in omega arith
      ]
]

pub length-filter-map : {X Y : Type 0} (p : Y → Bool) (f : X → Y) (xs : List X) → length (filter p (map f xs)) ≡ length (filter (λ x. p (f x)) xs)
length-filter-map p f [] = refl
length-filter-map p f (x ∷ xs) = elim (cases_Bool (p (f x))) [
  | inl y1 ↦ ap length (cond-true (p (f x)) (f x ∷ filter p (map f xs)) (filter p (map f xs)) y1) ∙ ap suc (length-filter-map p f xs) ∙ sym (ap length (cond-true (p (f x)) (x ∷ filter (λ x. p (f x)) xs) (filter (λ x. p (f x)) xs) y1))
  | inr n1 ↦ ap length (cond-false (p (f x)) (f x ∷ filter p (map f xs)) (filter p (map f xs)) n1) ∙ length-filter-map p f xs ∙ sym (ap length (cond-false (p (f x)) (x ∷ filter (λ x. p (f x)) xs) (filter (λ x. p (f x)) xs) n1))
]

-- an element that passes is there where a filter leaves one
pub filter_found : {X : Type 0} (p : X → Bool) (xs : List X) → 0 < length (filter p xs) → (i : ℕ) × (x : X) × (slice_get xs i ≡ Some x) × (p x ≡ true)
filter_found p [] some = absurd (omega arith)
filter_found p (x ∷ xs) some = elim (cases_Bool (p x)) [
  | inl y1 ↦ (0, x, refl, y1)
  | inr n1 ↦
      let same : length (filter p (x ∷ xs)) ≡ length (filter p xs) = ap length (cond-false (p x) (x ∷ filter p xs) (filter p xs) n1) in
      let (i, y, at, passes) = filter_found p xs (omega arith) in
      (suc i, y, at, passes)
]

pub filter_agree_on : {X : Type 0} (p q : X → Bool) (xs : List X) → AllByRecursion (λ x. p x ≡ q x) xs → filter p xs ≡ filter q xs
filter_agree_on {X = X} p q [] same = refl
filter_agree_on {X = X} p q (x ∷ xs) same =
    ap (λ (b : Bool). cond b (x ∷ filter p xs) (filter p xs)) same.0
    ∙ ap (λ (l : List X). cond (q x) (x ∷ l) l) (filter_agree_on p q xs same.1)

pub map_agree_on : {X Y : Type 0} (f g : X → Y) (xs : List X) → AllByRecursion (λ x. f x ≡ g x) xs → map f xs ≡ map g xs
map_agree_on {Y = Y} f g [] same = refl
map_agree_on {Y = Y} f g (x ∷ xs) same = ap (λ (y : Y). y ∷ map f xs) same.0 ∙ ap (λ (l : List Y). g x ∷ l) (map_agree_on f g xs same.1)

pub all_by : {X : Type 0} (P Q : X → Type 0) (xs : List X) → ((x : X) → P x → Q x) → AllByRecursion P xs → AllByRecursion Q xs
all_by P Q [] f all = tt
all_by P Q (x ∷ xs) f all = (f x all.0, all_by P Q xs f all.1)

pub all_get : {X : Type 0} (P : X → Type 0) (xs : List X) (i : ℕ) (x : X) → AllByRecursion P xs → slice_get xs i ≡ Some x → P x
all_get P [] i x all is = absurd (none-some x is)
all_get P (y ∷ xs) zero x all is = subst P (same_Some y x is) all.0
all_get P (y ∷ xs) (suc i) x all is = all_get P xs i x all.1 is

pub all_map : {X Y : Type 0} (P : Y → Type 0) (f : X → Y) (xs : List X) → AllByRecursion P (map f xs) → AllByRecursion (λ x. P (f x)) xs
all_map P f [] all = tt
all_map P f (x ∷ xs) all = (all.0, all_map P f xs all.1)

pub all_left : {X : Type 0} (P : X → Type 0) (xs ys : List X) → AllByRecursion P (xs ++ ys) → AllByRecursion P xs
all_left P [] ys all = tt
all_left P (x ∷ xs) ys all = (all.0, all_left P xs ys all.1)

pub all_right : {X : Type 0} (P : X → Type 0) (xs ys : List X) → AllByRecursion P (xs ++ ys) → AllByRecursion P ys
all_right P [] ys all = all
all_right P (x ∷ xs) ys all = all_right P xs ys all.1

pub slice_get_left : {X : Type 0} (xs ys : List X) (i : ℕ) (x : X) → slice_get xs i ≡ Some x → slice_get (xs ++ ys) i ≡ Some x
slice_get_left [] ys i x at = absurd (none-some x at)
slice_get_left (y ∷ xs) ys zero x at = at
slice_get_left (y ∷ xs) ys (suc i) x at = slice_get_left xs ys i x at

pub slice_get_last : {X : Type 0} (xs : List X) (x : X) (n : ℕ) → length xs ≡ n → slice_get (xs ++ x ∷ []) n ≡ Some x
slice_get_last [] x zero long = refl
slice_get_last [] x (suc n) long = absurd (omega arith)
slice_get_last (y ∷ xs) x zero long = absurd (omega arith)
slice_get_last (y ∷ xs) x (suc n) long = slice_get_last xs x n (omega arith)

pub slice_get_take : {X : Type 0} (n : ℕ) (xs : List X) (i : ℕ) (x : X) → slice_get (take n xs) i ≡ Some x → slice_get xs i ≡ Some x
slice_get_take zero xs i x at = absurd (none-some x at)
slice_get_take (suc n) [] i x at = absurd (none-some x at)
slice_get_take (suc n) (y ∷ xs) zero x at = at
slice_get_take (suc n) (y ∷ xs) (suc i) x at = slice_get_take n xs i x at

pub slice_get_map : {X Y : Type 0} (f : X → Y) (xs : List X) (i : ℕ) (x : X) → slice_get xs i ≡ Some x → slice_get (map f xs) i ≡ Some (f x)
slice_get_map f [] i x at = absurd (none-some x at)
slice_get_map f (y ∷ xs) zero x at = ap Some (ap f (same_Some y x at))
slice_get_map f (y ∷ xs) (suc i) x at = slice_get_map f xs i x at

pub slice_get_range : (a n i : ℕ) → i < n → slice_get (range_with_len a n) i ≡ Some (a + i)
slice_get_range a zero i below = absurd (omega arith)
slice_get_range a (suc n) zero below = ap Some (omega arith)
slice_get_range a (suc n) (suc i) below = slice_get_range (a + 1) n i (omega arith) ∙ ap Some (omega arith)

pub find_there : {X : Type 0} (p : X → Bool) (xs : List X) (i : ℕ) (x : X) → slice_get xs i ≡ Some x → p x ≡ true → (y : X) × (find p xs ≡ Some y) × (p y ≡ true)
find_there p [] i x at passes = absurd (none-some x at)
find_there p (y ∷ xs) zero x at passes =
    let y1 : p y ≡ true = ap p (same_Some y x at) ∙ passes in
    (y, cond-true (p y) (Some y) (find p xs) y1, y1)
find_there p (y ∷ xs) (suc i) x at passes = elim (cases_Bool (p y)) [
  | inl y1 ↦ (y, cond-true (p y) (Some y) (find p xs) y1, y1)
  | inr n1 ↦ let (z, found, good) = find_there p xs i x at passes in (z, cond-false (p y) (Some y) (find p xs) n1 ∙ found, good)
]

-- a vector whose whole slice is written
pub written_whole : {X : Type 0} (new old : List X) (n : ℕ) → n ≡ length new → take n (new ++ drop (length new) old) ≡ new
written_whole new old n whole = ap (λ (k : ℕ). take k (new ++ drop (length new) old)) whole ∙ take-append_seam new (drop (length new) old)
