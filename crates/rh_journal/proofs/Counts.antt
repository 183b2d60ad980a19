-- Lists of events counted, filtered and split.
use Rattle.std.proofs.Common.{◌≡◌, ◌≢◌, ℕ, suc, ◌+◌, ◌≤◌, ◌||◌, List, [], ◌∷◌, ◌++◌, Bool, true, false, cond, Option, Some, None, map, refl, arith, ap, sym, ◌∙◌, inl, inr, subst, eqb-true, eq-eqb, ne_eqb}
use Rattle.std.proofs.lemmas.Bool.{cases_Bool, cond-true, cond-false, false≢true}
use Rattle.std.proofs.lemmas.List.Sums.{sum_by-append, sum_by-cons}
use Rattle.std.specs.List.{AllByRecursion, filter, count_by, list_any}
use Rattle.rh_plan.specs.Derived.{is_number}

pub all_append : {X : Type 0} (P : X → Type 0) (xs ys : List X) → AllByRecursion P xs → AllByRecursion P ys → AllByRecursion P (xs ++ ys)
all_append P [] ys left right = right
all_append P (x ∷ xs) ys left right = (left.0, all_append P xs ys left.1 right)

pub all_of_map : {X Y : Type 0} (P : Y → Type 0) (f : X → Y) (xs : List X) → AllByRecursion (λ x. P (f x)) xs → AllByRecursion P (map f xs)
all_of_map P f [] all = tt
all_of_map P f (x ∷ xs) all = (all.0, all_of_map P f xs all.1)

pub all_whatever : {X : Type 0} (P : X → Type 0) (xs : List X) → ((x : X) → P x) → AllByRecursion P xs
all_whatever P [] h = tt
all_whatever P (x ∷ xs) h = (h x, all_whatever P xs h)

pub all_filter : {X : Type 0} (P : X → Type 0) (p : X → Bool) (xs : List X) → AllByRecursion P xs → AllByRecursion P (filter p xs)
all_filter P p [] all = tt
all_filter P p (x ∷ xs) all = elim (cases_Bool (p x)) [
  | inl yes1 ↦ subst (AllByRecursion P) (sym (cond-true (p x) (x ∷ filter p xs) (filter p xs) yes1)) (all.0, all_filter P p xs all.1)
  | inr no1 ↦ subst (AllByRecursion P) (sym (cond-false (p x) (x ∷ filter p xs) (filter p xs) no1)) (all_filter P p xs all.1)
]

-- a filter that all pass, and one that none passes
pub filter_whole : {X : Type 0} (p : X → Bool) (xs : List X) → AllByRecursion (λ x. p x ≡ true) xs → filter p xs ≡ xs
filter_whole p [] all = refl
filter_whole {X = X} p (x ∷ xs) all = cond-true (p x) (x ∷ filter p xs) (filter p xs) all.0 ∙ ap (λ (l : List X). x ∷ l) (filter_whole p xs all.1)

pub filter_empty : {X : Type 0} (p : X → Bool) (xs : List X) → AllByRecursion (λ x. p x ≡ false) xs → filter p xs ≡ []
filter_empty p [] all = refl
filter_empty p (x ∷ xs) all = cond-false (p x) (x ∷ filter p xs) (filter p xs) all.0 ∙ filter_empty p xs all.1

-- a filter reads what a map gives
pub filter-map : {X Y : Type 0} (p : Y → Bool) (f : X → Y) (xs : List X) → filter p (map f xs) ≡ map f (filter (λ x. p (f x)) xs)
filter-map p f [] = refl
filter-map {Y = Y} p f (x ∷ xs) = elim (cases_Bool (p (f x))) [
  | inl yes1 ↦ cond-true (p (f x)) (f x ∷ filter p (map f xs)) (filter p (map f xs)) yes1 ∙ ap (λ (l : List Y). f x ∷ l) (filter-map p f xs) ∙ sym (ap (map f) (cond-true (p (f x)) (x ∷ filter (λ x. p (f x)) xs) (filter (λ x. p (f x)) xs) yes1))
  | inr no1 ↦ cond-false (p (f x)) (f x ∷ filter p (map f xs)) (filter p (map f xs)) no1 ∙ filter-map p f xs ∙ sym (ap (map f) (cond-false (p (f x)) (x ∷ filter (λ x. p (f x)) xs) (filter (λ x. p (f x)) xs) no1))
]

pub count-append : {X : Type 0} (p : X → Bool) (xs ys : List X) → count_by p (xs ++ ys) ≡ count_by p xs + count_by p ys
count-append p xs ys = sum_by-append (λ x. cond (p x) 1 0) xs ys

pub count-cons : {X : Type 0} (p : X → Bool) (x : X) (xs : List X) → count_by p (x ∷ xs) ≡ cond (p x) 1 0 + count_by p xs
count-cons p x xs = sum_by-cons (λ y. cond (p y) 1 0) x xs

pub count_yes : {X : Type 0} (p : X → Bool) (x : X) (xs : List X) → p x ≡ true → count_by p (x ∷ xs) ≡ suc (count_by p xs)
count_yes p x xs passes = count-cons p x xs ∙ ap (λ (n : ℕ). n + count_by p xs) (cond-true (p x) 1 0 passes) ∙ omega arith

pub count_no : {X : Type 0} (p : X → Bool) (x : X) (xs : List X) → p x ≡ false → count_by p (x ∷ xs) ≡ count_by p xs
count_no p x xs fails = count-cons p x xs ∙ ap (λ (n : ℕ). n + count_by p xs) (cond-false (p x) 1 0 fails) ∙ omega arith

pub count_none : {X : Type 0} (p : X → Bool) (xs : List X) → AllByRecursion (λ x. p x ≡ false) xs → count_by p xs ≡ 0
count_none p [] all = refl
count_none p (x ∷ xs) all = count_no p x xs all.0 ∙ count_none p xs all.1

pub count-map : {X Y : Type 0} (p : Y → Bool) (f : X → Y) (xs : List X) → count_by p (map f xs) ≡ count_by (λ x. p (f x)) xs
count-map p f [] = refl
count-map p f (x ∷ xs) = count-cons p (f x) (map f xs) ∙ ap (λ (n : ℕ). cond (p (f x)) 1 0 + n) (count-map p f xs) ∙ sym (count-cons (λ y. p (f y)) x xs)

pub bit : (b : Bool) → cond b 1 0 ≤ 1
bit true = omega arith
bit false = omega arith

pub bit_yes : (b : Bool) → b ≡ true → ◌≡◌ {A = ℕ} (cond b 1 0) 1
bit_yes b is = cond-true b 1 0 is

pub bit_no : (b : Bool) → b ≡ false → ◌≡◌ {A = ℕ} (cond b 1 0) 0
bit_no b is = cond-false b 1 0 is

-- an element that passes is counted
pub count_any : {X : Type 0} (p : X → Bool) (xs : List X) → list_any p xs ≡ true → 1 ≤ count_by p xs
count_any p [] is = absurd (false≢true is)
count_any p (x ∷ xs) is = elim (cases_Bool (p x)) [
  | inl yes1 ↦ let a = count_yes p x xs yes1 in omega arith
  | inr no1 ↦ let rest : list_any p xs ≡ true = ap (λ (b : Bool). b || list_any p xs) (sym no1) ∙ is in let a = count_any p xs rest in let b = count_no p x xs no1 in omega arith
]

pub any_count : {X : Type 0} (p : X → Bool) (xs : List X) → 1 ≤ count_by p xs → list_any p xs ≡ true
any_count p [] some1 = absurd (omega arith)
any_count p (x ∷ xs) some1 = elim (cases_Bool (p x)) [
  | inl yes1 ↦ ap (λ (b : Bool). b || list_any p xs) yes1
  | inr no1 ↦ let a = count_no p x xs no1 in ap (λ (b : Bool). b || list_any p xs) no1 ∙ any_count p xs (omega arith)
]

-- numbers named
pub is_number_some : (v : ℕ) (o : Option ℕ) → is_number v o ≡ true → o ≡ Some v
is_number_some v None is = absurd (false≢true is)
is_number_some v (Some w) is = ap Some (eqb-true w v is)

pub some_is_number : (v : ℕ) (o : Option ℕ) → o ≡ Some v → is_number v o ≡ true
some_is_number v o is = ap (is_number v) is ∙ eq-eqb v v refl

pub other_number : (v w : ℕ) (o : Option ℕ) → o ≡ Some w → w ≢ v → is_number v o ≡ false
other_number v w o is ne = ap (is_number v) is ∙ ne_eqb w v ne
