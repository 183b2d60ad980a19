-- What stands at a place of a list whose first entry is a caller's own check.
use Rattle.std.proofs.Common.{◌≡◌, ◌≢◌, ℕ, zero, suc, ◌+◌, ◌-◌, ◌^◌, List, [], ◌∷◌, Some, length, take, min, refl, arith, ap, sym, ◌∙◌}
use Rattle.std.proofs.lemmas.List.{length-take}
use Rattle.std.proofs.lemmas.Option.{none-some, same_Some}
use Rattle.std.specs.List.{slice_get}
use Rattle.rh_check.specs.Users.{countable}

get_in_take : {X : Type 0} (n : ℕ) (xs : List X) (at : ℕ) (y : X) → slice_get (take n xs) at ≡ Some y → slice_get xs at ≡ Some y
get_in_take zero xs at y is = absurd (none-some y is)
get_in_take (suc n) [] at y is = absurd (none-some y is)
get_in_take (suc n) (x ∷ xs) zero y is = is
get_in_take (suc n) (x ∷ xs) (suc at) y is = get_in_take n xs at y is

countable_length : {X : Type 0} (xs : List X) → length (countable xs) ≡ min (2 ^ 32 - 1) (length xs)
unfolding countable
countable_length xs = length-take (2 ^ 32 - 1) xs

countable_get : {X : Type 0} (xs : List X) (at : ℕ) (y : X) → slice_get (countable xs) at ≡ Some y → slice_get xs at ≡ Some y
unfolding countable
countable_get xs at y is = get_in_take (2 ^ 32 - 1) xs at y is

one_more : (counted rest all result : ℕ) → counted ≡ min (2 ^ 32 - 1) all → all ≡ rest + 1 → result ≡ min (rest + 1) (2 ^ 32 - 1) → result ≡ counted
one_more counted rest all result is more count = omega (arith, is, more, count)

-- a list is counted as one more than its rest, as far as 32 bits count
pub counted : {X : Type 0} (x : X) (xs : List X) (rest result : ℕ) → rest ≡ length xs → result ≡ min (rest + 1) (2 ^ 32 - 1) → result ≡ length (countable (x ∷ xs))
counted x xs rest result is count =
    one_more (length (countable (x ∷ xs))) rest (length (x ∷ xs)) result (countable_length (x ∷ xs)) (omega (arith, is)) count

-- at the first place stands the first
pub first_stands : {X : Type 0} (x : X) (xs : List X) (at : ℕ) (y : X) → at ≡ 0 → slice_get (countable (x ∷ xs)) at ≡ Some y → x ≡ y
first_stands x xs at y zeroth is = same_Some x y (ap (λ (i : ℕ). slice_get (x ∷ xs) i) (sym zeroth) ∙ countable_get (x ∷ xs) at y is)

-- at each other place stands what stands one place before in the rest
pub rest_stands : {X : Type 0} (x : X) (xs : List X) (at : ℕ) (y : X) → at ≢ 0 → slice_get (countable (x ∷ xs)) at ≡ Some y → slice_get xs (at - 1) ≡ Some y
rest_stands x xs zero y other is = absurd (other refl)
rest_stands x xs (suc at) y other is =
    let before : suc at - 1 ≡ at = omega arith in
    ap (λ (i : ℕ). slice_get xs i) before ∙ countable_get (x ∷ xs) (suc at) y is
