-- Which buffer the schemes accept.
use Rattle.std.proofs.Common.{◌≡◌, ℕ, zero, suc, ◌+◌, ◌*◌, ◌<◌, ◌≤◌, List, [], ◌∷◌, Bool, true, not, Option, Some, None, length, take, refl, arith, ap, sym, ◌∙◌, subst, inl, inr, ◌⊎◌}
use Rattle.std.proofs.lemmas.Option.{same_Some, slice_get-get_or, slice_get_within, get_or_from_slice_get}
use Rattle.std.proofs.lemmas.Bool.{false≢true, cases_Bool, cases_lt, ltb-true, lt-ltb, cond-true, cond-false}
use Rattle.std.proofs.lemmas.List.{take_all}
use Rattle.std.proofs.lemmas.List.Quantifiers.{position-Some}
use Rattle.std.proofs.lemmas.List.Sums.{passes_at_first, fails_before_first}
use Rattle.std.proofs.lemmas.List.Filters.{length-filter_both}
use Rattle.std.specs.List.{filter, slice_get, slice_index_or, position, position_or_len, range_with_len}
use Rattle.std.specs.Option.{is_some, is_none}
use Rattle.std.specs.Prelude.{nat_lt}
use Rattle.rh_plan.specs.Buffers.{BufferData}
use Rattle.rh_plan.specs.Judging.{NodeResult, are_same, majority, replicated, replicated_after, replicated_by, replica_accepted, replayed, replayed_after, corrected_to, checked_once, corrected}
use Rattle.rh_plan.specs.Results.{is_accepted}
use Rattle.rh_plan.proofs.Lists.{filter_fewer, filter_found, slice_get_range, find_there}
use Rattle.rh_plan.proofs.Sameness.{same_buffer, cases_buffer}

-- the result accepts this buffer
pub record Accepts (r : NodeResult) (b : BufferData) : Type 0 where
  pub accepted : is_accepted r.verdict ≡ true
  pub buffer : r.accepted ≡ Some b

-- where a test passes at a place, the first such place is not above it
pub position_there : {X : Type 0} (p : X → Bool) (xs : List X) (i : ℕ) (x : X) → slice_get xs i ≡ Some x → p x ≡ true → (j : ℕ) × (y : X) × (position p xs ≡ Some j) × (slice_get xs j ≡ Some y) × (p y ≡ true) × (j ≤ i)
position_there p xs i x at passes =
    let within = slice_get_within xs i x at in
    let first = position_or_len p xs in
    let low : first ≤ i = elim (cases_lt i first) [
      | inl before ↦
          let fails = fails_before_first p xs i x before in
          absurd (false≢true (sym fails ∙ ap p (get_or_from_slice_get xs i x x at) ∙ passes))
      | inr after ↦ after
    ] in
    let inside : first < length xs = omega arith in
    (first, slice_index_or xs first x, cond-true (nat_lt first (length xs)) (Some first) None (lt-ltb first (length xs) inside), slice_get-get_or xs first x inside, passes_at_first p xs x inside, low)

pub position_some : {X : Type 0} (p : X → Bool) (xs : List X) (i : ℕ) (x : X) → slice_get xs i ≡ Some x → p x ≡ true → is_some (position p xs) ≡ true
position_some p xs i x at passes = let found = position_there p xs i x at passes in ap is_some found.2

abbrev differs_from : BufferData → BufferData → Bool
differs_from b x = not (are_same b x)

-- More than m equal buffers among those of which at most m differ from b are equal to b.
majority_is : (m : ℕ) (made : List BufferData) (b c : BufferData) → length (filter (differs_from b) made) ≤ m → nat_lt m (length (filter (are_same c) made)) ≡ true → c ≡ b
majority_is m made b c few many = elim (cases_buffer b c) [
  | inl same ↦ sym same
  | inr other ↦
      let more = ltb-true m (length (filter (are_same c) made)) many in
      let fewer = filter_fewer (are_same c) (differs_from b) made (λ x is.
      elim (cases_Bool (are_same b x)) [
        | inl as_b ↦ absurd (other.1 (same_buffer b x as_b ∙ sym (same_buffer c x is)))
        | inr not_b ↦ ap not not_b
      ]) in
      absurd (omega arith)
]

-- where at most m of 2 m + 1 buffers differ from b, more than m are equal to it, and it is there
majority_there : (m : ℕ) (made : List BufferData) (b : BufferData) → length made ≡ 2 * m + 1 → length (filter (differs_from b) made) ≤ m → is_some (majority m made) ≡ true
majority_there m made b long few =
    let both = length-filter_both (are_same b) (differs_from b) (λ x. refl) made in
    let many : m < length (filter (are_same b) made) = omega arith in
    let (i, x, at, same) = filter_found (are_same b) made (omega arith) in
    let is_b : b ≡ x = same_buffer b x same in
    let enough : nat_lt m (length (filter (are_same x) made)) ≡ true = subst (λ (y : BufferData). nat_lt m (length (filter (are_same y) made)) ≡ true) is_b (lt-ltb m (length (filter (are_same b) made)) many) in
    position_some (λ c. nat_lt m (length (filter (are_same c) made))) made i x at enough

some_is : {X : Type 0} (o : Option X) → is_some o ≡ true → (x : X) × (o ≡ Some x)
some_is None is = absurd (false≢true is)
some_is (Some x) is = (x, refl)

filter_take : {X : Type 0} (p : X → Bool) (n : ℕ) (xs : List X) → length (filter p (take n xs)) ≤ length (filter p xs)
filter_take p zero xs = omega arith
filter_take p (suc n) [] = omega arith
filter_take p (suc n) (x ∷ xs) = let rest = filter_take p n xs in elim (cases_Bool (p x)) [
  | inl y1 ↦
      let one : length (filter p (x ∷ take n xs)) ≡ suc (length (filter p (take n xs))) = ap length (cond-true (p x) (x ∷ filter p (take n xs)) (filter p (take n xs)) y1) in
      let two : length (filter p (x ∷ xs)) ≡ suc (length (filter p xs)) = ap length (cond-true (p x) (x ∷ filter p xs) (filter p xs) y1) in
      omega arith
  | inr n1 ↦
      let one : length (filter p (x ∷ take n xs)) ≡ length (filter p (take n xs)) = ap length (cond-false (p x) (x ∷ filter p (take n xs)) (filter p (take n xs)) n1) in
      let two : length (filter p (x ∷ xs)) ≡ length (filter p xs) = ap length (cond-false (p x) (x ∷ filter p xs) (filter p xs) n1) in
      omega arith
]

-- the accepted replica
replica_is : (made : List BufferData) (j : ℕ) (b : BufferData) → slice_get made j ≡ Some b → Accepts (replica_accepted made j (slice_get made j)) b
replica_is made j b at = subst (λ (o : Option BufferData). Accepts (replica_accepted made j o) b) (sym at) (record { accepted = refl; buffer = refl })

-- a majority of these buffers is b
decided_is : (m : ℕ) (made : List BufferData) (b : BufferData) → length (filter (differs_from b) made) ≤ m → is_some (majority m made) ≡ true → Accepts (replicated_by made (majority m made)) b
decided_is m made b few there =
    let (j, is) = some_is (majority m made) there in
    let test = λ (c : BufferData). nat_lt m (length (filter (are_same c) made)) in
    let found = position-Some test made j b is in
    let at = slice_get-get_or made j b found.0 in
    let same = majority_is m made b (slice_index_or made j b) few found.1 in
    subst (λ (o : Option ℕ). Accepts (replicated_by made o) b) (sym is) (replica_is made j b (at ∙ ap Some same))

-- Where at most m of 2 m + 1 buffers differ from b, replication accepts b.
pub replicated_accepts : (m : ℕ) (made : List BufferData) (b : BufferData) → length made ≡ 2 * m + 1 → length (filter (λ x. not (are_same b x)) made) ≤ m → Accepts (replicated m made) b
unfolding replicated
replicated_accepts m made b long few =
    let test = λ (k : ℕ). is_some (majority m (take (k + 1) made)) in
    let all : take (2 * m + 1) made ≡ made = take_all (2 * m + 1) made (omega arith) in
    let last : test (2 * m) ≡ true = ap (λ (l : List BufferData). is_some (majority m l)) all ∙ majority_there m made b long few in
    let at : slice_get (range_with_len 0 (length made)) (2 * m) ≡ Some (2 * m) = slice_get_range 0 (length made) (2 * m) (omega arith) ∙ ap Some (omega arith) in
    let (k, found, there) = find_there test (range_with_len 0 (length made)) (2 * m) (2 * m) at last in
    let fewer = filter_take (differs_from b) (k + 1) made in
    subst (λ (o : Option ℕ). Accepts (replicated_after m made o) b) (sym found) (decided_is m (take (k + 1) made) b (omega arith) there)

none_is : {X : Type 0} (o : Option X) → is_none o ≡ true → is_some o ≡ true → ⊥
none_is None none some = false≢true some
none_is (Some x) none some = false≢true none

-- Where an attempt has the buffer b, which fails no check, and each attempt before it whose buffer is not b fails one, replay accepts b.
pub replayed_accepts : (failing : BufferData → Option ℕ) (made : List BufferData) (b : BufferData) (j : ℕ) → failing b ≡ None → slice_get made j ≡ Some b
    → ((k : ℕ) (x : BufferData) → k < j → slice_get made k ≡ Some x → (x ≡ b → ⊥) → is_some (failing x) ≡ true)
    → Accepts (replayed failing made) b
unfolding replayed
replayed_accepts failing made b j clean at refuses =
    let (i, x, found, is, passes, low) = position_there (λ y. is_none (failing y)) made j b at (ap is_none clean) in
    let same : x ≡ b = elim (cases_lt i j) [
      | inl before ↦ elim (cases_buffer x b) [
        | inl same ↦ same
        | inr other ↦ absurd (none_is (failing x) passes (refuses i x before is other.1))
      ]
      | inr after ↦ let e : i ≡ j = omega arith in same_Some x b (sym is ∙ ap (λ (n : ℕ). slice_get made n) e ∙ at)
    ] in
    subst (λ (o : Option ℕ). Accepts (replayed_after failing made o) b) (sym found) (record { accepted = refl; buffer = is ∙ ap Some same })

-- Where the one buffer is b, or fails a check and is corrected to b, and b fails none, the scheme with correction accepts b.
pub corrected_accepts : (failing : BufferData → Option ℕ) (correction : BufferData → Option (ℕ × BufferData)) (made b : BufferData) → failing b ≡ None
    → (made ≡ b) ⊎ ((is_some (failing made) ≡ true) × ((i : ℕ) × (correction made ≡ Some (i, b))))
    → Accepts (corrected failing correction (made ∷ [])) b
corrected_accepts failing correction made b clean (inl same) =
    let passes : failing made ≡ None = ap failing same ∙ clean in
    subst (λ (o : Option ℕ). Accepts (checked_once correction made o) b) (sym passes) (record { accepted = refl; buffer = ap Some same })
corrected_accepts failing correction made b clean (inr fixed) =
    let (which, fails) = some_is (failing made) fixed.0 in
    let (i, found) = fixed.1 in
    subst (λ (o : Option ℕ). Accepts (checked_once correction made o) b) (sym fails)
    (subst (λ (o : Option (ℕ × BufferData)). Accepts (corrected_to which o) b) (sym found) (record { accepted = refl; buffer = refl }))
