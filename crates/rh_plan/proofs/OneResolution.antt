-- The lines of a fault text have one list of faults, or one first bad line with one reason.
use Rattle.std.proofs.Common.{◌≡◌, ◌⊎◌, ℕ, suc, zero, ◌+◌, ◌<◌, ◌≤◌, Bool, true, false, cond, List, [], ◌∷◌, Option, Some, None, map, get_or, length, refl, ap, sym, ◌∙◌, subst, arith, inl, inr}
use Rattle.std.specs.Prelude.{slice_get, IsPermutation, Contains}
use Rattle.std.specs.List.{AllByRecursion}
use Rattle.std.specs.Option.{option_map}
use Rattle.std.proofs.lemmas.Bool.{cases_lt, false≢true, or_parts}
use Rattle.std.proofs.lemmas.List.Kept.{AllPairs-cons}
use Rattle.std.proofs.lemmas.List.Elements.{All-from_recursion, recursion_from_All}
use Rattle.std.proofs.lemmas.List.Sorted.{IsPermutation-refl, IsPermutation-sym, IsPermutation-trans, IsPermutation-cons, IsPermutation-middle, Contains-permutation}
use Rattle.std.proofs.lemmas.Option.{slice_get-get_or, none-some, same_Some}
use Rattle.rh_words.specs.declared.reason.Reason.{Reason}
use Rattle.rh_injector.specs.declared.fault_text.FaultLine.{FaultLine}
use Rattle.rh_injector.specs.declared.faults.Strike.{Strike}
use Rattle.rh_injector.specs.Faults.{comes_before, has_place_of, IsAscending, names_place}
use Rattle.rh_injector.proofs.Ordering.{is_before-trans, comes_before-either, comes_before-not_both}
use Rattle.rh_plan.specs.Plans.{PlanData}
use Rattle.rh_plan.specs.FaultLines.{reason_at, strike_of, AreFaultsOfText, FirstBadFault}
use Rattle.rh_plan.specs.FaultTables.{AreFaultsBelow}
use Rattle.rh_plan.proofs.ResolvedFaults.{first_bad, fresh_at, below_more, none_below, all_below}

-- one more fault among those in order
put_in : Strike → List Strike → List Strike
put_in s [] = s ∷ []
put_in s (t ∷ faults) = cond (comes_before s t) (s ∷ t ∷ faults) (t ∷ put_in s faults)

put_in-all : (P : Strike → Type 0) (s : Strike) (faults : List Strike) → P s → AllByRecursion P faults → AllByRecursion P (put_in s faults)
unfolding put_in
put_in-all P s [] here all = (here, tt)
put_in-all P s (t ∷ faults) here all = by (put_in-all P s faults here all.1) (comes_before s t)
  where
    by : AllByRecursion P (put_in s faults) → (b : Bool) → AllByRecursion P (cond b (s ∷ t ∷ faults) (t ∷ put_in s faults))
    by rest true = (here, all)
    by rest false = (all.0, rest)

put_in-permutation : (s : Strike) (faults : List Strike) → IsPermutation (s ∷ faults) (put_in s faults)
unfolding put_in
put_in-permutation s [] = IsPermutation-refl (s ∷ [])
put_in-permutation s (t ∷ faults) = by (put_in-permutation s faults) (comes_before s t)
  where
    by : IsPermutation (s ∷ faults) (put_in s faults) → (b : Bool) → IsPermutation (s ∷ t ∷ faults) (cond b (s ∷ t ∷ faults) (t ∷ put_in s faults))
    by rest true = IsPermutation-refl (s ∷ t ∷ faults)
    by rest false = IsPermutation-trans _ _ _ (IsPermutation-middle (s ∷ []) t faults) (IsPermutation-cons t _ _ rest)

after_first : (t : Strike) (faults : List Strike) → IsAscending (t ∷ faults) → AllByRecursion (λ u. comes_before t u ≡ true) faults
after_first t faults up = recursion_from_All (λ u. comes_before t u ≡ true) faults (λ k d inside. up 0 (suc k) d (omega arith) (omega arith))

others : (t : Strike) (faults : List Strike) → IsAscending (t ∷ faults) → IsAscending faults
others t faults up = λ i j d less inside. up (suc i) (suc j) d (omega arith) (omega arith)

in_front : (t : Strike) (faults : List Strike) → AllByRecursion (λ u. comes_before t u ≡ true) faults → IsAscending faults → IsAscending (t ∷ faults)
in_front t faults all up = AllPairs-cons (λ x y. comes_before x y ≡ true) t faults (All-from_recursion (λ u. comes_before t u ≡ true) faults all) up

all_after : (s t : Strike) (faults : List Strike) → comes_before s t ≡ true → AllByRecursion (λ u. comes_before t u ≡ true) faults → AllByRecursion (λ u. comes_before s u ≡ true) faults
all_after s t [] less all = tt
all_after s t (u ∷ faults) less all = (is_before-trans s t u.node u.attempt u.local u.word less all.0, all_after s t faults less all.1)

put_in-ascending : (s : Strike) (faults : List Strike) → names_place faults s ≡ false → IsAscending faults → IsAscending (put_in s faults)
unfolding put_in
put_in-ascending s [] fresh up = λ i j d less inside. absurd (omega arith)
put_in-ascending s (t ∷ faults) fresh up = by (put_in-ascending s faults (or_parts (has_place_of t s) (names_place faults s) fresh).1 (others t faults up)) (comes_before s t) refl
  where
    lower : (c : Bool) → comes_before t s ≡ c → comes_before s t ≡ false → comes_before t s ≡ true
    lower true e is = e
    lower false e is = absurd (false≢true (sym is ∙ comes_before-either t s e (or_parts (has_place_of t s) (names_place faults s) fresh).0))

    by : IsAscending (put_in s faults) → (b : Bool) → comes_before s t ≡ b → IsAscending (cond b (s ∷ t ∷ faults) (t ∷ put_in s faults))
    by rest true is = in_front s (t ∷ faults) (is, all_after s t faults is (after_first t faults up)) up
    by rest false is =
        in_front t (put_in s faults) (put_in-all (λ u. comes_before t u ≡ true) s faults (lower (comes_before t s) refl is) (after_first t faults up)) rest

none_or_some : (o : Option Reason) → (o ≡ None) ⊎ ((r : Reason) × (o ≡ Some r))
none_or_some None = inl refl
none_or_some (Some r) = inr (r, refl)

-- the first lines have faults in order, or one of them is bad
decided_below : (plan : PlanData) (lines : List FaultLine) (n : ℕ) → n ≤ length lines → ((faults : List Strike) × AreFaultsBelow plan lines n faults × IsAscending faults) ⊎ ((line : ℕ) × (reason : Reason) × FirstBadFault plan lines line reason)
decided_below plan lines zero within = inl ([], none_below plan lines, (λ i j d less inside. absurd (omega arith)))
decided_below plan lines (suc n) within = elim (decided_below plan lines n (omega arith)) [
  | inr bad ↦ inr bad
  | inl below ↦ elim (none_or_some (reason_at plan lines n)) [
    | inr broken ↦ inr ((line_of n).line, broken.0, first_bad plan lines n below.0 (line_of n) broken.0 (there n (omega arith)) below.1 broken.1)
    | inl none ↦
        let f = line_of n in
        let fresh = fresh_at plan lines n below.0 f (there n (omega arith)) below.1 none in
        let new = put_in (strike_of plan f) below.0 in
        let more = below_more plan lines n below.0 new f (there n (omega arith)) below.1 none (put_in-permutation (strike_of plan f) below.0) in
        let e : n + 1 ≡ suc n = omega arith in
        inl (new, subst (λ (k : ℕ). AreFaultsBelow plan lines k new) e more, put_in-ascending (strike_of plan f) below.0 fresh below.2)
  ]
]
  where
    line_of : ℕ → FaultLine
    line_of k = get_or lines k (record { line = 0; task = []; attempt = 0; local = []; word = 0; mask = 0 })

    there : (k : ℕ) → k < length lines → slice_get lines k ≡ Some (line_of k)
    there k inside = slice_get-get_or lines k _ inside

pub faults_or_bad : (plan : PlanData) (lines : List FaultLine) → ((faults : List Strike) × AreFaultsOfText plan lines faults) ⊎ ((line : ℕ) × (reason : Reason) × FirstBadFault plan lines line reason)
faults_or_bad plan lines = elim (decided_below plan lines (length lines) (omega arith)) [
  | inl below ↦ inl (below.0, all_below plan lines (length lines) below.0 refl below.1 below.2)
  | inr bad ↦ inr bad
]

pub never_both : (plan : PlanData) (lines : List FaultLine) (faults : List Strike) (line : ℕ) (reason : Reason) → AreFaultsOfText plan lines faults → FirstBadFault plan lines line reason → ⊥
never_both plan lines faults line reason are bad = none-some reason (sym (are.kept bad.place) ∙ bad.broken)

pub one_refusal : (plan : PlanData) (lines : List FaultLine) (l m : ℕ) (r q : Reason) → FirstBadFault plan lines l r → FirstBadFault plan lines m q → (l ≡ m) × (r ≡ q)
one_refusal plan lines l m r q first second = elim (cases_lt first.place second.place) [
  | inl low ↦ absurd (none-some r (sym (second.kept first.place low) ∙ first.broken))
  | inr high ↦ elim (cases_lt second.place first.place) [
    | inl low ↦ absurd (none-some q (sym (first.kept second.place low) ∙ second.broken))
    | inr low ↦
        let same : first.place ≡ second.place = omega arith in (
          same_Some l m (sym first.at ∙ ap (λ k. option_map (λ (f : FaultLine). f.line) (slice_get lines k)) same ∙ second.at),
          same_Some r q (sym first.broken ∙ ap (λ k. reason_at plan lines k) same ∙ second.broken),
        )
  ]
]

-- an element of a list is its first or one of the others
first_or_other : (x z : Strike) (xs : List Strike) → Contains (x ∷ xs) z → (x ≡ z) ⊎ Contains xs z
first_or_other x z xs (zero, inside, is) = inl is
first_or_other x z xs (suc k, inside, is) = inr (k, omega arith, is)

is_after : (x z : Strike) (xs : List Strike) → IsAscending (x ∷ xs) → Contains xs z → comes_before x z ≡ true
is_after x z xs up (k, inside, is) = subst (λ (t : Strike). comes_before x t ≡ true) is (up 0 (suc k) z (omega arith) (omega arith))

not_itself : (x : Strike) → comes_before x x ≡ true → ⊥
not_itself x less = false≢true (sym (comes_before-not_both x x less) ∙ less)

same_first : (x y : Strike) (xs ys : List Strike) → IsAscending (x ∷ xs) → IsAscending (y ∷ ys) → ((z : Strike) → Contains (x ∷ xs) z → Contains (y ∷ ys) z) → ((z : Strike) → Contains (y ∷ ys) z → Contains (x ∷ xs) z) → x ≡ y
same_first x y xs ys up up' there back = elim (first_or_other y x ys (there x (0, omega arith, refl))) [
  | inl same ↦ sym same
  | inr x_in ↦ elim (first_or_other x y xs (back y (0, omega arith, refl))) [
    | inl same ↦ same
    | inr y_in ↦ absurd (false≢true (sym (comes_before-not_both x y (is_after x y xs up y_in)) ∙ is_after y x ys up' x_in))
  ]
]

other_there : (x y : Strike) (xs ys : List Strike) → x ≡ y → IsAscending (x ∷ xs) → ((z : Strike) → Contains (x ∷ xs) z → Contains (y ∷ ys) z) → (z : Strike) → Contains xs z → Contains ys z
other_there x y xs ys same up there z z_in = elim (first_or_other y z ys (there z (more z_in))) [
  | inr other ↦ other
  | inl is ↦ absurd (not_itself x (subst (λ (t : Strike). comes_before x t ≡ true) (sym (same ∙ is)) (is_after x z xs up z_in)))
]
  where
    more : Contains xs z → Contains (x ∷ xs) z
    more (k, inside, is) = (suc k, omega arith, is)

-- lists in order with the same elements are equal
in_one_order : (xs ys : List Strike) → IsAscending xs → IsAscending ys → ((z : Strike) → Contains xs z → Contains ys z) → ((z : Strike) → Contains ys z → Contains xs z) → xs ≡ ys
in_one_order [] [] up up' there back = refl
in_one_order [] (y ∷ ys) up up' there back = absurd (let (k, inside, is) = back y (0, omega arith, refl) in omega arith)
in_one_order (x ∷ xs) [] up up' there back = absurd (let (k, inside, is) = there x (0, omega arith, refl) in omega arith)
in_one_order (x ∷ xs) (y ∷ ys) up up' there back =
    let same = same_first x y xs ys up up' there back in
    let rest = in_one_order xs ys (others x xs up) (others y ys up') (other_there x y xs ys same up there) (other_there y x ys xs (sym same) up' back) in
    ap (λ (t : Strike). t ∷ xs) same ∙ ap (λ (l : List Strike). y ∷ l) rest

pub one_list : (plan : PlanData) (lines : List FaultLine) (xs ys : List Strike) → AreFaultsOfText plan lines xs → AreFaultsOfText plan lines ys → xs ≡ ys
one_list plan lines xs ys first second =
    let named : List Strike = map (strike_of plan) lines in
    in_one_order xs ys first.ascending second.ascending
    (λ z z_in. Contains-permutation named ys z second.same (Contains-permutation xs named z (IsPermutation-sym named xs first.same) z_in))
    (λ z z_in. Contains-permutation named xs z first.same (Contains-permutation ys named z (IsPermutation-sym named ys second.same) z_in))
