-- Where a promise stands among those in order.
use Rattle.std.proofs.Common.{◌≡◌, ◌≢◌, ℕ, zero, suc, ◌<◌, ◌==◌, List, [], ◌∷◌, true, false, nat_lt, Option, Some, None, length, get_or, refl, arith, ap, sym, ◌∙◌, inl, inr, subst, eq-eqb, ne_eqb}
use Rattle.std.proofs.lemmas.Bool.{cases_lt, cond-true, cond-false}
use Rattle.std.proofs.lemmas.Bool as bool
use Rattle.std.proofs.lemmas.Option.{none-some, same_Some, slice_get-get_or, slice_get_cases, slice_get_within}
use Rattle.std.specs.List.{AllWithin, find, slice_get}
use Rattle.std.specs.List.Sorted.{IsPartitionedBy, IsPartitionPoint}
use Rattle.std.specs.Option.{IsSomeAnd, option_map}
use Rattle.rh_journal.specs.ShownWords.{IsAscending, words_with}

abbrev pub Pair : Type 0
Pair = ℕ × List ℕ

-- the promises below a number stand before the others
pub below_parted : (pairs : List Pair) (q : ℕ) → IsAscending pairs → IsPartitionedBy (λ p. nat_lt p.0 q) pairs
below_parted pairs q up a b d order within before =
    elim (cases_lt a b) [
      | inl h ↦
          let rises = up a b d h within in
          let low = bool.ltb-true (get_or pairs b d).0 q before in
          bool.lt-ltb (get_or pairs a d).0 q (omega arith)
      | inr h ↦
          let e : b ≡ a = omega arith in
          subst (λ (n : ℕ). nat_lt (get_or pairs n d).0 q ≡ true) e before
    ]

-- the words of the first pair with the promise
pub found_at : (q at : ℕ) (pairs : List Pair) (p : Pair) → AllWithin (λ x. nat_lt x.0 q ≡ true) pairs 0 at → slice_get pairs at ≡ Some p → p.0 ≡ q → words_with q pairs ≡ Some p.1
found_at q at [] p low is same = absurd (none-some p is)
found_at q zero (x ∷ pairs) p low is same =
    let here : (x.0 == q) ≡ true = eq-eqb x.0 q (ap (λ (y : Pair). y.0) (same_Some x p is) ∙ same) in
    ap (λ (o : Option Pair). option_map (λ (y : Pair). y.1) o) (cond-true (x.0 == q) (Some x) (find (λ y. y.0 == q) pairs) here)
    ∙ ap (λ (y : Pair). Some y.1) (same_Some x p is)
found_at q (suc at) (x ∷ pairs) p low is same =
    let below = bool.ltb-true x.0 q (low 0 x (omega arith) (omega arith)) in
    let other : (x.0 == q) ≡ false = ne_eqb x.0 q (λ e. omega arith) in
    ap (λ (o : Option Pair). option_map (λ (y : Pair). y.1) o) (cond-false (x.0 == q) (Some x) (find (λ y. y.0 == q) pairs) other)
    ∙ found_at q at pairs p (λ k d from within. low (suc k) d (omega arith) (omega arith)) is same

none_found : (q : ℕ) (pairs : List Pair) → AllWithin (λ x. (x.0 == q) ≡ false) pairs 0 (length pairs) → words_with q pairs ≡ None
none_found q [] none = refl
none_found q (x ∷ pairs) none =
    ap (λ (o : Option Pair). option_map (λ (y : Pair). y.1) o) (cond-false (x.0 == q) (Some x) (find (λ y. y.0 == q) pairs) (none 0 x (omega arith) (omega arith)))
    ∙ none_found q pairs (λ k d from within. none (suc k) d (omega arith) (omega arith))

-- no words where the promise does not stand at its place
pub absent_at : (q at : ℕ) (pairs : List Pair) → IsAscending pairs → IsPartitionPoint (λ x. nat_lt x.0 q ≡ true) (λ x. nat_lt x.0 q ≡ false) pairs at → ((p : Pair) → slice_get pairs at ≡ Some p → (p.0 == q) ≡ false) → words_with q pairs ≡ None
absent_at q at pairs up point other = none_found q pairs unlike
  where
    unlike : AllWithin (λ x. (x.0 == q) ≡ false) pairs 0 (length pairs)
    unlike k d from within = elim (cases_lt k at) [
      | inl early ↦
          let below = bool.ltb-true (get_or pairs k d).0 q (point.0 k d from early) in
          ne_eqb (get_or pairs k d).0 q (λ e. omega arith)
      | inr late ↦
          let there : at < length pairs = omega arith in
          let apart = other (get_or pairs at d) (slice_get-get_or pairs at d there) in
          let above = bool.ltb-false (get_or pairs at d).0 q (point.1 at d (omega arith) there) in
          elim (cases_lt at k) [
            | inl higher ↦
                let rises = up at k d higher within in
                ne_eqb (get_or pairs k d).0 q (λ e. omega arith)
            | inr same ↦
                let e : at ≡ k = omega arith in
                subst (λ (n : ℕ). ((get_or pairs n d).0 == q) ≡ false) e apart
          ]
    ]

pub found_here : (q at : ℕ) (pairs : List Pair) (d e : Pair) → AllWithin (λ x. nat_lt x.0 q ≡ true) pairs 0 at → at < length pairs → (get_or pairs at e).0 ≡ q → Some (get_or pairs at d).1 ≡ words_with q pairs
found_here q at pairs d e low within same =
    let alike = same_Some (get_or pairs at d) (get_or pairs at e) (sym (slice_get-get_or pairs at d within) ∙ slice_get-get_or pairs at e within) in
    sym (found_at q at pairs (get_or pairs at d) low (slice_get-get_or pairs at d within) (ap (λ (x : Pair). x.0) alike ∙ same))

pub absent_here : (q at : ℕ) (pairs : List Pair) → IsAscending pairs → IsPartitionPoint (λ x. nat_lt x.0 q ≡ true) (λ x. nat_lt x.0 q ≡ false) pairs at → (d : Pair) → (at < length pairs → (get_or pairs at d).0 ≢ q) → None ≡ words_with q pairs
absent_here q at pairs up point d other = sym (absent_at q at pairs up point unlike)
  where
    unlike : (p : Pair) → slice_get pairs at ≡ Some p → (p.0 == q) ≡ false
    unlike p is =
        let within = slice_get_within pairs at p is in
        ne_eqb p.0 q (λ same. other within (ap (λ (x : Pair). x.0) (same_Some (get_or pairs at d) p (sym (slice_get-get_or pairs at d within) ∙ is)) ∙ same))

-- a promise that stands at a place parts those below it from the others there
pub parts_there : (q at : ℕ) (pairs : List Pair) → IsAscending pairs → IsSomeAnd (slice_get pairs at) (λ p. p.0 ≡ q) → IsPartitionPoint (λ x. nat_lt x.0 q ≡ true) (λ x. nat_lt x.0 q ≡ false) pairs at
parts_there q at pairs up is = (low, high)
  where
    there : at < length pairs
    there = elim (slice_get_cases pairs at).1 [
      | inl found ↦ found.1
      | inr past ↦ absurd (subst (λ (o : Option Pair). IsSomeAnd o (λ p. p.0 ≡ q)) past.1 is)
    ]

    here : (d : Pair) → (get_or pairs at d).0 ≡ q
    here d = subst (λ (o : Option Pair). IsSomeAnd o (λ p. p.0 ≡ q)) (slice_get-get_or pairs at d there) is

    low : AllWithin (λ x. nat_lt x.0 q ≡ true) pairs 0 at
    low k d from within =
        let rises = up k at d within there in
        let same = here d in
        bool.lt-ltb (get_or pairs k d).0 q (omega arith)

    high : AllWithin (λ x. nat_lt x.0 q ≡ false) pairs at (length pairs)
    high k d from within =
        let same = here d in
        elim (cases_lt at k) [
          | inl later ↦ let rises = up at k d later within in bool.le-ltb (get_or pairs k d).0 q (omega arith)
          | inr other ↦
              let e : at ≡ k = omega arith in
              subst (λ (n : ℕ). nat_lt (get_or pairs n d).0 q ≡ false) e (bool.le-ltb (get_or pairs at d).0 q (omega arith))
        ]
