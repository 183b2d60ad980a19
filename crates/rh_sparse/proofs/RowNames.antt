-- The row that two differences name.
use Rattle.std.proofs.Common.{◌≡◌, ℕ, zero, suc, ◌+◌, ◌-◌, ◌<◌, ℤ, pos, ◌*ℤ◌, Bool, true, false, Option, Some, None, refl, arith, ap, sym, ◌∙◌, inl, inr}
use Rattle.std.proofs.lemmas.Bool.{cases_Bool, cond-true, cond-false, false_from_ne_true, true≢false}
use Rattle.std.proofs.lemmas.Option.{none-some, same_Some}
use Rattle.std.specs.Cmp.{signed_Decides}
use Rattle.std.specs.List.{find, range_with_len}
use Rattle.std.specs.Option.{MatchOption}
use Rattle.std.specs.Ordering.{int_eq}
use Rattle.rh_sparse.specs.Correction.{names_row, named_row}
use Rattle.rh_sparse.proofs.Quotients.{same_multiplier}

-- the first number of a range that passes a test
find_only : (p : ℕ → Bool) (a n i j : ℕ) → i < n → a + i ≡ j → p j ≡ true → ((k : ℕ) → p k ≡ true → k ≡ j) → find p (range_with_len a n) ≡ Some j
find_only p a zero i j within at passes only = absurd (omega arith)
find_only p a (suc n) i j within at passes only = elim (cases_Bool (p a)) [
  | inl passing ↦ cond-true (p a) (Some a) (find p (range_with_len (a + 1) n)) passing ∙ ap Some (only a passing)
  | inr failing ↦
      let later : (a ≡ j → ⊥) = λ e. true≢false (sym passes ∙ sym (ap p e) ∙ failing) in
      cond-false (p a) (Some a) (find p (range_with_len (a + 1) n)) failing ∙ find_only p (a + 1) n (i - 1) j (omega (arith, later)) (omega (arith, later)) passes only
]

find_nothing : (p : ℕ → Bool) (a n : ℕ) → ((k : ℕ) → k < a + n → p k ≡ false) → find p (range_with_len a n) ≡ None
find_nothing p a zero none = refl
find_nothing p a (suc n) none =
    cond-false (p a) (Some a) (find p (range_with_len (a + 1) n)) (none a (omega arith)) ∙ find_nothing p (a + 1) n (λ k below. none k (omega arith))

find_found : (p : ℕ → Bool) (a n j : ℕ) → find p (range_with_len a n) ≡ Some j → (j < a + n) × (p j ≡ true)
find_found p a zero j found = absurd (none-some j found)
find_found p a (suc n) j found = elim (cases_Bool (p a)) [
  | inl passing ↦
      let here : a ≡ j = same_Some a j (sym (cond-true (p a) (Some a) (find p (range_with_len (a + 1) n)) passing) ∙ found) in
      (omega arith, ap p (sym here) ∙ passing)
  | inr failing ↦
      let (below, passes) = find_found p (a + 1) n j (sym (cond-false (p a) (Some a) (find p (range_with_len (a + 1) n)) failing) ∙ found) in
      (omega arith, passes)
]

pub not_named_by_zero : (d1 d2 : ℤ) (rows : ℕ) → d1 ≡ pos 0 → named_row d1 d2 rows ≡ None
not_named_by_zero d1 d2 rows none = cond-true (int_eq d1 (pos 0)) None (find (names_row d1 d2) (range_with_len 0 rows)) ((signed_Decides d1 (pos 0)).1 none)

by_some : (d1 d2 : ℤ) (rows : ℕ) → (d1 ≡ pos 0 → ⊥) → named_row d1 d2 rows ≡ find (names_row d1 d2) (range_with_len 0 rows)
by_some d1 d2 rows some =
    cond-false (int_eq d1 (pos 0)) None (find (names_row d1 d2) (range_with_len 0 rows)) (false_from_ne_true (int_eq d1 (pos 0)) (λ is. some ((signed_Decides d1 (pos 0)).0 is)))

pub row_named : (d1 d2 : ℤ) (rows i : ℕ) → (d1 ≡ pos 0 → ⊥) → i < rows → pos (i + 1) *ℤ d1 ≡ d2 → named_row d1 d2 rows ≡ Some i
row_named d1 d2 rows i some within is =
    let only : (k : ℕ) → names_row d1 d2 k ≡ true → k ≡ i = λ k named.
    let numbers : pos (k + 1) ≡ pos (i + 1) = same_multiplier (pos (k + 1)) (pos (i + 1)) d1 some ((signed_Decides (pos (k + 1) *ℤ d1) d2).0 named ∙ sym is) in
    let places : k + 1 ≡ i + 1 = cc in
    omega arith in
    by_some d1 d2 rows some ∙ find_only (names_row d1 d2) 0 rows i i within (omega arith) ((signed_Decides (pos (i + 1) *ℤ d1) d2).1 is) only

pub no_row_named : (d1 d2 : ℤ) (rows : ℕ) → (d1 ≡ pos 0 → ⊥) → ((i : ℕ) → i < rows → pos (i + 1) *ℤ d1 ≡ d2 → ⊥) → named_row d1 d2 rows ≡ None
no_row_named d1 d2 rows some none =
    by_some d1 d2 rows some ∙ find_nothing (names_row d1 d2) 0 rows (λ k below. false_from_ne_true (names_row d1 d2 k) (λ is. none k (omega arith) ((signed_Decides (pos (k + 1) *ℤ d1) d2).0 is)))

pub record NamesRow (d1 d2 : ℤ) (rows i : ℕ) : Type 0 where
  pub altered : d1 ≡ pos 0 → ⊥
  pub within : i < rows
  pub named : pos (i + 1) *ℤ d1 ≡ d2

pub names_from : (d1 d2 : ℤ) (rows i : ℕ) → named_row d1 d2 rows ≡ Some i → NamesRow d1 d2 rows i
names_from d1 d2 rows i is = elim (cases_Bool (int_eq d1 (pos 0))) [
  | inl passing ↦ absurd (none-some i (sym (cond-true (int_eq d1 (pos 0)) None (find (names_row d1 d2) (range_with_len 0 rows)) passing) ∙ is))
  | inr failing ↦
      let some : d1 ≡ pos 0 → ⊥ = λ e. true≢false (sym ((signed_Decides d1 (pos 0)).1 e) ∙ failing) in
      let (below, passes) = find_found (names_row d1 d2) 0 rows i (sym (by_some d1 d2 rows some) ∙ is) in
      record { altered = some; within = omega arith; named = (signed_Decides (pos (i + 1) *ℤ d1) d2).0 passes }
]

-- The row is the one of the number by which the first difference is multiplied.
pub row_by_number : (d1 d2 number : ℤ) (rows : ℕ) (row : Option ℕ) → (d1 ≡ pos 0 → ⊥) → number *ℤ d1 ≡ d2
    → MatchOption row ((i : ℕ) → i < rows → pos (i + 1) ≡ number → ⊥) (λ i. (i < rows) × (pos (i + 1) ≡ number)) → row ≡ named_row d1 d2 rows
row_by_number d1 d2 number rows None some is none =
    sym (no_row_named d1 d2 rows some (λ i within named. none i within (same_multiplier (pos (i + 1)) number d1 some (named ∙ sym is))))
row_by_number d1 d2 number rows (Some i) some is (within, numbered) = sym (row_named d1 d2 rows i some within (ap (λ (z : ℤ). z *ℤ d1) numbered ∙ is))
