-- Numbers counted in lists.
use Rattle.std.proofs.Common.{◌≡◌, ℕ, suc, ◌≤◌, ◌==◌, ◌||◌, List, [], ◌∷◌, Bool, true, false, cond, refl, arith, ap, sym, ◌∙◌, inl, inr, eqb-true, eq-eqb}
use Rattle.std.proofs.lemmas.Bool.{cases_Bool, cond-true, cond-false, false≢true}
use Rattle.std.proofs.lemmas.Map.Keys.{IsDistinct-head, IsDistinct-tail}
use Rattle.std.specs.List.{IsDistinct, filter}
use Rattle.std.specs.Prelude.{nat_eq}
use Rattle.rh_plan.specs.Followed.{often}
use Rattle.rh_plan.proofs.Lists.{all_by}
use Rattle.rh_rules.specs.Tables.{is_in}
use Rattle.rh_journal.proofs.Counts.{count_yes, count_no, count_none, count_any, bit_yes, bit_no}

-- equality of numbers, as a test, is the same both ways
same_test : (x y q : ℕ) → (x == q) ≡ true → nat_eq x y ≡ false → (y == q) ≡ false
same_test x y q is apart = elim (cases_Bool (y == q)) [
  | inl yes1 ↦ absurd (false≢true (sym apart ∙ eq-eqb x y (eqb-true x q is ∙ sym (eqb-true y q yes1))))
  | inr no1 ↦ no1
]

-- a list without repeats has each number at most once
pub distinct_once : (xs : List ℕ) → IsDistinct nat_eq xs → (q : ℕ) → often q xs ≤ 1
distinct_once [] distinct q = omega arith
distinct_once (x ∷ xs) distinct q = elim (cases_Bool (x == q)) [
  | inl yes1 ↦
      let here = count_yes (λ p. p == q) x xs yes1 in
      let none = count_none (λ p. p == q) xs (all_by (λ y. nat_eq x y ≡ false) (λ y. (y == q) ≡ false) xs (λ y apart. same_test x y q yes1 apart) (IsDistinct-head nat_eq x xs distinct)) in
      omega arith
  | inr no1 ↦
      let here = count_no (λ p. p == q) x xs no1 in
      let rest = distinct_once xs (IsDistinct-tail nat_eq x xs distinct) q in
      omega arith
]

-- a number that is among a list without repeats is there once, and else never
pub among_once : (xs : List ℕ) → IsDistinct nat_eq xs → (q : ℕ) → often q xs ≤ cond (is_in q xs) 1 0
among_once xs distinct q = elim (cases_Bool (is_in q xs)) [
  | inl yes1 ↦ let one = bit_yes (is_in q xs) yes1 in let few = distinct_once xs distinct q in omega arith
  | inr no1 ↦ let none = absent xs q no1 in omega arith
]
  where
    absent : (xs : List ℕ) (q : ℕ) → is_in q xs ≡ false → often q xs ≡ 0
    absent [] q not1 = refl
    absent (x ∷ xs) q not1 = elim (cases_Bool (x == q)) [
      | inl yes1 ↦ absurd (false≢true (sym not1 ∙ ap (λ (b : Bool). b || is_in q xs) yes1))
      | inr no1 ↦ count_no (λ p. p == q) x xs no1 ∙ absent xs q (ap (λ (b : Bool). b || is_in q xs) (sym no1) ∙ not1)
    ]

pub among_some : (xs : List ℕ) (q : ℕ) → cond (is_in q xs) 1 0 ≤ often q xs
among_some xs q = elim (cases_Bool (is_in q xs)) [
  | inl yes1 ↦ let one = bit_yes (is_in q xs) yes1 in let some1 = count_any (λ p. p == q) xs yes1 in omega arith
  | inr no1 ↦ let none = bit_no (is_in q xs) no1 in omega arith
]

-- a filter keeps all of a number, or none
pub often_filter : (q : ℕ) (f : ℕ → Bool) (xs : List ℕ) → often q (filter f xs) ≡ cond (f q) (often q xs) 0
often_filter q f xs = elim (cases_Bool (f q)) [
  | inl yes1 ↦ kept xs yes1 ∙ sym (cond-true (f q) (often q xs) 0 yes1)
  | inr no1 ↦ lost xs no1 ∙ sym (cond-false (f q) (often q xs) 0 no1)
]
  where
    kept : (xs : List ℕ) → f q ≡ true → often q (filter f xs) ≡ often q xs
    kept [] passes = refl
    kept (x ∷ xs) passes = elim (cases_Bool (x == q)) [
      | inl yes1 ↦
          ap (often q) (cond-true (f x) (x ∷ filter f xs) (filter f xs) (ap f (eqb-true x q yes1) ∙ passes))
          ∙ count_yes (λ p. p == q) x (filter f xs) yes1 ∙ ap suc (kept xs passes) ∙ sym (count_yes (λ p. p == q) x xs yes1)
      | inr no1 ↦ elim (cases_Bool (f x)) [
        | inl in1 ↦ ap (often q) (cond-true (f x) (x ∷ filter f xs) (filter f xs) in1) ∙ count_no (λ p. p == q) x (filter f xs) no1 ∙ kept xs passes ∙ sym (count_no (λ p. p == q) x xs no1)
        | inr out1 ↦ ap (often q) (cond-false (f x) (x ∷ filter f xs) (filter f xs) out1) ∙ kept xs passes ∙ sym (count_no (λ p. p == q) x xs no1)
      ]
    ]

    lost : (xs : List ℕ) → f q ≡ false → often q (filter f xs) ≡ 0
    lost [] fails = refl
    lost (x ∷ xs) fails = elim (cases_Bool (f x)) [
      | inl in1 ↦
          let apart : (x == q) ≡ false = elim (cases_Bool (x == q)) [ inl yes1 ↦ absurd (false≢true (sym fails ∙ (ap f (sym (eqb-true x q yes1)) ∙ in1))) | inr no1 ↦ no1 ] in
          ap (often q) (cond-true (f x) (x ∷ filter f xs) (filter f xs) in1) ∙ count_no (λ p. p == q) x (filter f xs) apart ∙ lost xs fails
      | inr out1 ↦ ap (often q) (cond-false (f x) (x ∷ filter f xs) (filter f xs) out1) ∙ lost xs fails
    ]
