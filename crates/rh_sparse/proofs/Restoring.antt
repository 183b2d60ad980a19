-- The words that two differences restore, as a function and as a relation.
use Rattle.std.proofs.Common.{◌≡◌, ℕ, ◌^◌, ◌<◌, ℤ, pos, negsuc, ◌-ℤ◌, ltb, List, Option, Some, None, length, get_or, set, refl, arith, ap, sym, subst, ◌∙◌, inl, inr}
use Rattle.std.proofs.lemmas.Bool.{cases_Bool, cond-true, cond-false, lt-ltb, ltb-true}
use Rattle.std.proofs.lemmas.Option.{none-some, same_Some}
use Rattle.std.specs.Option.{option_and_then, option_map}
use Rattle.rh_sparse.specs.Correction.{as_word, named_row, restored_at, restored, IsRestored}
use Rattle.rh_sparse.specs.Laws.{RestoredIsRelation, RestoredWordsAreUnique}
use Rattle.rh_sparse.proofs.RowNames.{row_named, names_from}

pub restored_no_row : (ys : List ℕ) (d1 d2 : ℤ) → named_row d1 d2 (length ys) ≡ None → restored ys d1 d2 ≡ None
unfolding restored
restored_no_row ys d1 d2 none = ap (option_and_then (restored_at ys d1)) none

pub restored_no_word : (ys : List ℕ) (d1 d2 : ℤ) (i : ℕ) → named_row d1 d2 (length ys) ≡ Some i → as_word (pos (get_or ys i 0) -ℤ d1) ≡ None → restored ys d1 d2 ≡ None
unfolding restored
restored_no_word ys d1 d2 i named none = ap (option_and_then (restored_at ys d1)) named ∙ ap (option_map (λ w. (i, set ys i w))) none

pub restored_there : (ys : List ℕ) (d1 d2 : ℤ) (i w : ℕ) → named_row d1 d2 (length ys) ≡ Some i → as_word (pos (get_or ys i 0) -ℤ d1) ≡ Some w → restored ys d1 d2 ≡ Some (i, set ys i w)
unfolding restored
restored_there ys d1 d2 i w named word = ap (option_and_then (restored_at ys d1)) named ∙ ap (option_map (λ w. (i, set ys i w))) word

as_word_is : (z : ℤ) (w : ℕ) → z ≡ pos w → w < 2 ^ 64 → as_word z ≡ Some w
as_word_is z w is small = ap as_word is ∙ cond-true (ltb w (2 ^ 64)) (Some w) None (lt-ltb w (2 ^ 64) small)

as_word_from : (z : ℤ) (w : ℕ) → as_word z ≡ Some w → (z ≡ pos w) × (w < 2 ^ 64)
as_word_from (pos n) w is = elim (cases_Bool (ltb n (2 ^ 64))) [
  | inl small ↦
      let same : n ≡ w = same_Some n w (sym (cond-true (ltb n (2 ^ 64)) (Some n) None small) ∙ is) in
      let below = ltb-true n (2 ^ 64) small in
      (ap pos same, omega arith)
  | inr large ↦ absurd (none-some w (sym (cond-false (ltb n (2 ^ 64)) (Some n) None large) ∙ is))
]
as_word_from (negsuc n) w is = absurd (none-some w is)

pub restored_is : (ys zs : List ℕ) (d1 d2 : ℤ) (i : ℕ) → IsRestored ys d1 d2 i zs → restored ys d1 d2 ≡ Some (i, zs)
restored_is ys zs d1 d2 i is =
    restored_there ys d1 d2 i is.word (row_named d1 d2 (length ys) i is.altered is.within is.named) (as_word_is (pos (get_or ys i 0) -ℤ d1) is.word is.less is.range)
    ∙ ap (λ (l : List ℕ). Some (i, l)) (sym is.words)

from_word : (ys zs : List ℕ) (d1 d2 : ℤ) (k i : ℕ) (word : Option ℕ) → named_row d1 d2 (length ys) ≡ Some k → as_word (pos (get_or ys k 0) -ℤ d1) ≡ word
    → option_map {U = ℕ × List ℕ} (λ w. (k, set ys k w)) word ≡ Some (i, zs) → IsRestored ys d1 d2 i zs
from_word ys zs d1 d2 k i None named none is = absurd (none-some (i, zs) is)
from_word ys zs d1 d2 k i (Some w) named some is =
    let names = names_from d1 d2 (length ys) k named in
    let (less, small) = as_word_from (pos (get_or ys k 0) -ℤ d1) w some in
    let pair = same_Some (k, set ys k w) (i, zs) is in
    let row : k ≡ i = ap (λ (p : ℕ × List ℕ). p.0) pair in
    let left : set ys k w ≡ zs = ap (λ (p : ℕ × List ℕ). p.1) pair in
    subst (λ (n : ℕ). IsRestored ys d1 d2 n zs) row (record { altered = names.altered; within = names.within; named = names.named; word = w; range = small; less = less; words = sym left })

from_row : (ys zs : List ℕ) (d1 d2 : ℤ) (i : ℕ) (row : Option ℕ) → named_row d1 d2 (length ys) ≡ row → option_and_then (restored_at ys d1) row ≡ Some (i, zs) → IsRestored ys d1 d2 i zs
from_row ys zs d1 d2 i None named is = absurd (none-some (i, zs) is)
from_row ys zs d1 d2 i (Some k) named is = from_word ys zs d1 d2 k i (as_word (pos (get_or ys k 0) -ℤ d1)) named refl is

pub is_restored : (ys zs : List ℕ) (d1 d2 : ℤ) (i : ℕ) → restored ys d1 d2 ≡ Some (i, zs) → IsRestored ys d1 d2 i zs
unfolding restored
is_restored ys zs d1 d2 i is = from_row ys zs d1 d2 i (named_row d1 d2 (length ys)) refl is

pub restored_as_relation : RestoredIsRelation
restored_as_relation ys zs d1 d2 i = (is_restored ys zs d1 d2 i, restored_is ys zs d1 d2 i)

pub restored_unique : RestoredWordsAreUnique
restored_unique ys zs others d1 d2 i j one other =
    let pair = same_Some (i, zs) (j, others) (sym (restored_is ys zs d1 d2 i one) ∙ restored_is ys others d1 d2 j other) in
    (ap (λ (p : ℕ × List ℕ). p.0) pair, ap (λ (p : ℕ × List ℕ). p.1) pair)
