-- When buffers are equal.
use Rattle.std.proofs.Common.{◌≡◌, ℕ, ◌==◌, List, true, false, refl, ap, sym, ◌∙◌, subst, inl, inr, ◌⊎◌}
use Rattle.std.proofs.lemmas.Bool.{false≢true, cases_Bool, and_parts, and_from, eqb-true, eq-eqb}
use Rattle.std.proofs.lemmas.Bool.Decides.{Decides-eqb}
use Rattle.std.proofs.lemmas.Slice.Eq.{slice_eq-Decides}
use Rattle.std.specs.Str.{bytes_eq}
use lib.Pointwise.{pointwise}
use Rattle.rh_plan.specs.declared.made_put.MadePut.{MadePut}
use Rattle.rh_plan.specs.Buffers.{BufferData}
use Rattle.rh_plan.specs.Judging.{is_same_put, are_same}

abbrev put_data : ℕ → List ℕ → MadePut
put_data promise words = record { promise = promise; words = words }

same_words : (xs ys : List ℕ) → bytes_eq xs ys ≡ true → xs ≡ ys
same_words xs ys same = (slice_eq-Decides Decides-eqb xs ys (bytes_eq xs ys) refl).0 same

words_itself : (xs : List ℕ) → bytes_eq xs xs ≡ true
words_itself xs = (slice_eq-Decides Decides-eqb xs xs (bytes_eq xs xs) refl).1 refl

same_put : (p q : MadePut) → is_same_put p q ≡ true → p ≡ q
same_put p q same =
    let (promise, words) = and_parts (p.promise == q.promise) (bytes_eq p.words q.words) same in
    ap (λ (n : ℕ). put_data n p.words) (eqb-true p.promise q.promise promise)
    ∙ ap (λ (w : List ℕ). put_data q.promise w) (same_words p.words q.words words)

put_itself : (p q : MadePut) → p ≡ q → is_same_put p q ≡ true
put_itself p q same = subst (λ (r : MadePut). is_same_put p r ≡ true) same (and_from (p.promise == p.promise) (bytes_eq p.words p.words) (eq-eqb p.promise p.promise refl) (words_itself p.words))

abbrev buffer_data : List MadePut → List ℕ → BufferData
buffer_data puts drops = record { puts = puts; drops = drops }

pub same_buffer : (a b : BufferData) → are_same a b ≡ true → a ≡ b
unfolding are_same
same_buffer a b same =
    let (puts, drops) = and_parts (pointwise is_same_put a.puts b.puts) (bytes_eq a.drops b.drops) same in
    ap (λ (l : List MadePut). buffer_data l a.drops) ((slice_eq-Decides (λ p q. (same_put p q, put_itself p q)) a.puts b.puts (pointwise is_same_put a.puts b.puts) refl).0 puts)
    ∙ ap (λ (l : List ℕ). buffer_data b.puts l) (same_words a.drops b.drops drops)

pub buffer_itself : (a : BufferData) → are_same a a ≡ true
unfolding are_same
buffer_itself a =
    and_from (pointwise is_same_put a.puts a.puts) (bytes_eq a.drops a.drops)
    ((slice_eq-Decides (λ p q. (same_put p q, put_itself p q)) a.puts a.puts (pointwise is_same_put a.puts a.puts) refl).1 refl)
    (words_itself a.drops)

-- buffers are equal or differ
pub cases_buffer : (a b : BufferData) → (a ≡ b) ⊎ ((are_same a b ≡ false) × (a ≡ b → ⊥))
cases_buffer a b = elim (cases_Bool (are_same a b)) [
  | inl same ↦ inl (same_buffer a b same)
  | inr other ↦ inr (other, λ same. false≢true (sym other ∙ subst (λ (c : BufferData). are_same a c ≡ true) same (buffer_itself a)))
]
