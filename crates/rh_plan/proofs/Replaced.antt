-- Buffers with other words in one put.
use Rattle.std.proofs.Common.{◌≡◌, ℕ, ◌==◌, List, [], ◌∷◌, Some, true, length, map, slice_index, refl, ap, sym, ◌∙◌, subst, inl, inr}
use Rattle.std.proofs.lemmas.Bool.{cases_Bool, eqb-true, eq-eqb, cond-true, cond-false}
use Rattle.std.proofs.lemmas.Option.{none-some, same_Some}
use Rattle.std.specs.List.{AllByRecursion, find}
use Rattle.std.specs.Option.{option_map}
use Rattle.rh_plan.specs.declared.made_put.MadePut.{MadePut}
use Rattle.rh_plan.specs.Buffers.{BufferData, buffer_data, words_put, made_put, puts_with, buffer_with}

with_here : (q : ℕ) (words : List ℕ) (p : MadePut) (puts : List MadePut) → (p.promise == q) ≡ true → puts_with q words (p ∷ puts) ≡ made_put q words ∷ puts
with_here q words p puts same = cond-true (p.promise == q) (made_put q words ∷ puts) (p ∷ puts_with q words puts) same

put_here : (q : ℕ) (p : MadePut) (puts : List MadePut) → (p.promise == q) ≡ true → words_put q (p ∷ puts) ≡ Some p.words
put_here q p puts same = ap (option_map (λ r. r.words)) (cond-true (p.promise == q) (Some p) (find (λ r. r.promise == q) puts) same)

-- the other words are those that are put then
pub put_altered : (q : ℕ) (before after : List ℕ) (puts : List MadePut) → words_put q puts ≡ Some before → words_put q (puts_with q after puts) ≡ Some after
put_altered q before after [] put = absurd (none-some before put)
put_altered q before after (p ∷ puts) put = elim (cases_Bool (p.promise == q)) [
  | inl same ↦ ap (words_put q) (with_here q after p puts same) ∙ put_here q (made_put q after) puts (eq-eqb q q refl)
  | inr other ↦
      let skip = cond-false (p.promise == q) (Some p) (find (λ r. r.promise == q) puts) other in
      let rest = put_altered q before after puts (sym (ap (option_map (λ (r : MadePut). r.words)) skip) ∙ put) in
      ap (words_put q) (cond-false (p.promise == q) (made_put q after ∷ puts) (p ∷ puts_with q after puts) other)
      ∙ ap (option_map (λ (r : MadePut). r.words)) (cond-false (p.promise == q) (Some p) (find (λ r. r.promise == q) (puts_with q after puts)) other)
      ∙ rest
]

-- with its own words back in their place it is as before
pub put_back : (q : ℕ) (before after : List ℕ) (puts : List MadePut) → words_put q puts ≡ Some before → puts_with q before (puts_with q after puts) ≡ puts
put_back q before after [] put = refl
put_back q before after (p ∷ puts) put = elim (cases_Bool (p.promise == q)) [
  | inl same ↦
      let words : p.words ≡ before = same_Some p.words before (sym (put_here q p puts same) ∙ put) in
      let number : p.promise ≡ q = eqb-true p.promise q same in
      ap (puts_with q before) (with_here q after p puts same)
      ∙ with_here q before (made_put q after) puts (eq-eqb q q refl)
      ∙ ap (λ (w : List ℕ). made_put q w ∷ puts) (sym words)
      ∙ ap (λ (n : ℕ). made_put n p.words ∷ puts) (sym number)
  | inr other ↦
      let skip = cond-false (p.promise == q) (Some p) (find (λ r. r.promise == q) puts) other in
      let rest = put_back q before after puts (sym (ap (option_map (λ (r : MadePut). r.words)) skip) ∙ put) in
      ap (puts_with q before) (cond-false (p.promise == q) (made_put q after ∷ puts) (p ∷ puts_with q after puts) other)
      ∙ cond-false (p.promise == q) (made_put q before ∷ puts_with q after puts) (p ∷ puts_with q before (puts_with q after puts)) other
      ∙ ap (λ (l : List MadePut). p ∷ l) rest
]

pub buffer_back : (q : ℕ) (before after : List ℕ) (b : BufferData) → words_put q b.puts ≡ Some before → buffer_with q before (buffer_with q after b) ≡ b
buffer_back q before after b put = ap (λ (l : List MadePut). buffer_data l b.drops) (put_back q before after b.puts put)

-- the puts are to the same promises
pub same_promises : (q : ℕ) (words : List ℕ) (puts : List MadePut) → map (λ (p : MadePut). p.promise) (puts_with q words puts) ≡ map (λ (p : MadePut). p.promise) puts
same_promises q words [] = refl
same_promises q words (p ∷ puts) = elim (cases_Bool (p.promise == q)) [
  | inl same ↦
      ap (map (λ (r : MadePut). r.promise)) (with_here q words p puts same)
      ∙ ap (λ (n : ℕ). n ∷ map (λ (r : MadePut). r.promise) puts) (sym (eqb-true p.promise q same))
  | inr other ↦
      ap (map (λ (r : MadePut). r.promise)) (cond-false (p.promise == q) (made_put q words ∷ puts) (p ∷ puts_with q words puts) other)
      ∙ ap (λ (l : List ℕ). p.promise ∷ l) (same_promises q words puts)
]

-- puts that have lengths by their promises have them with as many other words
pub lengths_stay : (lens : List ℕ) (q : ℕ) (before after : List ℕ) (puts : List MadePut) → words_put q puts ≡ Some before → length after ≡ length before
    → AllByRecursion (λ p. length p.words ≡ slice_index lens p.promise) puts → AllByRecursion (λ p. length p.words ≡ slice_index lens p.promise) (puts_with q after puts)
lengths_stay lens q before after [] put long fit = tt
lengths_stay lens q before after (p ∷ puts) put long fit =
    let P : List MadePut → Type 0 = AllByRecursion (λ (r : MadePut). length r.words ≡ slice_index lens r.promise) in
    elim (cases_Bool (p.promise == q)) [
      | inl same ↦
          let words : p.words ≡ before = same_Some p.words before (sym (put_here q p puts same) ∙ put) in
          let fits : length after ≡ slice_index lens q = long ∙ ap length (sym words) ∙ fit.0 ∙ ap (slice_index lens) (eqb-true p.promise q same) in
          subst P (sym (with_here q after p puts same)) (fits, fit.1)
      | inr other ↦
          let skip = cond-false (p.promise == q) (Some p) (find (λ r. r.promise == q) puts) other in
          let rest = lengths_stay lens q before after puts (sym (ap (option_map (λ (r : MadePut). r.words)) skip) ∙ put) long fit.1 in
          subst P (sym (cond-false (p.promise == q) (made_put q after ∷ puts) (p ∷ puts_with q after puts) other)) (fit.0, rest)
    ]
