-- Lines that are read one after another.
use Rattle.std.proofs.Common.{◌≡◌, ℕ, suc, ◌+◌, List, [], ◌∷◌, ◌++◌, length, refl, ap, sym, ◌∙◌, subst, inl, inr, arith}
use Rattle.rh_words.specs.Text.{words_of}
use Rattle.rh_injector.specs.declared.fault_text.FaultLine.{FaultLine}
use Rattle.rh_injector.specs.FaultTexts.{IsBody}
use Rattle.rh_injector.proofs.FaultWords.{SaysFault-same, nothing_said}

-- one body after another
pub IsBody-append : (n : ℕ) (lines more : List (List ℕ)) (faults others : List FaultLine) → IsBody n lines faults → IsBody (n + length lines) more others → IsBody n (lines ++ more) (faults ++ others)
IsBody-append n [] more faults others first second =
    let none : n + 0 ≡ n = omega arith in
    let here = subst (λ (k : ℕ). IsBody k more others) none second in
    subst (λ (its : List FaultLine). IsBody n more (its ++ others)) (sym first) here
IsBody-append n (line ∷ lines) more faults others first second =
    let e : n + suc (length lines) ≡ (n + 1) + length lines = omega arith in
    let next = subst (λ (k : ℕ). IsBody k more others) e second in (
      first.0,
      elim first.1 [
        | inl a ↦ inl (a.0, IsBody-append (n + 1) lines more faults others a.1 next)
        | inr b ↦ inr (b.0, b.1 ++ others, ap (λ (l : List FaultLine). l ++ others) b.2, b.3, IsBody-append (n + 1) lines more b.1 others b.4 next)
      ],
    )

-- the first lines of a body are one, and so are the others
pub IsBody-parts : (n : ℕ) (lines more : List (List ℕ)) (all : List FaultLine) → IsBody n (lines ++ more) all → ((faults : List FaultLine) × IsBody n lines faults) × ((others : List FaultLine) × IsBody (n + length lines) more others)
IsBody-parts n [] more all body = (([], refl), (all, let none : n ≡ n + 0 = omega arith in subst (λ (k : ℕ). IsBody k more all) none body))
IsBody-parts n (line ∷ lines) more all body =
    let e : (n + 1) + length lines ≡ n + suc (length lines) = omega arith in
    elim body.1 [
      | inl a ↦
          let parts = IsBody-parts (n + 1) lines more all a.1 in
          ((parts.0.0, (body.0, inl (a.0, parts.0.1))), (parts.1.0, subst (λ (k : ℕ). IsBody k more parts.1.0) e parts.1.1))
      | inr b ↦
          let parts = IsBody-parts (n + 1) lines more b.1 b.4 in
          ((b.0 ∷ parts.0.0, (body.0, inr (b.0, parts.0.0, refl, b.3, parts.0.1))), (parts.1.0, subst (λ (k : ℕ). IsBody k more parts.1.0) e parts.1.1))
    ]

-- lines say one list of faults
pub IsBody-same : (n : ℕ) (lines : List (List ℕ)) (xs ys : List FaultLine) → IsBody n lines xs → IsBody n lines ys → xs ≡ ys
IsBody-same n [] xs ys first second = first ∙ sym second
IsBody-same n (line ∷ lines) xs ys first second =
    elim first.1 [
      | inl a ↦ elim second.1 [
        | inl b ↦ IsBody-same (n + 1) lines xs ys a.1 b.1
        | inr b ↦ absurd (nothing_said (words_of line) b.0 a.0 b.3.spelled)
      ]
      | inr a ↦ elim second.1 [
        | inl b ↦ absurd (nothing_said (words_of line) a.0 b.0 a.3.spelled)
        | inr b ↦
            let head : a.0 ≡ b.0 = SaysFault-same n line a.0 b.0 a.3 b.3 in
            let tail : a.1 ≡ b.1 = IsBody-same (n + 1) lines a.1 b.1 a.4 b.4 in
            a.2 ∙ ap (λ (f : FaultLine). f ∷ a.1) head ∙ ap (λ (l : List FaultLine). b.0 ∷ l) tail ∙ sym b.2
      ]
    ]
