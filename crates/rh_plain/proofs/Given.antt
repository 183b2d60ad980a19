-- Promises that are given words one after another.
use Rattle.std.proofs.Common.{◌≡◌, ℕ, ◌==◌, List, [], ◌∷◌, ◌++◌, Option, Some, None, refl, ap, sym, ◌∙◌, inl, inr}
use Rattle.std.proofs.lemmas.Bool.{cases_Bool, cond-true, cond-false}
use Rattle.std.specs.List.{find}
use Rattle.std.specs.Option.{option_map}
use Rattle.rh_plan.specs.declared.made_put.MadePut.{MadePut}
use Rattle.rh_plan.specs.Buffers.{words_put}
use Rattle.rh_plain.specs.Values.{words_at, kept_or, AreGiven}

kept_or-append : (a b c : Option (List ℕ)) → kept_or (kept_or a b) c ≡ kept_or a (kept_or b c)
kept_or-append None b c = refl
kept_or-append (Some w) b c = refl

words_put-append : (q : ℕ) (ps rs : List MadePut) → words_put q (ps ++ rs) ≡ kept_or (words_put q ps) (words_put q rs)
words_put-append q [] rs = refl
words_put-append q (p ∷ ps) rs = elim (cases_Bool (p.promise == q)) [
  | inl here ↦
      let f = λ (o : Option MadePut). option_map (λ (m : MadePut). m.words) o in
      ap f (cond-true (p.promise == q) (Some p) (find (λ m. m.promise == q) (ps ++ rs)) here)
      ∙ sym (ap (λ (o : Option (List ℕ)). kept_or o (words_put q rs)) (ap f (cond-true (p.promise == q) (Some p) (find (λ m. m.promise == q) ps) here)))
  | inr other ↦
      let f = λ (o : Option MadePut). option_map (λ (m : MadePut). m.words) o in
      ap f (cond-false (p.promise == q) (Some p) (find (λ m. m.promise == q) (ps ++ rs)) other)
      ∙ words_put-append q ps rs
      ∙ sym (ap (λ (o : Option (List ℕ)). kept_or o (words_put q rs)) (ap f (cond-false (p.promise == q) (Some p) (find (λ m. m.promise == q) ps) other)))
]

-- one more put is given
pub given_more : (ps : List MadePut) (p : MadePut) (a b c : List (Option (List ℕ))) → AreGiven (λ q. words_put q ps) a b → AreGiven (λ q. words_put q (p ∷ [])) b c → AreGiven (λ q. words_put q (ps ++ p ∷ [])) a c
given_more ps p a b c first last = record {
  count = last.count ∙ first.count;
  words = λ q.
      last.words q ∙ ap (λ (o : Option (List ℕ)). kept_or o (words_put q (p ∷ []))) (first.words q)
      ∙ kept_or-append (words_at a q) (words_put q ps) (words_put q (p ∷ []))
      ∙ ap (kept_or (words_at a q)) (sym (words_put-append q ps (p ∷ [])));
}
