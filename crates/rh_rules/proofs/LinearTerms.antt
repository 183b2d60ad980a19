-- The terms of a linear check, written one by one over terms of factor 0.
use Rattle.std.proofs.Common.{◌≡◌, ℕ, zero, suc, set, ◌+◌, ◌<◌, ◌≤◌, List, [], ◌∷◌, ◌++◌, length, get_or, take, drop, refl, arith, ap, sym, ◌∙◌}
use Rattle.std.proofs.lemmas.List.{take_more, take_more_set, take-append-drop, take_all, drop-set-lt, length-set, length-take}
use Rattle.std.proofs.lemmas.List.{length-replicate}
use Rattle.rh_check.specs.declared.spec.Term.{Term}
use Rattle.rh_rules.specs.Facets.{term, terms_of, no_terms, sixteen_terms}

-- so many pairs are written
pub record AreWritten (terms : List Term) (ns cs : List ℕ) (at : ℕ) : Type 0 where
  pub size : length terms ≡ 16
  pub front : take at terms ≡ terms_of (take at ns) (take at cs)
  pub back : drop at terms ≡ drop at no_terms

pub sixteen : length no_terms ≡ 16
unfolding no_terms
sixteen = length-replicate 16 (term 0 0)

terms_push : (ns cs : List ℕ) (n c : ℕ) → length ns ≡ length cs → terms_of (ns ++ n ∷ []) (cs ++ c ∷ []) ≡ terms_of ns cs ++ term n c ∷ []
terms_push [] [] n c same = refl
terms_push [] (d ∷ cs) n c same = absurd (omega arith)
terms_push (m ∷ ns) [] n c same = absurd (omega arith)
terms_push (m ∷ ns) (d ∷ cs) n c same = ap (λ (l : List Term). term m d ∷ l) (terms_push ns cs n c (omega arith))

drop_suc : (l : List Term) (n : ℕ) → drop (suc n) l ≡ drop 1 (drop n l)
drop_suc l zero = refl
drop_suc [] (suc n) = refl
drop_suc (x ∷ l) (suc n) = drop_suc l n

drop_next : (xs ys : List Term) (i : ℕ) → drop i xs ≡ drop i ys → drop (i + 1) xs ≡ drop (i + 1) ys
drop_next xs ys i same =
    let next : i + 1 ≡ suc i = omega arith in
    ap (λ (k : ℕ). drop k xs) next ∙ drop_suc xs i ∙ ap (drop 1) same ∙ sym (drop_suc ys i) ∙ ap (λ (k : ℕ). drop k ys) (sym next)

pub written_next : (terms : List Term) (ns cs : List ℕ) (i : ℕ) → AreWritten terms ns cs i → length ns ≡ length cs → length ns ≤ 16 → i < length ns → AreWritten (set terms i (term (get_or ns i 0) (get_or cs i 0))) ns cs (i + 1)
written_next terms ns cs i h same few within =
    let t : Term = term (get_or ns i 0) (get_or cs i 0) in
    let size : length terms ≡ 16 = h.size in
    let here : i < length terms = omega arith in
    let there : i < length cs = omega arith in
    let both : length (take i ns) ≡ length (take i cs) = omega (arith, length-take i ns, length-take i cs) in
    record {
      size = length-set terms i t ∙ h.size;
      front = take_more_set terms i t here ∙ ap (λ (l : List Term). l ++ t ∷ []) h.front
          ∙ sym (terms_push (take i ns) (take i cs) (get_or ns i 0) (get_or cs i 0) both)
          ∙ ap (λ (l : List ℕ). terms_of l (take i cs ++ get_or cs i 0 ∷ [])) (sym (take_more ns i 0 within))
          ∙ ap (λ (l : List ℕ). terms_of (take (i + 1) ns) l) (sym (take_more cs i 0 there));
      back = drop-set-lt (i + 1) terms i t (omega arith) ∙ drop_next terms no_terms i h.back;
    }

pub written_all : (terms : List Term) (ns cs : List ℕ) (i : ℕ) → AreWritten terms ns cs i → length ns ≡ length cs → length ns ≤ i → i ≤ length ns → terms ≡ sixteen_terms ns cs
written_all terms ns cs i h same end within =
    let at : i ≡ length ns = omega arith in
    sym (take-append-drop i terms)
    ∙ ap (λ (l : List Term). l ++ drop i terms) h.front
    ∙ ap (λ (l : List ℕ). terms_of l (take i cs) ++ drop i terms) (take_all i ns end)
    ∙ ap (λ (l : List ℕ). terms_of ns l ++ drop i terms) (take_all i cs (omega arith))
    ∙ ap (λ (l : List Term). terms_of ns cs ++ l) (h.back ∙ ap (λ (n : ℕ). drop n no_terms) at)
