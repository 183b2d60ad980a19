-- What one more step puts.
use Rattle.std.proofs.Common.{◌≡◌, ℕ, ◌+◌, ◌<◌, List, [], ◌∷◌, ◌++◌, refl, sym, ap, ◌∙◌, take, length, get_or, append_assoc, append-nil}
use Rattle.std.proofs.lemmas.List.{take_more}
use Rattle.rh_rules.specs.declared.body.Step.{Step}
use Rattle.std.specs.Prelude.{◌||◌, ◌==◌}
use Rattle.std.specs.List.{list_any}
use Rattle.std.proofs.lemmas.List.Folds.{list_any-append}
use Rattle.rh_rules.specs.Tables.{is_in}
use Rattle.rh_rules.specs.Bodies.{promises_put, put_at}

pub promises_put_push : (xs : List Step) (y : Step) → promises_put (xs ++ y ∷ []) ≡ promises_put xs ++ put_at y
promises_put_push [] y = append-nil (put_at y)
promises_put_push (x ∷ xs) y = ap (λ (l : List ℕ). put_at x ++ l) (promises_put_push xs y) ∙ sym (append_assoc (put_at x) (promises_put xs) (put_at y))

pub promises_put_more : (xs : List Step) (i : ℕ) (d : Step) → i < length xs → promises_put (take (i + 1) xs) ≡ promises_put (take i xs) ++ put_at (get_or xs i d)
promises_put_more xs i d h = ap promises_put (take_more xs i d h) ∙ promises_put_push (take i xs) (get_or xs i d)

-- a step that puts the promise is one of the steps
pub put_in_any : (q : ℕ) (steps : List Step) → list_any (λ s. is_in q (put_at s)) steps ≡ is_in q (promises_put steps)
put_in_any q [] = refl
put_in_any q (s ∷ steps) = ap (λ b. is_in q (put_at s) || b) (put_in_any q steps) ∙ sym (list_any-append (λ m. m == q) (put_at s) (promises_put steps))
