-- One more name that is found.
use Rattle.std.proofs.Common.{◌≡◌, ℕ, ◌+◌, ◌<◌, List, [], ◌∷◌, ◌++◌, Bool, true, false, ◌||◌, not, Some, None, cond, map, take, length, get_or, refl, ap, sym, ◌∙◌}
use Rattle.std.specs.List.{list_any}
use Rattle.std.proofs.lemmas.List.{take_more, map-append}
use Rattle.std.proofs.lemmas.List.Folds.{list_any_at, list_any_more}
use Rattle.std.proofs.lemmas.Option.{none-some, same_Some}

pub one_found : (b : Bool) (n k : ℕ) → Some k ≡ cond b (Some n) None → (b ≡ true) × (k ≡ n)
one_found true n k e = (refl, same_Some k n e)
one_found false n k e = absurd (none-some k (sym e))

pub none_found : (b : Bool) (n : ℕ) → None ≡ cond b (Some n) None → b ≡ false
none_found true n e = absurd (none-some n e)
none_found false n e = refl

-- one name that is not found settles that not all are
pub one_missing : {X : Type 0} (p : X → Bool) (xs : List X) (i : ℕ) (d : X) (b : Bool) → i < length xs → d ≡ get_or xs i d → p d ≡ not b → b ≡ false → false ≡ not (list_any p xs)
one_missing p xs i d b within at test none = sym (ap not (list_any_at p xs i d within (ap p (sym at) ∙ test ∙ ap not none)))

pub none_more : {X : Type 0} (p : X → Bool) (xs : List X) (i : ℕ) (d : X) → i < length xs → list_any p (take i xs) ≡ false → p (get_or xs i d) ≡ false → list_any p (take (i + 1) xs) ≡ false
none_more p xs i d within none here = list_any_more p xs i d within ∙ ap (λ b. b || p (get_or xs i d)) none ∙ here

pub mapped_more : {X Y : Type 0} (f : X → Y) (xs : List X) (i : ℕ) (d : X) → i < length xs → map f (take (i + 1) xs) ≡ map f (take i xs) ++ f (get_or xs i d) ∷ []
mapped_more f xs i d within = ap (map f) (take_more xs i d within) ∙ map-append f (take i xs) (get_or xs i d ∷ [])
