-- The cells of columns and values, one pair after another.
use Rattle.std.proofs.Common.{◌≡◌, ℕ, ◌+◌, ◌<◌, List, [], ◌∷◌, ◌++◌, length, get_or, take, refl, arith, ap, ◌∙◌}
use Rattle.std.proofs.lemmas.List.{take_more, length-take}
use Rattle.rh_sparse.specs.declared.matrix.Cell.{Cell}
use Rattle.rh_rules.specs.Facets.{cell, cells_of}

cells_push : (js vs : List ℕ) (j v : ℕ) → length js ≡ length vs → cells_of (js ++ j ∷ []) (vs ++ v ∷ []) ≡ cells_of js vs ++ cell j v ∷ []
cells_push [] [] j v same = refl
cells_push [] (w ∷ vs) j v same = absurd (omega arith)
cells_push (i ∷ js) [] j v same = absurd (omega arith)
cells_push (i ∷ js) (w ∷ vs) j v same = ap (λ (l : List Cell). cell i w ∷ l) (cells_push js vs j v (omega arith))

pub cells_more : (js vs : List ℕ) (i : ℕ) → length js ≡ length vs → i < length js → cells_of (take (i + 1) js) (take (i + 1) vs) ≡ cells_of (take i js) (take i vs) ++ cell (get_or js i 0) (get_or vs i 0) ∷ []
cells_more js vs i same within =
    let there : i < length vs = omega arith in
    let both : length (take i js) ≡ length (take i vs) = omega (arith, length-take i js, length-take i vs) in
    ap (λ (l : List ℕ). cells_of l (take (i + 1) vs)) (take_more js i 0 within)
    ∙ ap (λ (l : List ℕ). cells_of (take i js ++ get_or js i 0 ∷ []) l) (take_more vs i 0 there)
    ∙ cells_push (take i js) (take i vs) (get_or js i 0) (get_or vs i 0) both
