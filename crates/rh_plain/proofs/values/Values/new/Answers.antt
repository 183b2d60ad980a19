use Rattle.std.proofs.Common.{◌++◌, ◌∷◌, [], ◌∙◌, List, Option, None, ℕ, ap}
use Rattle.std.proofs.lemmas.List.{replicate-append-replicate}
use Rattle.rh_plain.proofs.values.Values.new.Goals as goal

pub loop-preserved : goal.loop-preserved
loop-preserved c =
    c.in_ok-push.ensures.items
    ∙ ap (λ (l : List (Option (List ℕ))). l ++ None ∷ []) c.loop.invariant
    ∙ replicate-append-replicate c.loop.counter 1 None
