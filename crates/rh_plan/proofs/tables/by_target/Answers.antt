use Rattle.std.proofs.Common.{◌<◌, ◌∙◌, ℕ, zero, suc, List, [], ◌∷◌, map, sym, arith, subst}
use Rattle.std.specs.List.{All, AllByRecursion}
use Rattle.rh_plan.specs.declared.edge.Edge.{Edge}
use Rattle.rh_plan.specs.Lawful.{IsForward}
use Rattle.rh_plan.proofs.tables.by_target.Goals as goal

targets_below : (n : ℕ) (edges : List Edge) → AllByRecursion (IsForward n) edges → All (λ k. k < n) (map (λ e. e.to) edges)
targets_below n [] forward k d within = absurd (omega arith)
targets_below n (e ∷ edges) forward zero d within = let rises = forward.0.rises in let inside = forward.0.within in omega arith
targets_below n (e ∷ edges) forward (suc k) d within = targets_below n edges forward.1 k d (omega arith)

pub grouped-requires-clause-below : goal.grouped-requires-clause-below
grouped-requires-clause-below c =
    let P : List ℕ → Type 0 = All (λ k. k < c.args.n) in
    subst P (sym (c.deref.ensures.value ∙ c.in_ok-targets.ensures)) (targets_below c.args.n c.args.edges.now c.requires.forward)
