use Rattle.std.proofs.Common.{◌∙◌, ◌+◌, ℕ, List, Some, None, length, ap, refl}
use Rattle.std.specs.Prelude.{position}
use Rattle.std.specs.Str.{bytes_eq}
use Rattle.rh_plan.specs.FaultTables.{name_at}
use Rattle.rh_plan.proofs.LocalLens.{local_found}
use Rattle.rh_plan.proofs.resolving.local_number.Goals as goal

pub returns-in-Some : goal.returns-in-Some
returns-in-Some c =
    local_found c.args.promises.now c.args.node.now c.args.name.now (Some c.in-Some.at) (position (λ n. bytes_eq n c.args.name.now) c.args.node.now.lets)
    (c.in-Some.ensures ∙ ap (λ (l : List ℕ). position (λ (q : ℕ). bytes_eq (name_at c.args.promises.now q) c.args.name.now) l) c.as_slice-awaits.ensures) refl

pub returns-in-Some-let_named : goal.returns-in-Some-let_named
returns-in-Some-let_named c =
    ap (λ (l : List ℕ). Some (length l + c.in-Some-let_named.at)) c.as_slice-awaits.ensures
    ∙ local_found c.args.promises.now c.args.node.now c.args.name.now None (Some c.in-Some-let_named.at)
    (c.in_default.ensures ∙ ap (λ (l : List ℕ). position (λ (q : ℕ). bytes_eq (name_at c.args.promises.now q) c.args.name.now) l) c.as_slice-awaits.ensures)
    (c.in-Some-let_named.ensures.place ∙ ap (λ (l : List (List ℕ)). position (λ n. bytes_eq n c.args.name.now) l) c.as_slice.ensures.value)

pub returns-in-None : goal.returns-in-None
returns-in-None c =
    local_found c.args.promises.now c.args.node.now c.args.name.now None None
    (c.in_default.ensures ∙ ap (λ (l : List ℕ). position (λ (q : ℕ). bytes_eq (name_at c.args.promises.now q) c.args.name.now) l) c.as_slice-awaits.ensures)
    (c.in-None.ensures.place ∙ ap (λ (l : List (List ℕ)). position (λ n. bytes_eq n c.args.name.now) l) c.as_slice.ensures.value)
