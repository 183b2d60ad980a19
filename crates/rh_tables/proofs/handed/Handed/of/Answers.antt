use Rattle.std.proofs.Common.{◌≡◌, ◌<◌, ◌∙◌, ◌++◌, ◌∷◌, [], ℕ, List, length, get_or, take, ap, sym, arith}
use Rattle.std.proofs.lemmas.List.{take_more}
use Rattle.std.proofs.lemmas.Option.{slice_get-get_or}
use Rattle.rh_check.specs.declared.spec.UserSpec.{UserSpec}
use Rattle.rh_check.specs.declared.spec.UserSpec.TheVariants.{Total}
use Rattle.rh_tables.proofs.handed.Handed.of.Goals as goal

pub loop-at-preserved : goal.loop-at-preserved
loop-at-preserved g c =
    let names = g.C.Checks.names c.args.checks.now in
    let specs = g.C.Checks.specs c.args.checks.now in
    let i = c.loop-at.at in
    let counted : c.count-at-end.result ≡ length names = c.count-at-end.ensures.names in
    let asked : c.count-at-end.result ≡ length specs = c.count-at-end.ensures.specs in
    let here : i < length names = omega arith in
    let there : i < length specs = omega arith in
    let name : c.name.result ≡ get_or names i [] = c.name.ensures (get_or names i []) (slice_get-get_or names i [] here) in
    let spec : c.spec.result ≡ get_or specs i (Total 0) = c.spec.ensures (get_or specs i (Total 0)) (slice_get-get_or specs i (Total 0) there) in
    record {
      names = c.in_ok-push.ensures.items ∙ ap (λ (l : List (List ℕ)). l ++ c.name.result ∷ []) c.loop-at.invariant.names ∙ ap (λ (n : List ℕ). take i names ++ n ∷ []) name ∙ sym (take_more names i [] here);
      specs = c.in_ok-push-2.ensures.items ∙ ap (λ (l : List UserSpec). l ++ c.spec.result ∷ []) c.loop-at.invariant.specs ∙ ap (λ (u : UserSpec). take i specs ++ u ∷ []) spec ∙ sym (take_more specs i (Total 0) there);
    }
