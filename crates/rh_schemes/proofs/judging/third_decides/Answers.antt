use Rattle.std.proofs.Common.{◌∙◌, sym}
use Rattle.std.proofs.lemmas.Result.{IfOk-weaker}
use Rattle.rh_schemes.proofs.Replicas.{third_with_first, third_with_second, none_agree}
use Rattle.rh_schemes.proofs.judging.third_decides.Goals as goal

pub returns-then-same : goal.returns-then-same
returns-then-same c =
    IfOk-weaker c.first_and_third.result _ _ (λ r is. is ∙ sym (third_with_first c.args.first c.args.second c.args.third.now c.requires (sym c.same.ensures.value ∙ c.if-same.true))) c.first_and_third.ensures

pub returns-then-same-2 : goal.returns-then-same-2
returns-then-same-2 c =
    IfOk-weaker c.second_and_third.result _ _
    (λ r is. is ∙ sym (third_with_second c.args.first c.args.second c.args.third.now c.requires (sym c.same.ensures.value ∙ c.if-same.false) (sym c.same-else-same.ensures.value ∙ c.if-same-2.true))) c.second_and_third.ensures

pub returns : goal.returns
returns c =
    IfOk-weaker c.none_of_three.result _ _
    (λ r is. is ∙ sym (none_agree c.args.first c.args.second c.args.third.now c.requires (sym c.same.ensures.value ∙ c.if-same.false) (sym c.same-else-same.ensures.value ∙ c.if-same-2.false))) c.none_of_three.ensures
