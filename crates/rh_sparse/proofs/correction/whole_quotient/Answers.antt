use Rattle.std.proofs.Common.{ℤ, ap, ◌∙◌}
use Rattle.std.proofs.lemmas.Int.{to_z-of_z}
use Rattle.std.specs.Int.{w128, cast_signed, cast_unsigned}
use Rattle.std.specs.Int.RustNames.{int_rem}
use Rattle.rh_sparse.proofs.Quotients.{rem_of_multiple}
use Rattle.rh_sparse.proofs.correction.whole_quotient.Goals as goal

pub returns-else-product-divisor-eq0-clause-value : goal.returns-else-product-divisor-eq0-clause-value
returns-else-product-divisor-eq0-clause-value c = λ q is.
    let divided = ap (λ (z : ℤ). int_rem z (cast_signed w128 (cast_unsigned w128 c.args.divisor))) (to_z-of_z w128 c.args.product c.ranges.product) in
    let divides = ap (λ (d : ℤ). int_rem c.args.product d) (to_z-of_z w128 c.args.divisor c.ranges.divisor) in
    c.if-product-divisor-eq0.false (ap (λ (z : ℤ). cast_unsigned w128 z) (divided ∙ divides ∙ rem_of_multiple q c.args.divisor c.args.product is))
