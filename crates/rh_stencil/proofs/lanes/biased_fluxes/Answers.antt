use Rattle.std.proofs.Common.{ℕ, List, ◌∷◌, [], ap, ◌∙◌, ◌/◌, ◌+◌, ◌%◌, ◌^◌, sym}
use Rattle.std.specs.Simd.Lanes.{zip2}
use Rattle.rh_stencil.specs.Biased.{biased_flux}
use Rattle.rh_stencil.proofs.LanesOfFluxes.{biased_lanes, biased_lanes_of_one}
use Rattle.rh_stencil.proofs.lanes.biased_fluxes.Goals as goal
use Rattle.rh_stencil.proofs.lanes.biased_fluxes.Goals.{then-k-eq1, else-k-eq1}

abbrev turned : ℕ → List ℕ → List ℕ
turned s d = zip2 (λ a b. a / 2 ^ b) (zip2 (λ a b. (a + b) % 18446744073709551616) d (9223372036854775808 ∷ 9223372036854775808 ∷ 9223372036854775808 ∷ 9223372036854775808 ∷ [])) (s ∷ s ∷ s ∷ s ∷ [])

pub returns : goal.returns
returns c = elim c.if-k-eq1.branch [
  | then-k-eq1 w ↦ ap (turned c.args.s) w.scaled-is ∙ biased_lanes_of_one c.args.s 4 c.args.left c.args.right c.fits-left.0 c.fits-right.0 c.fits-right.1 ∙ ap (λ (k : ℕ). zip2 (λ x y. biased_flux x y k c.args.s) c.args.left c.args.right) (sym w.if-k-eq1.true)
  | else-k-eq1 w ↦ ap (turned c.args.s) w.scaled-is ∙ biased_lanes c.args.k c.args.s 4 c.args.left c.args.right c.fits-left.0 c.fits-right.0 c.fits-right.1
]
