use Rattle.std.proofs.Common.{◌≡◌, ◌∙◌, ℕ, zero, suc, [], ◌∷◌, Some, ap}
use Rattle.std.proofs.lemmas.Option.{none-some, same_Some}
use Rattle.std.specs.List.{slice_get}
use Rattle.rh_check.specs.declared.spec.UserSpec.{UserSpec}
use Rattle.rh_check.specs.declared.spec.UserSpec.TheVariants.{Range}
use Rattle.rh_check.specs.Checks.{user_passes}
use Rattle.rh_value_tests.proofs.check.SmallChecks.ask.Goals as goal

the_one : (at : ℕ) (x u : UserSpec) → slice_get (x ∷ []) at ≡ Some u → x ≡ u
the_one zero x u is = same_Some x u is
the_one (suc at) x u is = absurd (none-some u is)

pub returns : goal.returns
unfolding user_passes
returns c u is = c.are_within.ensures ∙ ap (λ (s : UserSpec). user_passes s c.args.words.now) (the_one c.args._at (Range 4 9) u is)
