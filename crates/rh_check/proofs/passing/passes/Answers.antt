use Rattle.std.proofs.Common.{◌∙◌, ◌==◌, ◌%◌, ◌^◌, ℕ, ap, sum, take, subst}
use Rattle.rh_check.specs.Fitting.{FitsInputs}
use Rattle.rh_check.specs.Checks.{spec_passes, weighted_sums}
use Rattle.rh_check.proofs.ModularSums.{kept_answer, reduced_sum}
use Rattle.std.specs.List.{slice_get}
use Rattle.rh_check.proofs.HeldMatrices.{columns_fit, held_agree}
use Rattle.rh_check.proofs.passing.passes.Goals as goal

pub returns-in-Range : goal.returns-in-Range
unfolding spec_passes
returns-in-Range g c = rw c.in-Range.is c.are_within.ensures

pub returns-in-Total : goal.returns-in-Total
unfolding spec_passes
returns-in-Total g c = rw c.in-Total.is (ap (λ (n : ℕ). n == c.in-Total.sum) c.fold_sum.ensures)

pub returns-in-Linear : goal.returns-in-Linear
unfolding spec_passes
returns-in-Linear g c =
    let sums = weighted_sums (g.I.Inputs.lists c.args.inputs.now) (take c.in-Linear.count c.in-Linear.terms) in
    let total = c.add.ensures ∙ reduced_sum c.in-Linear.base sums c.weighted_sums-sums.result c.weighted_sums-sums.ensures in
    rw c.in-Linear.is (ap (λ (n : ℕ). n == c.add.result) c.fold_sum-in-Linear.ensures ∙ ap (λ (n : ℕ). sum c.args.words.now % 2 ^ 64 == n) total)

pub returns-in-User : goal.returns-in-User
unfolding spec_passes
returns-in-User g c =
    let users = g.C.Checks.specs c.args.checks.now in
    let within = subst (FitsInputs c.args.matrices.now (g.I.Inputs.lists c.args.inputs.now) c.args.words.now users) c.in-User.is c.requires in
    rw c.in-User.is (kept_answer users c.in-User.at c.args.words.now c.ask.result within c.ask.ensures)

pub agrees-requires-clause-columns : goal.agrees-requires-clause-columns
agrees-requires-clause-columns g c =
    let matrices = c.args.matrices.now in
    let inputs = g.I.Inputs.lists c.args.inputs.now in
    let fits = subst (FitsInputs matrices inputs c.args.words.now (g.C.Checks.specs c.args.checks.now)) c.in-Product.is c.requires in
    columns_fit (slice_get matrices c.in-Product.matrix) inputs c.in-Product.x c.args.words.now c.words.result.now c.sums.result.now fits c.sums.ensures c.words.ensures

pub returns-in-Product : goal.returns-in-Product
unfolding spec_passes
returns-in-Product g c =
    let matrices = c.args.matrices.now in
    let inputs = g.I.Inputs.lists c.args.inputs.now in
    rw c.in-Product.is (held_agree (slice_get matrices c.in-Product.matrix) inputs c.in-Product.x c.args.words.now c.words.result.now c.sums.result.now c.agrees.result c.sums.ensures c.words.ensures c.agrees.ensures)

pub returns-in-Conserve : goal.returns-in-Conserve
unfolding spec_passes
returns-in-Conserve g c = rw c.in-Conserve.is c.keeps_line.ensures

pub returns-in-Conserve2 : goal.returns-in-Conserve2
unfolding spec_passes
returns-in-Conserve2 g c = rw c.in-Conserve2.is c.keeps_grid.ensures
