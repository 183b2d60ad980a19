use Rattle.std.proofs.Common.{[], subst}
use Rattle.std.specs.List.{slice_get}
use Rattle.rh_check.specs.Fitting.{FitsInputs}
use Rattle.rh_check.proofs.HeldMatrices.{columns_fit}
use Rattle.rh_schemes.proofs.Restorings.{held_restores}
use Rattle.rh_schemes.proofs.correcting.restore_words.Goals as goal

pub restore_word-requires-clause-columns : goal.restore_word-requires-clause-columns
restore_word-requires-clause-columns g c =
    let matrices = c.args.matrices.now in
    let inputs = g.I.Inputs.lists c.args.inputs.now in
    let fits = subst (FitsInputs matrices inputs c.args.words.now []) c.in-Product.is c.requires.fits in
    columns_fit (slice_get matrices c.in-Product.matrix) inputs c.in-Product.x c.args.words.now c.words.result.now c.sums.result.now fits c.sums.ensures c.words.ensures

pub returns-clause-word : goal.returns-clause-word
returns-clause-word g c =
    let matrices = c.args.matrices.now in
    let inputs = g.I.Inputs.lists c.args.inputs.now in
    rw c.in-Product.is (held_restores (slice_get matrices c.in-Product.matrix) inputs c.in-Product.x c.args.words.now c.words.result.now c.sums.result.now _ c.sums.ensures c.words.ensures c.restore_word.ensures.word)
