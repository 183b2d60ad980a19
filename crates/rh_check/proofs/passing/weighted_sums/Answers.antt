use Rattle.std.proofs.Common.{◌∙◌, ◌≡◌, ◌+◌, ◌*◌, ℕ, List, [], take, sum, ap}
use Rattle.std.specs.Prelude.{slice_index_or}
use Rattle.std.proofs.lemmas.Option.{get_or_from_slice_get}
use Rattle.std.proofs.lemmas.List.Sums.{sum_by_more}
use Rattle.rh_check.specs.declared.spec.Term.{Term}
use Rattle.rh_check.specs.Checks.{weighted_sums}
use Rattle.rh_check.proofs.ModularSums.{product_joins}
use Rattle.rh_check.proofs.passing.weighted_sums.Goals as goal

pub loop-term-preserved : goal.loop-term-preserved
loop-term-preserved g c =
    let lists = g.I.Inputs.lists c.args.inputs.now in
    let terms = c.args.terms.now in
    let i = c.loop-term.term-index in
    let none : Term = record { input = 0; factor = 0 } in
    let term : Term = slice_index_or terms i none in
    let each = λ (t : Term). t.factor * sum (slice_index_or lists t.input []) in
    let words = get_or_from_slice_get lists term.input c.words.result.now [] c.words.ensures in
    let more : weighted_sums lists (take (i + 1) terms) ≡ weighted_sums lists (take i terms) + term.factor * sum c.words.result.now =
    sum_by_more each terms i none c.loop-term-test.true ∙ ap (λ (l : List ℕ). weighted_sums lists (take i terms) + term.factor * sum l) words in
    product_joins (weighted_sums lists (take i terms)) term.factor (sum c.words.result.now) c.loop-term.sums c.fold_sum-sum.result c.mul.result c.add-sums.result (weighted_sums lists (take (i + 1) terms))
    c.loop-term.invariant c.fold_sum-sum.ensures c.mul.ensures c.add-sums.ensures more
