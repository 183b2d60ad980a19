use Rattle.std.proofs.Common.{ap, ◌∙◌}
use Rattle.rh_sparse.specs.Checksums.{ChecksumData, expected_sum, plain_difference, weighted_difference}
use Rattle.rh_sparse.proofs.Differences.{difference_is}
use Rattle.rh_sparse.proofs.checksums.Checksums.differences.Goals as goal

pub returns-clause-plain : goal.returns-clause-plain
unfolding plain_difference
returns-clause-plain c =
    let expects = c.expected.ensures.value ∙ ap (λ sums. expected_sum sums c.args.x.now) c.as_slice.ensures.value ∙ ap (λ (s : ChecksumData). expected_sum s.plain c.args.x.now) c.self.view_is in
    difference_is _ _ _ _ c.total.ensures.value expects c.total.ensures.range c.expected.ensures.range

pub returns-clause-weighted : goal.returns-clause-weighted
unfolding weighted_difference
returns-clause-weighted c =
    let expects = c.expected-2.ensures.value ∙ ap (λ sums. expected_sum sums c.args.x.now) c.as_slice-2.ensures.value ∙ ap (λ (s : ChecksumData). expected_sum s.weighted c.args.x.now) c.self.view_is in
    difference_is _ _ _ _ c.weighted_total.ensures.value expects c.weighted_total.ensures.range c.expected-2.ensures.range
