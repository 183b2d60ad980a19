use Rattle.std.proofs.Common.{ℕ, ◌+◌, ◌*◌, ◌^◌, List, length, map, sum, arith, ap, sym, subst, ◌∙◌}
use Rattle.std.proofs.lemmas.List.{length-replicate, take_all}
use Rattle.std.proofs.lemmas.List.FromFn.{fill_by_all}
use Rattle.rh_sparse.specs.declared.matrix.Cell.{Cell}
use Rattle.rh_sparse.specs.Sums.{weighted_sum}
use Rattle.rh_sparse.specs.Checksums.{entry, column, AreSums}
use Rattle.rh_sparse.proofs.Columns.{column_sum_more, column_weighted_sum_more, plain_sum_so_far, weighted_sum_so_far, plain_sums_small, weighted_sums_small}
use Rattle.rh_sparse.proofs.checksums.add_rows.Goals as goal

pub add_row-requires-clause-room : goal.add_row-requires-clause-room
add_row-requires-clause-room c = λ j within.
    let so_far = plain_sum_so_far c.args.a.now c.loop-at.at j c.rows-at-end.ensures.lawful (omega arith) in
    let cols = ap length c.requires.plain ∙ length-replicate c.args.a.now.cols 0 in
    omega (arith, c.loop-at.invariant.0 j (omega arith))

pub add_row-requires-in-loop-at-clause-room : goal.add_row-requires-in-loop-at-clause-room
add_row-requires-in-loop-at-clause-room c = λ j within.
    let so_far = weighted_sum_so_far c.args.a.now c.loop-at.at j c.rows-at-end.ensures.lawful (omega arith) in
    let cols = ap length c.requires.weighted ∙ length-replicate c.args.a.now.cols 0 in
    omega (arith, c.loop-at.invariant.1 j (omega arith))

pub loop-at-preserved : goal.loop-at-preserved
loop-at-preserved c =
    let plain_cols = ap length c.requires.plain ∙ length-replicate c.args.a.now.cols 0 in
    let weighted_cols = ap length c.requires.weighted ∙ length-replicate c.args.a.now.cols 0 in
    let rows = c.args.a.now.rows in (
      λ j within. omega (arith, c.add_row.ensures j (omega arith), c.loop-at.invariant.0 j within, column_sum_more j rows c.loop-at.at c.row-row.result.now (omega arith) c.row-row.ensures.value),
      λ j within. let factor = ap (λ (n : ℕ). (n + 1) * entry j c.row-row.result.now) c.from.ensures in omega (arith, c.add_row-in-loop-at.ensures j (omega arith), c.loop-at.invariant.1 j within, column_weighted_sum_more j rows c.loop-at.at c.row-row.result.now (omega arith) c.row-row.ensures.value),
    )

pub returns-clause-plain : goal.returns-clause-plain
returns-clause-plain c =
    let a = c.args.a.now in
    let cols = ap length c.requires.plain ∙ length-replicate a.cols 0 in
    let all = take_all c.loop-at.at a.rows (omega arith) in
    fill_by_all (λ j. sum (column a j)) c.loop-at.plain a.cols 0 (omega arith) (λ j within. c.loop-at.invariant.0 j within ∙ ap (λ (rows : List (List Cell)). sum (map (entry j) rows)) all)

pub returns-clause-weighted : goal.returns-clause-weighted
returns-clause-weighted c =
    let a = c.args.a.now in
    let cols = ap length c.requires.weighted ∙ length-replicate a.cols 0 in
    let all = take_all c.loop-at.at a.rows (omega arith) in
    fill_by_all (λ j. weighted_sum (column a j)) c.loop-at.weighted a.cols 0 (omega arith) (λ j within. c.loop-at.invariant.1 j within ∙ ap (λ (rows : List (List Cell)). weighted_sum (map (entry j) rows)) all)

pub returns-clause-plain_small : goal.returns-clause-plain_small
returns-clause-plain_small c = subst (λ (sums : List ℕ). AreSums sums (2 ^ 32)) (sym (returns-clause-plain c)) (plain_sums_small c.args.a.now c.rows-at-end.ensures.lawful)

pub returns-clause-weighted_small : goal.returns-clause-weighted_small
returns-clause-weighted_small c = subst (λ (sums : List ℕ). AreSums sums (2 ^ 44)) (sym (returns-clause-weighted c)) (weighted_sums_small c.args.a.now c.rows-at-end.ensures.lawful)
