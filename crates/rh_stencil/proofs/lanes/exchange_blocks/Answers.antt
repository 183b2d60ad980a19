use Rattle.std.proofs.Common.{◌+◌, ◌*◌, ◌≤◌, length, get_or, ap, ◌∙◌, arith}
use lib.Lanes.{chunk}
use Rattle.std.proofs.lemmas.Simd.{length-put_chunk, length-chunk, get_or-put_chunk_above}
use Rattle.rh_stencil.specs.Flux.{balance_value}
use Rattle.rh_stencil.specs.Biased.{biased_balance_at, biased_flux_at}
use Rattle.rh_stencil.proofs.BlocksOfFour.{block_written}
use Rattle.rh_stencil.proofs.LaneBalance.{lane_balance, length-lane_balance}
use Rattle.rh_stencil.proofs.RowFluxes.{row_balance, row_flux, length-row_fluxes}
use Rattle.rh_stencil.proofs.lanes.exchange_blocks.Goals as goal

pub loop-block-preserved : goal.loop-block-preserved
loop-block-preserved c =
    let at = 4 * c.loop-block.block in
    let v = c.loop-block.invariant in
    let out = c.loop-block.out in
    let fluxes = c.loop-block.fluxes in
    let here = c.args.here.now in
    let below = c.args.below.now in
    let k = c.args.k in
    let s = c.args.s in
    let from = c.biased_fluxes-from.result in
    let e = c.biased_fluxes-from.ensures in
    let test = c.loop-block-test.true in
    let same = c.requires.same in
    let room : at + 4 ≤ length here = omega arith in
    let ro : at + 4 ≤ length out = omega arith in
    let rf : at + 4 ≤ length fluxes = omega arith in
    let rb : at + 4 ≤ length below = omega arith in
    let long = ap length e ∙ length-row_fluxes here below at k s room rb in
    let balanced = lane_balance (chunk at 4 out) (chunk at 4 fluxes) from in
    let four = length-lane_balance (chunk at 4 out) (chunk at 4 fluxes) from (length-chunk at 4 out ro) (length-chunk at 4 fluxes rf) long in
    record {
      same = length-put_chunk at out balanced ∙ v.same;
      long = length-put_chunk at fluxes from ∙ v.long;
      words = λ i h. block_written (biased_balance_at c.args.out.now c.args.fluxes.now here below k s) out balanced at i four ro (omega arith) v.words
          (λ j hj. ap (λ l. get_or (lane_balance (chunk at 4 out) (chunk at 4 fluxes) l) j 0) e
          ∙ row_balance out fluxes here below at j k s ro rf room rb hj
          ∙ ap (λ w. balance_value w (get_or fluxes (at + j) 0) (biased_flux_at here below k s (at + j))) (v.rest (at + j) (omega arith)).0
          ∙ ap (λ w. balance_value (get_or c.args.out.now (at + j) 0) w (biased_flux_at here below k s (at + j))) (v.rest (at + j) (omega arith)).1);
      fluxes = λ i h. block_written (biased_flux_at here below k s) fluxes from at i long rf (omega arith) v.fluxes (λ j hj. ap (λ l. get_or l j 0) e ∙ row_flux here below at j k s room rb hj);
      rest = λ i h. (get_or-put_chunk_above at out balanced i 0 (omega arith) ∙ (v.rest i (omega arith)).0, get_or-put_chunk_above at fluxes from i 0 (omega arith) ∙ (v.rest i (omega arith)).1);
    }
