use Rattle.std.proofs.Common.{◌≡◌, ◌+◌, ◌*◌, ◌-◌, ◌%◌, ◌<◌, ◌^◌, ◌/◌, length, get_or, refl, ap, ◌∙◌, arith}
use lib.Lanes.{chunk}
use Rattle.std.proofs.lemmas.Simd.{length-put_chunk, length-chunk}
use Rattle.rh_stencil.specs.Steps.{line_inflow, line_word, word_left}
use Rattle.rh_stencil.proofs.FluxBias.{flux_unturned}
use Rattle.rh_stencil.proofs.BlocksOfFour.{block_word, block_written, length-block_fluxes, last_flux, shifted_by_one}
use Rattle.rh_stencil.proofs.LaneBalance.{lane_balance, length-lane_balance}
use Rattle.rh_stencil.proofs.lanes.step_blocks.Goals as goal

pub loop-block-preserved : goal.loop-block-preserved
loop-block-preserved c =
    let m = c.args.m.now in
    let at = 4 * c.loop-block.block in
    let v = c.loop-block.invariant in
    let from = c.biased_fluxes-from.result in
    let e = c.biased_fluxes-from.ensures in
    let test = c.loop-block-test.true in
    let room : at + 4 < length m = omega arith in
    let four : length from ≡ 4 = ap length e ∙ length-block_fluxes m at c.args.k c.args.s room in
    let same : length c.loop-block.out ≡ length m = v.same in
    let stepped = lane_balance (chunk at 4 m) (shifted_by_one c.loop-block.into from) from in
    record {
      four = four;
      same = length-put_chunk at c.loop-block.out stepped ∙ same;
      into = ap (λ l. get_or l 3 0) e ∙ last_flux c.args.before m at (4 * (c.loop-block.block + 1)) c.args.k c.args.s room (omega arith);
      words = λ after i h. block_written (line_word c.args.before m after c.args.k c.args.s) c.loop-block.out stepped at i
          (length-lane_balance (chunk at 4 m) (shifted_by_one c.loop-block.into from) from (length-chunk at 4 m (omega arith)) refl four) (omega arith) (omega arith) (v.words after)
          (λ j k. ap (λ l. get_or (lane_balance (chunk at 4 m) (shifted_by_one c.loop-block.into l) l) j 0) e ∙ block_word c.args.before after m c.loop-block.into at j c.args.k c.args.s c.requires.shift room v.four v.into k);
    }

pub returns-clause-into : goal.returns-clause-into
returns-clause-into c =
    let m = c.args.m.now in
    let v = c.loop-block.invariant in
    let over = c.loop-block-test.false in
    let end : c.loop-block.block ≡ c.args.blocks = omega arith in
    ap (λ w. (w + (18446744073709551616 - 9223372036854775808 / 2 ^ c.args.s)) % 18446744073709551616) v.into
    ∙ flux_unturned (word_left c.args.before m (4 * c.loop-block.block)) (get_or m (4 * c.loop-block.block) 0) c.args.k c.args.s c.requires.shift
    ∙ ap (λ b. line_inflow c.args.before m c.args.k c.args.s (4 * b)) end
