use Rattle.std.proofs.Common.{◌≡◌, ℕ, ◌+◌, ◌*◌, ◌<◌, ◌≤◌, length, get_or, refl, ap, sym, ◌∙◌, arith}
use Rattle.std.specs.List.{between}
use Rattle.std.proofs.lemmas.List.Edits.{length-between, get_or-between}
use Rattle.std.proofs.lemmas.List.FromFn.{fill_by_all}
use Rattle.rh_stencil.specs.Biased.{biased_flux}
use Rattle.rh_stencil.specs.Flux.{balance_value}
use Rattle.rh_stencil.specs.Grids.{grid_word, word_north}
use Rattle.rh_stencil.specs.Steps.{line_word}
use Rattle.rh_stencil.proofs.RowFluxes.{balance_of_biased}
use Rattle.rh_stencil.proofs.RowWords.{next_row, row_inside, row_word, row_written, length-put_row, above_later, below_inner}
use Rattle.rh_stencil.proofs.grid.step_rows.Goals as goal

pub row_below-below-requires-clause-whole : goal.row_below-below-requires-clause-whole
row_below-below-requires-clause-whole c h =
    let whole = c.requires.fits.whole in
    let next = next_row c.loop-row.row (length c.args.west.now) c.args.cols (omega arith) in
    omega arith

pub loop-row-preserved : goal.loop-row-preserved
loop-row-preserved c =
    let m = c.args.m.now in
    let north = c.args.north.now in
    let south = c.args.south.now in
    let row = c.loop-row.row in
    let cols = c.args.cols in
    let k = c.args.k in
    let s = c.args.s in
    let v = c.loop-row.invariant in
    let whole = c.requires.fits.whole in
    let test = c.loop-row-test.true in
    let inside = row_inside row (length c.args.west.now) cols test in
    let room : row * cols + cols ≤ length m = omega arith in
    let same = v.same in
    let below = c.row_below-below.result.now in
    let here = between (row * cols) (row * cols + cols) m in
    let wide : length (between (row * cols) (row * cols + cols) m) ≡ cols = length-between m (row * cols) (row * cols + cols) room ∙ omega arith in
    let long : length c.step_row.new.out ≡ cols = c.step_row.auto.out ∙ length-between c.loop-row.out (row * cols) (row * cols + cols) (omega arith) ∙ omega arith in
    let there : (j : ℕ) → j < cols → get_or (between (row * cols) (row * cols + cols) m) j 0 ≡ get_or m (row * cols + j) 0 = λ j hj. get_or-between m (row * cols) (row * cols + cols) j 0 (omega arith) in
    let into = v.into test in
    record {
      same = length-put_row (row * cols) cols c.loop-row.out c.step_row.new.out (omega arith) long ∙ same;
      wide = c.step_row.auto.fluxes ∙ v.wide;
      words = λ i h. row_written (grid_word north south c.args.west.now c.args.east.now m cols k s) c.loop-row.out c.step_row.new.out row cols i (omega arith) long h v.words
          (λ j hj. c.step_row.ensures.words j (omega arith)
          ∙ ap (λ w. balance_value (line_word (get_or c.args.west.now row 0) here (get_or c.args.east.now row 0) k s j) w (biased_flux (get_or here j 0) (get_or below j 0) k s))
          (into j hj ∙ ap (λ w. biased_flux (word_north north m cols (row * cols + j)) w k s) (sym (there j hj)))
          ∙ balance_of_biased (line_word (get_or c.args.west.now row 0) here (get_or c.args.east.now row 0) k s j) (word_north north m cols (row * cols + j)) (get_or here j 0) (get_or below j 0) k s c.requires.shift
          ∙ row_word north south c.args.west.now c.args.east.now m here below (word_north north m cols (row * cols + j)) row cols j k s hj room refl refl (c.row_below-below.ensures.words j hj));
      into = λ next j hj. c.step_row.ensures.fluxes j (omega arith)
          ∙ ap (λ w. biased_flux w (get_or below j 0) k s) (there j hj ∙ sym (above_later north m row cols j))
          ∙ ap (λ w. biased_flux (word_north north m cols ((row + 1) * cols + j)) w k s) (c.row_below-below.ensures.words j hj ∙ below_inner south m row (length c.args.west.now) cols j next hj whole);
    }

pub returns : goal.returns
returns c =
    let v = c.loop-row.invariant in
    let over = c.loop-row-test.false in
    let end : c.loop-row.row ≡ length c.args.west.now = omega arith in
    fill_by_all (grid_word c.args.north.now c.args.south.now c.args.west.now c.args.east.now c.args.m.now c.args.cols c.args.k c.args.s) c.loop-row.out (length c.args.m.now) 0 v.same
    (λ i h. v.words i (let e : c.loop-row.row * c.args.cols ≡ length c.args.m.now = ap (λ r. r * c.args.cols) end ∙ sym c.requires.fits.whole in omega arith))
