use Rattle.std.proofs.Common.{length, get_or, ap, ◌∙◌, arith}
use Rattle.std.proofs.lemmas.List.FromFn.{get_or-map-range_with_len}
use Rattle.rh_stencil.specs.Biased.{biased_flux}
use Rattle.rh_stencil.specs.Flux.{balance_value}
use Rattle.rh_stencil.specs.Steps.{line_word}
use Rattle.rh_stencil.proofs.grid.step_row.Goals as goal

pub returns-clause-words : goal.returns-clause-words
returns-clause-words c i h =
    let here = c.args.here.now in
    c.exchange_rows.ensures.words i h
    ∙ ap (λ w. balance_value w (get_or c.args.fluxes.now i 0) (biased_flux (get_or here i 0) (get_or c.args.below.now i 0) c.args.k c.args.s))
    (ap (λ l. get_or l i 0) c.step_line.ensures ∙ get_or-map-range_with_len (line_word c.args.west here c.args.east c.args.k c.args.s) 0 (length here) i i 0 h (omega arith))
