use Rattle.std.proofs.Common.{◌*◌, ◌-◌, ◌/◌, length, ◌∙◌}
use Rattle.rh_stencil.proofs.LineWords.{line_of_words}
use Rattle.rh_stencil.proofs.line.step_line.Goals as goal

pub returns : goal.returns
returns c =
    let blocks = c.step_blocks-into in
    let rest = c.step_rest in
    line_of_words c.args.before c.args.after c.args.k c.args.s (4 * ((length c.args.m.now - 1) / 4)) c.args.m.now rest.new.out (rest.auto.out ∙ blocks.auto.out ∙ c.requires.same)
    (λ i h. rest.ensures.rest i h ∙ blocks.ensures.words c.args.after i h)
    (λ i low high. rest.ensures.words c.args.before i blocks.ensures.into low high)
