use Rattle.std.proofs.Common.{sym, ◌∙◌, ◌++◌, List, ℕ, ap, map, take, get_or}
use Rattle.std.proofs.lemmas.List.{take_more}
use Rattle.rh_words.specs.Kernels.{join_value}
use Rattle.rh_check.specs.Checks.{words_at}
use Rattle.rh_attempt.proofs.Locals.{joined_more}
use Rattle.rh_attempt.proofs.lets.joined.Goals as goal

pub loop-part-preserved : goal.loop-part-preserved
loop-part-preserved c =
    let locals = c.args.locals.now in
    let parts = c.args.parts.now in
    let i = c.loop-part.part-index in
    joined_more locals c.loop-part.words c.join_part.new.into (take i parts) (get_or parts i 0) c.loop-part.invariant (c.in_ok-join_part.ensures.ok ∙ ap (λ (l : List ℕ). c.loop-part.words ++ l) c.words_at_word.ensures)
    ∙ ap (λ (l : List ℕ). join_value (map (words_at locals) l)) (sym (take_more parts i 0 c.loop-part-test.true))
