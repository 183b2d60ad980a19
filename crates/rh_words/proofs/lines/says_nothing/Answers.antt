use Rattle.std.proofs.Common.{◌≢◌, ℕ, ◌<◌, List, length, get_or, sym, subst, arith, eqb-true, eq-eqb}
use Rattle.rh_words.specs.Text.{SaysNothing}
use Rattle.rh_words.proofs.Cutting.{nothing_said, comment_said}
use Rattle.rh_words.proofs.lines.says_nothing.Goals as goal

pub returns-else-start-line : goal.returns-else-start-line
returns-else-start-line c =
    let line = c.args.line.now in
    let start = c.skip_spaces-start.result in
    let inside : start < length line = omega arith in
    let begins : get_or line start 0 ≢ 32 = c.skip_spaces-start.ensures.found inside in
    let words = c.skip_spaces-start.ensures.words in (
      λ is. subst (λ (ws : List (List ℕ)). SaysNothing ws) (sym words) (nothing_said line start inside begins (eqb-true _ 35 is)),
      λ nothing. eq-eqb _ 35 (comment_said line start inside begins (subst (λ (ws : List (List ℕ)). SaysNothing ws) words nothing)),
    )
