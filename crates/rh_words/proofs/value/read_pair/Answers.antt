use Rattle.std.proofs.Common.{sym, ◌∙◌}
use Rattle.rh_words.proofs.Pairs.{pair_no_colon, pair_no_first, pair_no_second, pair_both}
use Rattle.rh_words.proofs.value.read_pair.Goals as goal

pub returns-in_err-at : goal.returns-in_err-at
returns-in_err-at c = c.from_residual.ensures ∙ sym (pair_no_colon c.args.word.now (sym c.colon.ensures ∙ c.in_err-at.was))

pub returns-in_err-first : goal.returns-in_err-first
returns-in_err-first c = c.from_residual-in_err-first.ensures ∙ sym (pair_no_first c.args.word.now c.in_ok-at.at (sym c.colon.ensures ∙ c.in_ok-at.was) (sym c.read_number.ensures ∙ sym c.ok.ensures.value ∙ c.in_err-first.was))

pub returns-in_err-second : goal.returns-in_err-second
returns-in_err-second c =
    let first = sym c.read_number.ensures ∙ sym c.ok.ensures.value ∙ c.in_ok-first.was in
    c.from_residual-in_err-second.ensures ∙ sym (pair_no_second c.args.word.now c.in_ok-at.at c.in_ok-first.first (sym c.colon.ensures ∙ c.in_ok-at.was) first (sym c.read_number-2.ensures ∙ sym c.ok-2.ensures.value ∙ c.in_err-second.was))

pub returns : goal.returns
returns c =
    let first = sym c.read_number.ensures ∙ sym c.ok.ensures.value ∙ c.in_ok-first.was in
    let second = sym c.read_number-2.ensures ∙ sym c.ok-2.ensures.value ∙ c.in_ok-second.was in
    sym (pair_both c.args.word.now c.in_ok-at.at c.in_ok-first.first c.in_ok-second.second (sym c.colon.ensures ∙ c.in_ok-at.was) first second)
