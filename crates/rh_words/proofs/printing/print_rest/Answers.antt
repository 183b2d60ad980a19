use Rattle.std.proofs.Common.{◌∷◌, []}
use Rattle.rh_words.proofs.Fronts.{BeginsWith, front_kept, on_err}
use Rattle.rh_words.proofs.printing.print_rest.Goals as goal

pub returns-in_err-print_word-clause-err : goal.returns-in_err-print_word-clause-err
returns-in_err-print_word-clause-err c =
    let begins = front_kept c.args.into.now c.loop-value.into (32 ∷ []) c.append.new.self c.print_word.new.into (c.loop-value.invariant.front, c.loop-value.invariant.longer) c.in_ok-append.ensures.ok c.in_err-print_word.ensures.err in
    on_err c.from_residual-in_err-print_word.result (BeginsWith c.args.into.now c.print_word.new.into) begins
