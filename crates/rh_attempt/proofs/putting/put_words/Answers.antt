use Rattle.std.proofs.Common.{◌∙◌, sym, refl}
use Rattle.std.specs.List.{slice_set}
use Rattle.rh_attempt.specs.Attempting.{AreAsBefore}
use Rattle.rh_attempt.proofs.Puts.{given_away, always_ok}
use Rattle.rh_attempt.proofs.putting.put_words.Goals as goal

pub returns-else-is_read-clause-locals : goal.returns-else-is_read-clause-locals
returns-else-is_read-clause-locals c =
    let locals = c.args.locals.now.items in
    let after = slice_set locals c.args.local c.give_words.new.self in
    always_ok c.give_words.result (AreAsBefore c.args.later.now locals after)
    (given_away c.args.later.now locals after c.args.local c.give_words.new.self (sym c.is_read.ensures ∙ c.if-is_read.false) refl)
