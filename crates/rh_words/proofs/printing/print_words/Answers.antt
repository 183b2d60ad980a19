use Rattle.rh_words.specs.Values.{word_text}
use Rattle.rh_words.proofs.Fronts.{BeginsWith, front_same, front_kept, err_weaken}
use Rattle.rh_words.proofs.printing.print_words.Goals as goal

pub returns-clause-err : goal.returns-clause-err
returns-clause-err c =
    err_weaken c.print_rest.result (BeginsWith c.print_word.new.into c.print_rest.new.into) (BeginsWith c.args.into.now c.print_rest.new.into)
    (front_kept c.args.into.now c.args.into.now (word_text c.in-Some.first.now) c.print_word.new.into c.print_rest.new.into (front_same c.args.into.now) c.in_ok-print_word.ensures.ok)
    c.print_rest.ensures.err
