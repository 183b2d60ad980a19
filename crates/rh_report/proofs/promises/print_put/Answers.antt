use Rattle.std.proofs.Common.{rules, append_assoc}
use Rattle.std.proofs.lemmas.Result.{on_ok_weaker}
use Rattle.std.specs.Option.{option_copied}
use Rattle.rh_report.proofs.Pieces.{first_put_text}
use Rattle.rh_report.proofs.promises.print_put.Goals as goal

pub returns-then-not-temp : goal.returns-then-not-temp
returns-then-not-temp c =
    on_ok_weaker c.print_words.result (λ is. first_put_text c.args.temp (option_copied c.args.words) c.args.put c.in-Some.attempt c.words_or_none.result.now c.args.into.now c.append-then-not-temp.new.self _ c.in-Some.is c.if-not-temp.true c.if-attempt-eq0.true c.words_or_none.ensures c.in_ok-append-2.ensures.ok is) c.print_words.ensures

pub returns-in_default : goal.returns-in_default
returns-in_default = search (append_assoc, rules)
