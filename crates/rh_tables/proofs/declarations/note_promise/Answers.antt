use Rattle.std.proofs.Common.{◌≡◌, ◌∙◌, ap, rules, arith, length, ℕ, cond, Some}
use Rattle.std.proofs.lemmas.Grind.{common_steps}
use Rattle.rh_words.specs.NameKeys.{name_key, keys_eq}
use Rattle.rh_tables.specs.Declarations.{at_name}
use Rattle.rh_tables.proofs.declarations.note_promise.Goals as goal

pub returns-in-Ok-clause-noted : goal.returns-in-Ok-clause-noted
returns-in-Ok-clause-noted c =
    let at : c.len-number.result ≡ length c.args.promises.now.items = search rules in
    λ q. c.in-Ok.ensures.noted q ∙ ap (λ (n : ℕ). cond (keys_eq (name_key c.args.promise.name) (name_key q)) (Some (Some n)) (at_name c.args.known.now q)) at

pub returns-in-Err-clause-promises_kept : goal.returns-in-Err-clause-promises_kept
returns-in-Err-clause-promises_kept = grind (arith, common_steps)
