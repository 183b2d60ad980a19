use Rattle.std.proofs.Common.{◌∙◌, ap, arith, cond, Some}
use Rattle.std.proofs.lemmas.Grind.{common_steps}
use Rattle.rh_words.specs.declared.name_key.NameKey.{NameKey}
use Rattle.rh_words.specs.NameKeys.{name_key, keys_eq}
use Rattle.rh_tables.specs.Declarations.{at_name}
use Rattle.rh_tables.proofs.declarations.note.Goals as goal

pub returns-in-Ok-clause-noted : goal.returns-in-Ok-clause-noted
returns-in-Ok-clause-noted c = λ q. c.in-Ok.ensures.updates.0 (name_key q) ∙ ap (λ (k : NameKey). cond (keys_eq k (name_key q)) (Some c.args.number) (at_name c.args.known.now q)) c.requires

pub returns-in-Err-clause-names_kept : goal.returns-in-Err-clause-names_kept
returns-in-Err-clause-names_kept = grind (arith, common_steps)
