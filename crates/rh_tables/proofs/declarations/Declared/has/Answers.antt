use Rattle.std.proofs.Common.{◌≡◌, ◌∙◌, ap, sym, true}
use Rattle.std.specs.Prelude.{is_some}
use Rattle.std.specs.HashMap.{get}
use Rattle.rh_words.specs.Naming.{is_name}
use Rattle.rh_rules.specs.Tables.{is_among}
use Rattle.rh_words.specs.declared.name_key.NameKey.{NameKey}
use Rattle.rh_words.specs.NameKeys.{keys_eq}
use Rattle.rh_tables.specs.Declarations.{Declarations}
use Rattle.rh_tables.proofs.declarations.Declared.has.Goals as goal

pub returns : goal.returns
returns c =
    let name : is_name c.args.name.now ≡ true = ap is_name (sym c.bytes-is_name.ensures.value) ∙ c.bytes-is_name.ensures.name in
    c.contains_key.ensures ∙ ap (λ (k : NameKey). is_some (get keys_eq c.self.inside.known k)) c.requires ∙ c.self.invariant.there c.args.name.now name ∙ ap (λ (t : Declarations). is_among c.args.name.now t.names) c.self.view_is
