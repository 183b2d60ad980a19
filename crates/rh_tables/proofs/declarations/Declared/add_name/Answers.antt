use Rattle.std.proofs.Common.{◌≡◌, ◌∙◌, ap, sym, true, false}
use Rattle.rh_words.specs.Naming.{is_name}
use Rattle.rh_rules.specs.Tables.{is_among}
use Rattle.rh_tables.specs.Declarations.{Declarations}
use Rattle.rh_tables.proofs.Declaring.{name_found, same_found}
use Rattle.rh_tables.proofs.declarations.Declared.add_name.Goals as goal

pub invariant_of-self : goal.invariant_of-self
invariant_of-self c =
    let e = c.in_err-note.ensures in
    rw e.names_kept (same_found c.self.inside.known c.note.new.known c.self.inside.names.items c.self.inside.promises.items c.self.inside.words c.self.inside.shown e.known_kept c.self.invariant)

pub invariant_of-self-2 : goal.invariant_of-self-2
invariant_of-self-2 c =
    let name : is_name c.args.name ≡ true = ap is_name (sym c.bytes-is_name.ensures.value) ∙ c.bytes-is_name.ensures.name in
    let fresh : is_among c.args.name c.self.inside.names.items ≡ false = ap (λ (t : Declarations). is_among c.args.name t.names) c.self.view_is ∙ sym c.has.ensures ∙ c.if-has.false in
    let e = c.in_ok-note.ensures in
    rw e.names (name_found c.keys_tell_names_apart.ensures c.self.inside.known c.note.new.known c.self.inside.names.items c.self.inside.promises.items c.self.inside.words c.self.inside.shown c.args.name name c.self.invariant fresh e.noted)
