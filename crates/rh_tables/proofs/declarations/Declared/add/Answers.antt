use Rattle.std.proofs.Common.{◌≡◌, ◌∙◌, ap, sym, true, false}
use Rattle.rh_words.specs.Naming.{is_name}
use Rattle.rh_tables.specs.Declarations.{Declarations}
use Rattle.rh_rules.specs.Tables.{is_among, declared_promise}
use Rattle.rh_rules.specs.Rules.{is_promise_over}
use Rattle.rh_tables.proofs.Declaring.{promise_found, same_found, room_left}
use Rattle.rh_tables.proofs.declarations.Declared.add.Goals as goal

pub note_promise-requires-clause-few : goal.note_promise-requires-clause-few
note_promise-requires-clause-few c =
    let p = declared_promise c.args.name c.args.len c.args.temp c.args.scope in
    room_left c.self.inside.promises.items p (ap (λ (t : Declarations). is_promise_over t.promises p) c.self.view_is ∙ c.requires.room)

pub invariant_of-self : goal.invariant_of-self
invariant_of-self c =
    let e = c.in_err-note_promise.ensures in
    rw (e.promises_kept, e.names_kept) (same_found c.self.inside.known c.note_promise.new.known c.self.inside.names.items c.self.inside.promises.items c.self.inside.words c.self.inside.shown e.known_kept c.self.invariant)

pub invariant_of-self-2 : goal.invariant_of-self-2
invariant_of-self-2 c =
    let p = declared_promise c.args.name c.args.len c.args.temp c.args.scope in
    let name : is_name c.args.name ≡ true = ap is_name (sym c.bytes-is_name.ensures.value) ∙ c.bytes-is_name.ensures.name in
    let fresh : is_among c.args.name c.self.inside.names.items ≡ false = ap (λ (t : Declarations). is_among c.args.name t.names) c.self.view_is ∙ c.requires.fresh in
    let room : is_promise_over c.self.inside.promises.items p ≡ false = ap (λ (t : Declarations). is_promise_over t.promises p) c.self.view_is ∙ c.requires.room in
    let e = c.in_ok-note_promise.ensures in
    rw (e.names, e.promises, c.from.ensures, c.shown_words.ensures) (promise_found c.keys_tell_names_apart.ensures c.self.inside.known c.note_promise.new.known c.self.inside.names.items c.self.inside.promises.items c.self.inside.words c.self.inside.shown p name c.self.invariant fresh e.noted room)
