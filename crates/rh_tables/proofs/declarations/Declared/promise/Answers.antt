use Rattle.std.proofs.Common.{◌≡◌, ◌∙◌, ap, sym, true}
use Rattle.std.specs.HashMap.{get}
use Rattle.rh_words.specs.Naming.{is_name}
use Rattle.rh_rules.specs.Tables.{promise_at}
use Rattle.rh_tables.specs.Declarations.{Declarations, number_found}
use Rattle.rh_words.specs.declared.name_key.NameKey.{NameKey}
use Rattle.rh_words.specs.NameKeys.{keys_eq}
use Rattle.rh_tables.proofs.Declaring.{place_within}
use Rattle.rh_tables.proofs.declarations.Declared.promise.Goals as goal

pub returns-in-Some-clause-number : goal.returns-in-Some-clause-number
returns-in-Some-clause-number c =
    let name : is_name c.args.name.now ≡ true = ap is_name (sym c.bytes-is_name.ensures.value) ∙ c.bytes-is_name.ensures.name in
    ap number_found (c.in-Some.ensures.value ∙ ap (λ (k : NameKey). get keys_eq c.self.inside.known k) c.key.ensures) ∙ c.self.invariant.number c.args.name.now name ∙ ap (λ (t : Declarations). promise_at c.args.name.now t.promises) c.self.view_is

pub returns-in-Some-clause-within : goal.returns-in-Some-clause-within
returns-in-Some-clause-within c = place_within c.args.self.now.promises c.args.name.now c.in-Some.number.now (returns-in-Some-clause-number c)

pub returns-in-None-clause-number : goal.returns-in-None-clause-number
returns-in-None-clause-number c =
    let name : is_name c.args.name.now ≡ true = ap is_name (sym c.bytes-is_name.ensures.value) ∙ c.bytes-is_name.ensures.name in
    ap number_found (c.in-None.ensures.value ∙ ap (λ (k : NameKey). get keys_eq c.self.inside.known k) c.key.ensures) ∙ c.self.invariant.number c.args.name.now name ∙ ap (λ (t : Declarations). promise_at c.args.name.now t.promises) c.self.view_is
