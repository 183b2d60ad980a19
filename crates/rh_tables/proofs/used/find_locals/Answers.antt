use Rattle.std.proofs.Common.{◌∙◌, ◌++◌, ◌∷◌, [], List, ℕ, refl, ap, sym, not, map, take}
use Rattle.rh_rules.specs.Tables.{number_of}
use Rattle.rh_rules.specs.Rules.{is_among_first}
use Rattle.rh_tables.proofs.Finding.{one_found, none_found, one_missing, none_more, mapped_more}
use Rattle.rh_tables.proofs.used.find_locals.Goals as goal

pub loop-name-preserved : goal.loop-name-preserved
loop-name-preserved c =
    let ls = c.args.locals.now in
    let i = c.loop-name.name-index in
    let x = c.name-item.result in
    let (among, number) = one_found (is_among_first c.args.count ls x) (number_of ls x) c.in-Some.number c.in-Some.ensures in
    record {
      known = none_more (λ q. not (is_among_first c.args.count ls q)) c.args.names.now i x c.loop-name-test.true c.loop-name.invariant.known (ap (λ (q : List ℕ). not (is_among_first c.args.count ls q)) (sym c.name-item.is) ∙ ap not among);
      numbers = c.in_ok-push.ensures.items
          ∙ ap (λ (l : List ℕ). l ++ c.in-Some.number ∷ []) c.loop-name.invariant.numbers
          ∙ ap (λ (n : ℕ). map (number_of ls) (take i c.args.names.now) ++ n ∷ []) (number ∙ ap (number_of ls) c.name-item.is)
          ∙ sym (mapped_more (number_of ls) c.args.names.now i x c.loop-name-test.true);
    }

pub returns-in_default-clause-known : goal.returns-in_default-clause-known
returns-in_default-clause-known c =
    let ls = c.args.locals.now in
    let x = c.name-item.result in
    one_missing (λ q. not (is_among_first c.args.count ls q)) c.args.names.now c.loop-name.name-index x (is_among_first c.args.count ls x) c.loop-name-test.true c.name-item.is refl (none_found (is_among_first c.args.count ls x) (number_of ls x) c.in_default.ensures)
