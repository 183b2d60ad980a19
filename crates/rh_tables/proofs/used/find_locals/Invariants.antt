use Rattle.std.proofs.Common.{◌≡◌, take, map, false, not}
use Rattle.std.specs.List.{list_any}
use Rattle.rh_rules.specs.Tables.{number_of}
use Rattle.rh_rules.specs.Rules.{is_among_first}
use Rattle.rh_tables.proofs.used.find_locals.Given as goal

abbrev pub invariant-loop-name : goal.invariant-loop-name
invariant-loop-name l = record {
  known : list_any (λ q. not (is_among_first l.count l.locals q)) (take l.name-index l.names) ≡ false;
  numbers : l.numbers.items ≡ map (number_of l.locals) (take l.name-index l.names);
}
