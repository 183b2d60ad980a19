use Rattle.std.proofs.Common.{◌≡◌, take, map, false, not}
use Rattle.std.specs.List.{list_any}
use Rattle.rh_rules.specs.Tables.{is_promise, promise_number}
use Rattle.rh_tables.proofs.awaiting.find_promises.Given as goal

abbrev pub invariant-loop-name : goal.invariant-loop-name
invariant-loop-name l = record {
  known : list_any (λ q. not (is_promise l.declared.promises q)) (take l.name-index l.names) ≡ false;
  numbers : l.numbers ≡ map (promise_number l.declared.promises) (take l.name-index l.names);
}
