use Rattle.std.proofs.Common.{◌≡◌, ◌++◌, ◌&&◌, take, not}
use Rattle.std.specs.List.{filter}
use Rattle.rh_rules.specs.Tables.{is_in}
use Rattle.rh_plain.specs.Values.{has_words}
use Rattle.rh_plain.proofs.listing.append_valued.Given as goal

abbrev pub invariant-loop-promise : goal.invariant-loop-promise
invariant-loop-promise l = l.into ≡ l.initial.into ++ filter (λ q. not (is_in q l.drops) && has_words l.values q) (take l.promise-index l.awaits)
