use Rattle.std.proofs.Common.{◌≡◌, ◌++◌, take, map}
use Rattle.rh_plan.specs.declared.made_put.MadePut.{MadePut}
use Rattle.rh_plain.proofs.listing.append_made.Given as goal

abbrev pub invariant-loop-put : goal.invariant-loop-put
invariant-loop-put l = l.into ≡ l.initial.into ++ map (λ (p : MadePut). p.promise) (take l.put-index l.puts)
