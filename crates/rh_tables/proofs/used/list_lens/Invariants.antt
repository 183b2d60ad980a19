use Rattle.std.proofs.Common.{◌≡◌, take, map}
use Rattle.std.specs.Prelude.{slice_index}
use Rattle.rh_rules.specs.Tables.{lens_of}
use Rattle.rh_tables.proofs.used.list_lens.Given as goal

abbrev pub invariant-loop-number : goal.invariant-loop-number
invariant-loop-number l = l.lens.items ≡ map (λ i. slice_index (lens_of l.locals) i) (take l.number-index l.numbers)
