use Rattle.std.proofs.Common.{refl, arith}
use Rattle.std.specs.List.{IsDistinct}
use Rattle.rh_tables.proofs.Declaring.{none_there, none_numbered}
use Rattle.rh_tables.proofs.declarations.Declared.new.Goals as goal

pub invariant_of-result : goal.invariant_of-result
unfolding IsDistinct
invariant_of-result c = rw (c.new-2.ensures.items, c.new-3.ensures.items) (record {
  there = none_there c.new.result c.new.ensures.empty;
  number = none_numbered c.new.result c.new.ensures.empty;
  distinct = tt;
  words = refl;
  shown = refl;
  few = omega arith;
  total = omega arith;
  shown_total = omega arith;
})
