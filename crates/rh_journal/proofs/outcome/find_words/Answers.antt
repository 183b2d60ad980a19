use Rattle.std.proofs.Common.{arith, []}
use Rattle.rh_journal.proofs.ShownPlaces.{found_here, absent_here}
use Rattle.rh_journal.proofs.outcome.find_words.Goals.{else-at-pairs-via-then-at-pairs+else-pairs-at, else-at-pairs-via-else-at-pairs}
use Rattle.rh_journal.proofs.outcome.find_words.Goals as goal

pub returns-then-pairs-at : goal.returns-then-pairs-at
returns-then-pairs-at c = found_here c.args.promise c.first_not_below-at.result c.args.pairs.now _ _ c.first_not_below-at.ensures.point.0 c.if-at-pairs.true c.if-pairs-at.true

pub returns : goal.returns
returns c = elim c.else-at-pairs.branch [
  | else-at-pairs-via-then-at-pairs+else-pairs-at w ↦ absent_here c.args.promise c.first_not_below-at.result c.args.pairs.now c.requires c.first_not_below-at.ensures.point w.index-pairs-at.result (λ within same. w.if-pairs-at.false same)
  | else-at-pairs-via-else-at-pairs w ↦ absent_here c.args.promise c.first_not_below-at.result c.args.pairs.now c.requires c.first_not_below-at.ensures.point (0, []) (λ within same. let past = w.if-at-pairs.false in omega arith)
]
