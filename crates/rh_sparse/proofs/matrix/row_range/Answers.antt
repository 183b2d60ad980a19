use Rattle.std.proofs.Common.{ℕ, ◌∷◌, length, get_or, arith, ap, sym, ◌∙◌}
use Rattle.rh_sparse.proofs.Layouts.{row_within, start_later}
use Rattle.rh_sparse.proofs.matrix.row_range.Goals as goal
use Rattle.rh_sparse.proofs.matrix.row_range.Goals.{then-at-eq0, else-at-eq0}

pub returns-clause-start : goal.returns-clause-start
returns-clause-start c = elim c.if-at-eq0.branch [
  | then-at-eq0 w ↦ w.start-is ∙ sym (ap (λ (n : ℕ). get_or (0 ∷ c.args.ends.now) n 0) w.if-at-eq0.true)
  | else-at-eq0 w ↦ omega (arith, start_later c.args.ends.now c.args.at (omega arith))
]

pub returns-clause-rising : goal.returns-clause-rising
returns-clause-rising c =
    let within = row_within 0 c.args.ends.now (length c.args.cells.now) c.args.at c.requires.lead c.requires.within in
    elim c.if-at-eq0.branch [
      | then-at-eq0 w ↦ omega arith
      | else-at-eq0 w ↦ omega (arith, start_later c.args.ends.now c.args.at (omega arith))
    ]

pub returns-clause-fits : goal.returns-clause-fits
returns-clause-fits c =
    let within = row_within 0 c.args.ends.now (length c.args.cells.now) c.args.at c.requires.lead c.requires.within in
    omega arith
