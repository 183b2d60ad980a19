use Rattle.std.proofs.Common.{◌≡◌, ℕ, ◌+◌, ◌*◌, length, slice_index, slice_index_or, slice_set, take, arith, ap, sym, subst, inl, inr}
use Rattle.std.proofs.lemmas.Bool.{cases_eq}
use Rattle.std.proofs.lemmas.List.{get_or-set_same, get_or-set_other}
use Rattle.rh_sparse.specs.declared.matrix.Cell.{Cell}
use Rattle.rh_sparse.specs.Checksums.{entry}
use Rattle.rh_sparse.proofs.Columns.{added_none, added_here, added_elsewhere, added_fits}
use Rattle.rh_sparse.proofs.checksums.add_row.Goals as goal

pub loop-cell-init : goal.loop-cell-init
loop-cell-init c = λ j within. added_none j (slice_index c.args.sums.now j) c.args.factor

pub overflow_add-sums : goal.overflow_add-sums
overflow_add-sums c =
    let none : Cell = record { col = 0; value = 0 } in
    let i = c.loop-cell.cell-index in
    let cell = slice_index_or c.args.row.now i none in
    let here = (c.requires.lawful.cells i none (omega arith)).column in
    let old = slice_index c.args.sums.now cell.col in
    let fits = added_fits (length c.args.sums.now) old c.args.factor c.args.row.now i none (omega arith) c.requires.lawful (c.requires.room cell.col here) c.requires.few in
    omega (arith, fits, c.loop-cell.invariant cell.col here, ap (λ (n : ℕ). c.args.factor * n) c.from.ensures)

pub loop-cell-preserved : goal.loop-cell-preserved
loop-cell-preserved c = λ j within.
    let none : Cell = record { col = 0; value = 0 } in
    let i = c.loop-cell.cell-index in
    let cell = slice_index_or c.args.row.now i none in
    let here = (c.requires.lawful.cells i none (omega arith)).column in
    let scaled = ap (λ (n : ℕ). c.args.factor * n) c.from.ensures in
    elim (cases_eq cell.col j) [
      | inl same ↦
          let written = get_or-set_same c.loop-cell.sums cell.col (slice_index c.loop-cell.sums cell.col + c.args.factor * c.from.result) 0 (omega arith) in
          let before = c.loop-cell.invariant cell.col here in
          let added = added_here (slice_index c.args.sums.now cell.col) c.args.factor c.args.row.now i none (omega arith) in
          let P : ℕ → Type 0 = λ n. slice_index (slice_set c.loop-cell.sums cell.col (slice_index c.loop-cell.sums cell.col + c.args.factor * c.from.result)) n ≡ slice_index c.args.sums.now n + c.args.factor * entry n (take (i + 1) c.args.row.now) in
          subst P same (omega arith)
      | inr other ↦
          let written = get_or-set_other c.loop-cell.sums cell.col j (slice_index c.loop-cell.sums cell.col + c.args.factor * c.from.result) 0 (λ e. other (sym e)) in
          let before = c.loop-cell.invariant j within in
          let added = added_elsewhere j (slice_index c.args.sums.now j) c.args.factor c.args.row.now i none (omega arith) other in
          omega arith
    ]
