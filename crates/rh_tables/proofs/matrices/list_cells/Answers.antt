use Rattle.std.proofs.Common.{◌≡◌, ◌++◌, ◌∷◌, [], List, ℕ, ap, sym, ◌∙◌, append_assoc, ◌≤◌, take, get_or, length, arith}
use Rattle.std.proofs.lemmas.List.{take_all}
use Rattle.rh_sparse.specs.declared.matrix.Cell.{Cell}
use Rattle.rh_rules.specs.Facets.{cells_of, cell}
use Rattle.rh_tables.proofs.Cells.{cells_more}
use Rattle.rh_tables.proofs.matrices.list_cells.Goals as goal

pub loop-at-preserved : goal.loop-at-preserved
loop-at-preserved c =
    let i = c.loop-at.at in
    let js = c.args.columns.now in
    let vs = c.args.values.now in
    c.in_ok-push.ensures.items
    ∙ ap (λ (l : List Cell). l ++ cell (get_or js i 0) (get_or vs i 0) ∷ []) c.loop-at.invariant
    ∙ append_assoc c.args.cells.now.items (cells_of (take i js) (take i vs)) (cell (get_or js i 0) (get_or vs i 0) ∷ [])
    ∙ ap (λ (l : List Cell). c.args.cells.now.items ++ l) (sym (cells_more js vs i c.requires.pairs c.loop-at-test.true))

pub returns : goal.returns
returns c =
    let i = c.loop-at.at in
    let pairs : length c.args.columns.now ≡ length c.args.values.now = c.requires.pairs in
    let end : length c.args.columns.now ≤ i = c.loop-at-test.false in
    c.loop-at.invariant
    ∙ ap (λ (l : List ℕ). c.args.cells.now.items ++ cells_of l (take i c.args.values.now)) (take_all i c.args.columns.now c.loop-at-test.false)
    ∙ ap (λ (l : List ℕ). c.args.cells.now.items ++ cells_of c.args.columns.now l) (take_all i c.args.values.now (omega arith))
