use Rattle.std.proofs.Common.{◌∙◌, ◌++◌, ◌∷◌, [], List, ℕ, ap, sym, map, take}
use Rattle.std.specs.Prelude.{slice_index}
use Rattle.rh_rules.specs.Tables.{lens_of}
use Rattle.rh_tables.proofs.Finding.{mapped_more}
use Rattle.rh_tables.proofs.used.list_lens.Goals as goal

pub loop-number-preserved : goal.loop-number-preserved
loop-number-preserved c =
    let i = c.loop-number.number-index in
    let len = slice_index (lens_of c.args.locals.now) in
    c.in_ok-push.ensures.items
    ∙ ap (λ (l : List ℕ). l ++ c.len_of.result ∷ []) c.loop-number.invariant
    ∙ ap (λ (k : ℕ). map len (take i c.args.numbers.now) ++ k ∷ []) c.len_of.ensures
    ∙ sym (mapped_more len c.args.numbers.now i 0 c.loop-number-test.true)
