use Rattle.std.proofs.Common.{length, ◌≤◌, sym, ◌∙◌}
use Rattle.std.proofs.lemmas.List.{take_all, length-map}
use Rattle.rh_outside.specs.FileBlocks.{files_in}
use Rattle.rh_outside.proofs.FileBlockLemmas.{IsFileOf-from_span, file_of-one_more}
use Rattle.rh_outside.proofs.file_block.position_of.Goals as goal

pub returns-then-eq-clause-found : goal.returns-then-eq-clause-found
returns-then-eq-clause-found c =
    IsFileOf-from_span c.args.name.now c.args.block.now c.args.spans.now c.loop-at.at _ c.loop-at-test.true c.loop-at.invariant (sym c.eq.ensures ∙ c.if-eq.true)

pub loop-at-preserved : goal.loop-at-preserved
loop-at-preserved c =
    file_of-one_more c.args.name.now c.args.block.now c.args.spans.now c.loop-at.at _ c.loop-at-test.true c.loop-at.invariant (sym c.eq.ensures ∙ c.if-eq.false)

pub returns-clause-found : goal.returns-clause-found
returns-clause-found c =
    let files = files_in c.args.block.now c.args.spans.now in
    let whole : length files ≤ c.loop-at.at = simp length-map c.loop-at-test.false in
    rw (take_all c.loop-at.at files whole) at c.loop-at.invariant
