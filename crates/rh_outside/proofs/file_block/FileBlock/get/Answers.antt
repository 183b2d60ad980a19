use Rattle.std.proofs.Common.{◌≡◌, Some, slice_range, subst, sym}
use Rattle.rh_outside.specs.declared.file_block.FileSpan.{FileSpan}
use Rattle.rh_outside.specs.FileMap.{file_of}
use Rattle.rh_outside.specs.FileBlocks.{IsWithin, files_in}
use Rattle.rh_outside.proofs.FileBlockLemmas.{file_of-from_span}
use Rattle.rh_outside.proofs.file_block.FileBlock.get.Goals as goal

pub slice_bounds-result-start : goal.slice_bounds-result-start
slice_bounds-result-start c =
    let at_span = c.self.invariant.0.within c.in_ok-at.at c.index-span.result.now (rw c.as_slice-2.ensures.value at c.in_ok-at.ensures.within) in
    (subst (IsWithin _) (sym c.index-span.ensures) at_span).1

pub slice_bounds-result-end : goal.slice_bounds-result-end
slice_bounds-result-end c =
    let at_span = c.self.invariant.0.within c.in_ok-at.at c.index-span.result.now (rw c.as_slice-2.ensures.value at c.in_ok-at.ensures.within) in
    rw c.deref.ensures.value (subst (IsWithin _) (sym c.index-span.ensures) at_span).2

pub returns : goal.returns
returns c =
    let block = c.self.inside.block.items in
    let spans = c.self.inside.spans.items in
    let found = rw (c.as_slice.ensures.value, c.as_slice-2.ensures.value) at c.in_ok-at.ensures.found in
    let read = file_of-from_span c.args.name.now block spans c.in_ok-at.at c.index-span.result.now (rw c.as_slice-2.ensures.value at c.in_ok-at.ensures.within) found in
    let held = subst (λ (p : FileSpan). file_of c.args.name.now (files_in block spans) ≡ Some (slice_range block p.middle p.end)) (sym c.index-span.ensures) read in
    rw (c.deref.ensures.value, ← c.self.view_is) (sym held)
