use Rattle.std.proofs.Common.{◌≡◌, refl, arith}
use Rattle.rh_outside.specs.FileMap.{without_file}
use Rattle.rh_outside.specs.FileBlocks.{files_in}
use Rattle.rh_outside.proofs.FileLists.{file_of-without_file, file_of-without_other, without_file-none}
use Rattle.rh_outside.proofs.FileBlockLemmas.{files_in-remove, AreFiles-remove}
use Rattle.rh_outside.proofs.file_block.FileBlock.remove.Goals as goal

-- the files that are left are those without the name's
left : (c : goal.After-remove) → files_in c.self.inside.block.items c.remove.new.self.items ≡ without_file c.args.name.now (files_in c.self.inside.block.items c.self.inside.spans.items)
left c =
    let found = rw (c.as_slice.ensures.value, c.as_slice-2.ensures.value) at c.in-Some.ensures.found in
    rw c.remove.ensures.items (files_in-remove c.args.name.now c.self.inside.block.items c.self.inside.spans.items c.in-Some.at found)

pub invariant_of-self : goal.invariant_of-self
invariant_of-self c =
    let found = rw (c.as_slice.ensures.value, c.as_slice-2.ensures.value) at c.in-Some.ensures.found in (
      rw c.remove.ensures.items (AreFiles-remove c.args.name.now c.self.inside.block.items c.self.inside.spans.items c.in-Some.at c.self.invariant.0 found),
      c.self.invariant.1,
      omega (arith, c.remove.ensures.len, c.remove.ensures.capacity, c.self.invariant.2),
    )

pub returns-in-Some-clause-exact : goal.returns-in-Some-clause-exact
returns-in-Some-clause-exact c = rw (left c, ← c.self.view_is) refl

pub returns-in-Some-clause-gone : goal.returns-in-Some-clause-gone
returns-in-Some-clause-gone c = rw (left c) (file_of-without_file c.args.name.now _ c.self.invariant.0.distinct)

pub returns-in-Some-clause-others : goal.returns-in-Some-clause-others
returns-in-Some-clause-others c = λ n other.
    rw (left c, ← c.self.view_is) (file_of-without_other n c.args.name.now _ other)

pub returns-in_default-clause-exact : goal.returns-in_default-clause-exact
returns-in_default-clause-exact c =
    let none = rw (c.as_slice.ensures.value, c.as_slice-2.ensures.value) at c.in_default.ensures.found in
    rw (← c.self.view_is, without_file-none c.args.name.now (files_in c.self.inside.block.items c.self.inside.spans.items) none) refl
