use Rattle.std.proofs.Common.{◌≡◌, None, take}
use Rattle.rh_outside.specs.FileMap.{file_of}
use Rattle.rh_outside.specs.FileBlocks.{files_in}
use Rattle.rh_outside.proofs.file_block.position_of.Given as goal

abbrev pub invariant-loop-at : goal.invariant-loop-at
invariant-loop-at l = file_of l.name (take l.at (files_in l.block l.spans)) ≡ None
