use Rattle.rh_outside.proofs.FileLists.{file_of-with_file, file_of-with_other}
use Rattle.rh_outside.proofs.file_block.FileBlock.put.Goals as goal

pub returns-clause-stored : goal.returns-clause-stored
returns-clause-stored c = rw c.set_file.ensures.files (file_of-with_file c.args.name.now c.args.bytes.now _)

pub returns-clause-others : goal.returns-clause-others
returns-clause-others c = λ n other.
    rw (c.set_file.ensures.files, ← c.self.view_is) (file_of-with_other n c.args.name.now c.args.bytes.now _ other)
