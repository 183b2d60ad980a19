use Rattle.std.proofs.Common.{rules}
use Rattle.rh_outside.proofs.fs_shelf.write_file.Goals as goal

pub returns-in-Ok : goal.returns-in-Ok
returns-in-Ok = search rules
