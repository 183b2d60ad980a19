use Rattle.rh_journal.proofs.References.{references_are_left}
use Rattle.rh_journal.proofs.laws.references_are_left.Goals as goal

pub returns : goal.returns
returns c = references_are_left
