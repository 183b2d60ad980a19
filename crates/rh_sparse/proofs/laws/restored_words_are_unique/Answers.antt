use Rattle.rh_sparse.proofs.Restoring.{restored_as_relation, restored_unique}
use Rattle.rh_sparse.proofs.laws.restored_words_are_unique.Goals as goal

pub returns-clause-relation : goal.returns-clause-relation
returns-clause-relation c = restored_as_relation

pub returns-clause-unique : goal.returns-clause-unique
returns-clause-unique c = restored_unique
