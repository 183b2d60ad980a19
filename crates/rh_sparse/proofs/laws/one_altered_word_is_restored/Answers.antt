use Rattle.rh_sparse.proofs.Altering.{one_altered_word_restored}
use Rattle.rh_sparse.proofs.laws.one_altered_word_is_restored.Goals as goal

pub returns : goal.returns
returns c = one_altered_word_restored
