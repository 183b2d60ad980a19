use Rattle.rh_sparse.proofs.Agreeing.{altered_product_restored}
use Rattle.rh_sparse.proofs.laws.one_altered_word_of_a_product_is_restored.Goals as goal

pub returns : goal.returns
returns c = altered_product_restored
