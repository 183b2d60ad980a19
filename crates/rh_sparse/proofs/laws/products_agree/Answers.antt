use Rattle.rh_sparse.proofs.Agreeing.{products_do_agree}
use Rattle.rh_sparse.proofs.laws.products_agree.Goals as goal

pub returns : goal.returns
returns c = products_do_agree
