use Rattle.rh_schemes.proofs.Replicas.{three_replicas}
use Rattle.rh_schemes.proofs.laws.three_replicas_decide_by_the_table.Goals as goal

pub returns : goal.returns
returns c = three_replicas
