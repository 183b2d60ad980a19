use Rattle.rh_stencil.proofs.GridKeepsSum.{step2_keeps}
use Rattle.rh_stencil.proofs.conservation.step2_conserves.Goals as goal

pub returns : goal.returns
returns c = step2_keeps
