use Rattle.rh_stencil.proofs.LineKeepsSum.{step1_keeps}
use Rattle.rh_stencil.proofs.conservation.step1_conserves.Goals as goal

pub returns : goal.returns
returns c = step1_keeps
