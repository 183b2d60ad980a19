use Rattle.std.proofs.Common.{rules}
use Rattle.rh_stencil.proofs.grid.exchange_rows.Goals as goal

pub returns-clause-words : goal.returns-clause-words
returns-clause-words = search rules

pub returns-clause-fluxes : goal.returns-clause-fluxes
returns-clause-fluxes = search rules
