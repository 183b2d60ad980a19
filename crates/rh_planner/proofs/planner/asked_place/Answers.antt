use Rattle.std.proofs.Common.{rules}
use Rattle.rh_planner.proofs.planner.asked_place.Goals as goal

pub returns-in-Some : goal.returns-in-Some
returns-in-Some = search rules
