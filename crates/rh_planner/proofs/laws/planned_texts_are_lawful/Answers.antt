use Rattle.rh_planner.proofs.LawfulDrafts.{planned_lawful}
use Rattle.rh_planner.proofs.laws.planned_texts_are_lawful.Goals as goal

pub returns : goal.returns
returns c = planned_lawful
