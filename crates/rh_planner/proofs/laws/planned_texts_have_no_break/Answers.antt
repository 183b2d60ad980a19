use Rattle.rh_planner.proofs.Breaking.{kept_unbroken}
use Rattle.rh_planner.proofs.laws.planned_texts_have_no_break.Goals as goal

pub returns : goal.returns
returns c = λ handed text ns ps xs line reason planned break. kept_unbroken handed text line reason planned.kept break
