use Rattle.std.proofs.Common.{ap}
use Rattle.rh_planner.proofs.Lets.{judges_let}
use Rattle.rh_planner.proofs.planner.Planner.make.Goals as goal

pub returns : goal.returns
returns c = judges_let c.make.result c.args.self.now c.make.new.self c.make.new.line c.args.statement.now c.args.x c.deref.result.now c.deref.ensures.value c.requires.makes c.make.ensures.reason c.make.ensures.inputs (ap (λ v. v.items) c.make.ensures.drops) c.make.ensures.scheme c.make.ensures.checks c.make.ensures.locals c.make.ensures.steps
