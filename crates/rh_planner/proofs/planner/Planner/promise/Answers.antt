use Rattle.rh_planner.proofs.Declaring.{judges_promise}
use Rattle.rh_planner.proofs.planner.Planner.promise.Goals as goal

pub returns : goal.returns
returns c = judges_promise c.add_promise.result c.args.self.now c.add_promise.new.self c.args.name c.args.len c.args.temp c.add_promise.ensures.reason c.add_promise.ensures.added
