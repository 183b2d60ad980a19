use Rattle.rh_plan.proofs.Followed.{accepted_buffers_follow_bodies}
use Rattle.rh_plan.proofs.laws.accepted_buffers_follow_bodies.Goals as goal

pub returns : goal.returns
returns c = accepted_buffers_follow_bodies
