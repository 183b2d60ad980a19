use Rattle.rh_plain.proofs.Histories.{begun}
use Rattle.rh_plain.proofs.progress.begin.Goals as goal

pub returns : goal.returns
returns c =
    begun c.args.plan.now c.args.history.now c.draw.new.self c.attempts.new.self c.puts-2.new.self c.voids-2.new.self c.args.node _ c.attempt_of.result c.args.trials.now
    c.args.lists.now.puts c.puts.result.now c.args.lists.now.voids c.voids.result.now
    c.attempt_of.ensures c.puts.ensures c.voids.ensures c.in_ok-draw.ensures c.in_ok-attempts.ensures c.in_ok-puts.ensures c.in_ok-voids.ensures
