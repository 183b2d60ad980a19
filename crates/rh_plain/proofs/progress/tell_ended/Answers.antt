use Rattle.std.proofs.Common.{refl}
use Rattle.rh_plain.proofs.Releasing.{ended_told}
use Rattle.rh_plain.proofs.progress.tell_ended.Goals as goal

pub returns-clause-drawn : goal.returns-clause-drawn
returns-clause-drawn c =
    (ended_told c.args.plan.now c.args.history.now c.begin.new.history c.release_all.new.history c.draw.new.self c.args.values.now c.release_all.new.values c.args.node _ c.args.verdict c.args.trials.now c.args.lists.now.puts c.args.lists.now.voids c.args.lists.now.released c.released.result.now refl c.released.ensures
    c.in_ok-begin.ensures c.in_ok-release_all.ensures.drawn c.in_ok-release_all.ensures.kept c.in_ok-draw.ensures).0

pub returns-clause-kept : goal.returns-clause-kept
returns-clause-kept c =
    (ended_told c.args.plan.now c.args.history.now c.begin.new.history c.release_all.new.history c.draw.new.self c.args.values.now c.release_all.new.values c.args.node _ c.args.verdict c.args.trials.now c.args.lists.now.puts c.args.lists.now.voids c.args.lists.now.released c.released.result.now refl c.released.ensures
    c.in_ok-begin.ensures c.in_ok-release_all.ensures.drawn c.in_ok-release_all.ensures.kept c.in_ok-draw.ensures).1
