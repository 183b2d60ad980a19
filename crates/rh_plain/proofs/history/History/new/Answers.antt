use Rattle.rh_plain.proofs.Histories.{draws_nothing}
use Rattle.rh_plain.proofs.history.History.new.Goals as goal

pub returns : goal.returns
returns c = draws_nothing c.args.plan.now _ _ c.promises.result c.in_ok-entries.ensures.items (c.in_ok-gone.ensures.items_if_clones_equal (λ y same. same)) c.promises.ensures.count
