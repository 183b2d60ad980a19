use Rattle.std.proofs.Common.{◌≡◌, ◌++◌, ◌∷◌, ◌∙◌, [], ℕ, Some, get_or, unwrap_or, ap}
use Rattle.rh_rules.specs.Lawful.{putter_of}
use Rattle.rh_plan.specs.Plans.{await_edge}
use Rattle.rh_plan.proofs.EdgeLists.{pushed_more, pushed_all}
use Rattle.rh_plan.proofs.edges.push_awaits.Goals as goal

pub loop-promise-preserved : goal.loop-promise-preserved
loop-promise-preserved c =
    let promise = get_or c.args.awaits.now c.loop-promise.promise-index 0 in
    let from : c.unwrap_or.result ≡ unwrap_or (putter_of c.args.promises.now promise) 0 = c.unwrap_or.ensures ∙ ap (λ o. unwrap_or o 0) c.putter_of.ensures in
    pushed_more (await_edge c.args.promises.now c.args.to) c.args.awaits.now c.loop-promise.promise-index 0 c.args.edges.now.items c.loop-promise.edges.items c.push.new.self.items c.loop-promise-test.true
    (c.in_ok-push.ensures.items ∙ ap (λ (v : ℕ). c.loop-promise.edges.items ++ record { from = v; to = c.args.to; promise = Some promise } ∷ []) from) c.loop-promise.invariant

pub returns : goal.returns
returns c = pushed_all (await_edge c.args.promises.now c.args.to) c.args.awaits.now c.loop-promise.promise-index c.args.edges.now.items c.loop-promise.edges.items c.loop-promise-test.false c.loop-promise.invariant
