use Rattle.std.proofs.Common.{sym, subst, List, ℕ, drop, ◌+◌}
use Rattle.rh_rules.specs.Bodies.{shapes_of}
use Rattle.rh_rules.specs.Lawful.{promise_lens, local_lens}
use Rattle.rh_plan.proofs.LocalLens.{IsMeasuring, next_sound, short_join}
use Rattle.rh_plan.proofs.local_lens.local_lens.Goals as goal

pub add_len-requires : goal.add_len-requires
add_len-requires c =
    let shapes = shapes_of c.args.matrices.now in
    let lens = promise_lens c.args.promises.now in
    let whole = local_lens shapes c.args.promises.now c.args.node.now in
    let next = next_sound shapes lens c.loop-step.lens.items c.args.node.now.body _ c.loop-step.step-index c.step-item.result c.step-item.result whole c.steps-step-items.ensures c.loop-step-test.true c.step-item.is c.loop-step.invariant in
    short_join shapes lens c.loop-step.lens.items c.step-item.result next.0

pub loop-step-preserved : goal.loop-step-preserved
loop-step-preserved c =
    let shapes = shapes_of c.args.matrices.now in
    let lens = promise_lens c.args.promises.now in
    let whole = local_lens shapes c.args.promises.now c.args.node.now in
    let next = next_sound shapes lens c.loop-step.lens.items c.args.node.now.body _ c.loop-step.step-index c.step-item.result c.step-item.result whole c.steps-step-items.ensures c.loop-step-test.true c.step-item.is c.loop-step.invariant in
    subst (λ (l : List ℕ). IsMeasuring shapes lens l (drop (c.loop-step.step-index + 1) c.args.node.now.body) whole) (sym c.in_ok-add_len.ensures) next.1
