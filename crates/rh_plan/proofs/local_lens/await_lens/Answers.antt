use Rattle.std.proofs.Common.{◌++◌, ◌∷◌, ◌∙◌, [], ℕ, ap, slice_index}
use Rattle.rh_rules.specs.Lawful.{promise_lens}
use Rattle.rh_plan.proofs.EdgeLists.{pushed_more, pushed_all}
use Rattle.rh_plan.proofs.local_lens.await_lens.Goals as goal

pub loop-promise-init : goal.loop-promise-init
loop-promise-init c = c.in_ok-lens.ensures.items

pub loop-promise-preserved : goal.loop-promise-preserved
loop-promise-preserved c =
    pushed_more (λ (q : ℕ). slice_index (promise_lens c.args.promises.now) q) c.args.awaits.now c.loop-promise.promise-index 0 [] c.loop-promise.lens.items c.push.new.self.items c.loop-promise-test.true
    (c.in_ok-push.ensures.items ∙ ap (λ (n : ℕ). c.loop-promise.lens.items ++ n ∷ []) c.promise_len.ensures) c.loop-promise.invariant

pub returns : goal.returns
returns c = pushed_all (λ (q : ℕ). slice_index (promise_lens c.args.promises.now) q) c.args.awaits.now c.loop-promise.promise-index [] c.loop-promise.lens.items c.loop-promise-test.false c.loop-promise.invariant
