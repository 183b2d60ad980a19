use Rattle.std.proofs.Common.{◌≡◌, ◌≤◌, ◌+◌, ℕ, List, Result, refl, arith, subst, sym}
use Rattle.rh_plan.specs.Buffers.{BufferData}
use Rattle.rh_plan.specs.declared.outcome.Trial.{Trial}
use Rattle.rh_schemes.specs.Checking.{IsTriedAt}
use Rattle.std.proofs.lemmas.Result.{IfOk-weaker}
use Rattle.rh_schemes.proofs.Replaying.{AreRefusedAt, one_refused, one_accepted, none_accepted}
use Rattle.rh_schemes.proofs.judging.replay_up_to.Goals as goal

pub returns-in-Ok : goal.returns-in-Ok
returns-in-Ok g c =
    let plan = c.args.plan.now in
    let inputs = g.I.Inputs.lists c.args.inputs.now in
    let tried = subst (λ (t : Result BufferData ℕ). IsTriedAt plan c.args.faults.now c.args.node inputs c.loop-k.k t) c.in-Ok.is c.in_ok-buffer.ensures in
    IfOk-weaker c.accepted_after.result _ _
    (λ r told. one_accepted plan c.args.faults.now c.args.node inputs c.args.limit c.loop-k.k c.in-Ok.buffer c.loop-k.trials r c.requires.scheme c.loop-k-test.true tried.0 tried.1 c.loop-k.invariant told)
    c.accepted_after.ensures

pub loop-k-preserved : goal.loop-k-preserved
loop-k-preserved g c =
    let plan = c.args.plan.now in
    let inputs = g.I.Inputs.lists c.args.inputs.now in
    let (b, made, fails) = subst (λ (t : Result BufferData ℕ). IsTriedAt plan c.args.faults.now c.args.node inputs c.loop-k.k t) c.in-Err.is c.in_ok-buffer.ensures in
    let done = one_refused plan c.args.faults.now c.args.node inputs c.args.limit c.loop-k.k c.in-Err.which b c.loop-k.trials c.requires.scheme c.loop-k-test.true made fails c.loop-k.invariant in
    subst (λ (l : List Trial). AreRefusedAt plan c.args.faults.now c.args.node inputs (c.loop-k.k + 1) l) (sym c.in_ok-push-in-Err.ensures.ok) done

pub returns : goal.returns
returns g c =
    let plan = c.args.plan.now in
    let inputs = g.I.Inputs.lists c.args.inputs.now in
    let low : c.loop-k.k ≤ c.args.limit = c.loop-k.auto.k-end in
    let high : c.args.limit ≤ c.loop-k.k = c.loop-k-test.false in
    let same : c.loop-k.k ≡ c.args.limit = omega arith in
    let all = subst (λ (n : ℕ). AreRefusedAt plan c.args.faults.now c.args.node inputs n c.loop-k.trials) same c.loop-k.invariant in
    none_accepted plan c.args.faults.now c.args.node inputs c.args.limit c.loop-k.trials _ c.requires.scheme all refl
