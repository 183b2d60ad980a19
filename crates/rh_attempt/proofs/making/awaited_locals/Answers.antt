use Rattle.std.proofs.Common.{◌<◌, ◌++◌, ◌≡◌, List, ℕ, subst, sym, drop, ◌+◌}
use Rattle.rh_plan.specs.Buffers.{copies_from}
use Rattle.rh_attempt.proofs.Locals.{copied}
use Rattle.rh_attempt.proofs.making.awaited_locals.Goals as goal

pub loop-at-preserved : goal.loop-at-preserved
loop-at-preserved g c =
    let lists = g.I.Inputs.lists c.args.inputs.now in
    let strikes = c.args.strikes.now in
    let i = c.loop-at.at in
    let done = copied strikes c.loop-at.locals.items lists (copies_from strikes 0 lists) i c.words.result.now c.in_ok-awaited_local.field-0 (subst (λ (n : ℕ). i < n) c.count-at-end.ensures c.loop-at-test.true) c.words.ensures c.in_ok-awaited_local.ensures c.loop-at.invariant in
    subst (λ (l : List (List ℕ)). l ++ copies_from strikes (i + 1) (drop (i + 1) lists) ≡ copies_from strikes 0 lists) (sym c.in_ok-push.ensures.items) done
