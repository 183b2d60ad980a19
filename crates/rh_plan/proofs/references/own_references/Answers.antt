use Rattle.std.proofs.Common.{◌≤◌, ◌++◌, ◌∷◌, ◌∙◌, [], ℕ, List, ap, length, slice_index, sym, subst}
use Rattle.std.proofs.lemmas.List.{length-map}
use Rattle.rh_plan.proofs.EdgeLists.{pushed_more, pushed_all}
use Rattle.rh_plan.proofs.OwnCounts.{own_count, own_there, own_low}
use Rattle.rh_plan.proofs.references.own_references.Goals as goal

pub loop-promise-init : goal.loop-promise-init
loop-promise-init c = c.in_ok-counts.ensures.items

pub loop-promise-preserved : goal.loop-promise-preserved
loop-promise-preserved c =
    pushed_more own_count c.args.promises.now c.loop-promise.promise-index c.promise-item.result [] c.loop-promise.counts.items c.push.new.self.items c.loop-promise-test.true
    (c.in_ok-push.ensures.items ∙ ap (λ (n : ℕ). c.loop-promise.counts.items ++ n ∷ []) (c.own_count.ensures.value ∙ ap own_count c.promise-item.is)) c.loop-promise.invariant

pub returns-clause-value : goal.returns-clause-value
returns-clause-value c q p there =
    own_there c.args.promises.now c.loop-promise.counts.items q p (pushed_all own_count c.args.promises.now c.loop-promise.promise-index [] c.loop-promise.counts.items c.loop-promise-test.false c.loop-promise.invariant) there

pub returns-clause-low : goal.returns-clause-low
returns-clause-low c q =
    subst (λ (l : List ℕ). slice_index l q ≤ 2) (sym (pushed_all own_count c.args.promises.now c.loop-promise.promise-index [] c.loop-promise.counts.items c.loop-promise-test.false c.loop-promise.invariant))
    (own_low c.args.promises.now q)

pub returns-clause-len : goal.returns-clause-len
returns-clause-len c =
    ap (λ (l : List ℕ). length l) (pushed_all own_count c.args.promises.now c.loop-promise.promise-index [] c.loop-promise.counts.items c.loop-promise-test.false c.loop-promise.invariant) ∙ length-map c.args.promises.now own_count
