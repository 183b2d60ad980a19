use Rattle.std.proofs.Common.{◌≡◌, ◌<◌, ◌∙◌, ℕ, List, ap, sym, arith, length}
use Rattle.std.proofs.lemmas.Option.{slice_get-get_or}
use Rattle.std.specs.List.{slice_get}
use Rattle.rh_plan.specs.Plans.{PlanData, plan_data}
use Rattle.rh_plan.specs.Derived.{sources, targets, levels}
use Rattle.rh_plan.proofs.LevelLists.{length-levels_by}
use Rattle.rh_plan.proofs.plans.Plan.level.Goals as goal

level_there : (plan now : PlanData) (kept : List ℕ) (node : ℕ) → plan ≡ now → kept ≡ levels plan (length plan.nodes) → node < length now.nodes → node < length kept
level_there plan now kept node same is within =
    let nodes : length plan.nodes ≡ length now.nodes = ap (λ (p : PlanData). length p.nodes) same in
    let long : length kept ≡ length plan.nodes = ap length is ∙ length-levels_by (sources plan) (targets plan) (length plan.nodes) in
    omega arith

pub bounds-levels-node : goal.bounds-levels-node
bounds-levels-node c =
    let plan = plan_data c.self.inside.nodes.items c.self.inside.promises.items c.self.inside.edges.items c.self.inside.matrices in
    level_there plan c.args.self.now c.as_slice-levels.result.now c.args.node c.self.view_is (c.as_slice-levels.ensures.value ∙ c.self.invariant.kept.levels) c.requires

pub returns : goal.returns
returns c =
    let plan = plan_data c.self.inside.nodes.items c.self.inside.promises.items c.self.inside.edges.items c.self.inside.matrices in
    let kept = c.as_slice-levels.result.now in
    let is = c.as_slice-levels.ensures.value ∙ c.self.invariant.kept.levels in
    sym (ap (λ (p : PlanData). slice_get (levels p (length p.nodes)) c.args.node) c.self.view_is)
    ∙ sym (ap (λ (l : List ℕ). slice_get l c.args.node) is)
    ∙ slice_get-get_or kept c.args.node 0 (level_there plan c.args.self.now kept c.args.node c.self.view_is is c.requires)
