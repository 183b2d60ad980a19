use Rattle.std.proofs.Common.{◌≡◌, ◌∙◌, ap, arith, length}
use Rattle.rh_plan.specs.Plans.{PlanData, plan_data}
use Rattle.rh_plan.specs.Derived.{sources, edges_out}
use Rattle.rh_plan.proofs.KeyPlaces.{is_part, part_places}
use Rattle.rh_plan.proofs.plans.Plan.edges_out.Goals as goal

pub group_of-requires : goal.group_of-requires
group_of-requires c =
    let plan = plan_data c.self.inside.nodes.items c.self.inside.promises.items c.self.inside.edges.items c.self.inside.matrices in
    let same : length plan.nodes ≡ length c.args.self.now.nodes = ap (λ (p : PlanData). length p.nodes) c.self.view_is in
    let within = c.requires in
    is_part (sources plan) (length plan.nodes) c.self.inside.tables.out_of c.args.node c.self.invariant.kept.out_of (omega arith)

pub returns : goal.returns
returns c =
    let plan = plan_data c.self.inside.nodes.items c.self.inside.promises.items c.self.inside.edges.items c.self.inside.matrices in
    let same : length plan.nodes ≡ length c.args.self.now.nodes = ap (λ (p : PlanData). length p.nodes) c.self.view_is in
    let within = c.requires in
    c.group_of.ensures
    ∙ part_places (sources plan) (length plan.nodes) c.self.inside.tables.out_of c.args.node c.self.invariant.kept.out_of (omega arith)
    ∙ ap (λ (p : PlanData). edges_out p c.args.node) c.self.view_is
