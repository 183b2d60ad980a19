-- The plan of a lawful text is lawful.
use Rattle.std.proofs.Common.{◌≡◌, ◌<◌, ◌^◌, List, length, ap, sym, subst}
use Rattle.std.specs.List.{AllByRecursion}
use Rattle.rh_task_text.specs.Program.{ProgramText, IsLawfulText}
use Rattle.rh_check.specs.Users.{HandedChecks, ArePaired}
use Rattle.rh_rules.specs.Lawful.{AreLawful}
use Rattle.rh_planner.proofs.LawfulDrafts.{planned_lawful}
use Rattle.rh_plan.specs.declared.edge.Edge.{Edge}
use Rattle.rh_plan.specs.Plans.{PlanData, shapes_in, edges_from}
use Rattle.rh_plan.specs.Lawful.{IsForward, IsLawfulPlan}
use Rattle.rh_plan.specs.Planned.{IsPlanOf}
use Rattle.rh_plan.proofs.EdgesRise.{edges_rise, edges_few}

pub planned_plan_lawful : (handed : HandedChecks) (text : ProgramText) (plan : PlanData) → ArePaired handed → IsLawfulText text → IsPlanOf handed text plan → IsLawfulPlan plan
planned_plan_lawful handed text plan paired lawful is =
    let parts : AreLawful (shapes_in plan) plan.nodes plan.promises = planned_lawful handed text plan.nodes plan.promises plan.matrices paired lawful is.draft in
    let edges : plan.edges ≡ edges_from plan.promises 0 plan.nodes = ap (λ (p : PlanData). p.edges) is.whole in
    record {
      parts = parts;
      edges = edges;
      forward = subst (AllByRecursion (IsForward (length plan.nodes))) (sym edges) (edges_rise (shapes_in plan) plan.nodes plan.promises parts);
      few_edges = subst (λ (l : List Edge). length l < 2 ^ 32) (sym edges) (edges_few (shapes_in plan) plan.nodes plan.promises parts);
    }
