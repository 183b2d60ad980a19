-- The plan of a text.
use Rattle.std.specs.Prelude.{◌≡◌}
use Rattle.rh_task_text.specs.Program.{ProgramText}
use Rattle.rh_check.specs.Users.{HandedChecks}
use Rattle.rh_planner.specs.Planned.{IsDraftOf}
use Rattle.rh_plan.specs.Plans.{PlanData, plan_data, edges_from}

-- Each statement of the text keeps the rules, with these handed-in checks. The plan has its nodes, promises and matrices, and the edges that follow from
-- them.
pub record IsPlanOf (handed : HandedChecks) (text : ProgramText) (plan : PlanData) : Type 0 where
  pub draft : IsDraftOf handed text plan.nodes plan.promises plan.matrices
  pub whole : plan ≡ plan_data plan.nodes plan.promises (edges_from plan.promises 0 plan.nodes) plan.matrices
