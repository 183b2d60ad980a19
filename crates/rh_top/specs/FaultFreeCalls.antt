-- What the report of a call tells of what kept within its fault budgets.
use Rattle.std.specs.Prelude.{ℕ, ◌≡◌, ◌⊎◌, List}
use Rattle.rh_injector.specs.declared.faults.Strike.{Strike}
use Rattle.rh_check.specs.Users.{ArePaired}
use Rattle.rh_plan.specs.Plans.{PlanData}
use Rattle.rh_plan.specs.Lawful.{IsLawfulPlan}
use Rattle.rh_report.specs.Reports.{report_text}
use Rattle.rh_report.specs.FaultFree.{KeepsWithin, IsToldFaultFree}
use Rattle.rh_outside.specs.Shelves.{MayBe}
use Rattle.rh_outside.specs.States.{Takes}
use Rattle.rh_top.specs.Command.{Command, IsCommand}
use Rattle.rh_top.specs.Answer.{IsAccepted}
use Rattle.rh_top.specs.Promise.{Call, KeepsPromise}

-- The output took the report of an accepted program and its faults. It tells of each node that is within its fault budget, with all that it
-- depends on, what it tells without faults.
pub record ReportsFaultFree (call : Call) : Type 0 where
  pub command : Command
  pub words : IsCommand call.words command
  pub plan : PlanData
  pub faults : List Strike
  pub accepted : IsAccepted call.checks (MayBe call.files) command plan faults
  pub lawful : IsLawfulPlan plan
  pub out : Takes call.out call.out_after (report_text plan faults)
  pub told : (v : ℕ) → KeepsWithin plan faults v → IsToldFaultFree plan faults v

-- Where a call ends with status 0 or 1, its report does.
abbrev pub ReportsOfCallsAreFaultFree : Type 0
ReportsOfCallsAreFaultFree = (call : Call) (n : ℕ) → ArePaired call.checks → KeepsPromise call n → (n ≡ 0) ⊎ (n ≡ 1) → ReportsFaultFree call
