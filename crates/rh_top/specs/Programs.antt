-- What the bytes of a program come to, and those of a fault file under its plan.
use Rattle.std.specs.Prelude.{ℕ, ◌≡◌, ◌<◌, ◌≤◌, ◌⊎◌, List, length}
use Rattle.rh_words.specs.declared.reason.Reason.{Reason}
use Rattle.rh_words.specs.declared.reason.Reason.TheVariants.{Limit}
use Rattle.rh_words.specs.declared.limits.TheConstants.{MAX_PROGRAM_BYTES, MAX_FAULT_BYTES}
use Rattle.rh_task_text.specs.Program.{ProgramText, Reads, FirstBad}
use Rattle.rh_injector.specs.declared.fault_text.FaultLine.{FaultLine}
use Rattle.rh_injector.specs.declared.faults.Strike.{Strike}
use Rattle.rh_injector.specs.FaultTexts as faults
use Rattle.rh_plan.specs.Plans.{PlanData}
use Rattle.rh_plan.specs.FaultLines.{AreFaultsOfText, FirstBadFault}
use Rattle.rh_planner.specs.Planned.{FirstBreak}
use Rattle.rh_plan.specs.Planned.{IsPlanOf}
use Rattle.rh_check.specs.Users.{HandedChecks}

-- the line of a text that is refused, and why; line 0 stands for the whole text
pub record TextRefusal : Type 0 where
  pub line : ℕ
  pub reason : Reason

-- The bytes are within their limit and a program text, which keeps the rules, and this is its plan. The checks are those that are handed in.
pub record IsProgram (checks : HandedChecks) (bytes : List ℕ) (plan : PlanData) : Type 0 where
  pub text : ProgramText
  pub short : length bytes ≤ MAX_PROGRAM_BYTES
  pub reads : Reads bytes text
  pub planned : IsPlanOf checks text plan

-- The bytes are too many, which is told of line 0, or have this first bad line, or are a program text that first breaks a rule there.
abbrev pub IsRefusedProgram : HandedChecks → List ℕ → TextRefusal → Type 0
IsRefusedProgram checks bytes r =
    ((MAX_PROGRAM_BYTES < length bytes) × (r.line ≡ 0) × (r.reason ≡ Limit))
    ⊎ (((length bytes ≤ MAX_PROGRAM_BYTES) × FirstBad bytes r.line r.reason)
    ⊎ ((text : ProgramText) × (length bytes ≤ MAX_PROGRAM_BYTES) × Reads bytes text × FirstBreak checks text r.line r.reason))

-- The bytes are within their limit and a fault text, whose lines name places in the plan, and these are its faults.
pub record AreFaultsIn (plan : PlanData) (bytes : List ℕ) (strikes : List Strike) : Type 0 where
  pub lines : List FaultLine
  pub short : length bytes ≤ MAX_FAULT_BYTES
  pub reads : faults.Reads bytes lines
  pub named : AreFaultsOfText plan lines strikes

-- The bytes are too many, which is told of line 0, or have this first bad line, or are a fault text whose first line that is refused this is.
abbrev pub AreRefusedFaults : PlanData → List ℕ → TextRefusal → Type 0
AreRefusedFaults plan bytes r =
    ((MAX_FAULT_BYTES < length bytes) × (r.line ≡ 0) × (r.reason ≡ Limit))
    ⊎ (((length bytes ≤ MAX_FAULT_BYTES) × faults.FirstBad bytes r.line r.reason)
    ⊎ ((lines : List FaultLine) × (length bytes ≤ MAX_FAULT_BYTES) × faults.Reads bytes lines × FirstBadFault plan lines r.line r.reason))
