-- The report of a call that ended well tells what is fault-free.
use Rattle.std.proofs.Common.{◌≡◌, ◌⊎◌, ℕ, List, Bool, true, false, inl, inr, subst}
use Rattle.rh_task_text.specs.Program.{ProgramText, IsLawfulText, Reads}
use Rattle.rh_check.specs.Users.{HandedChecks, ArePaired}
use Rattle.rh_plan.specs.Plans.{PlanData}
use Rattle.rh_plan.specs.Planned.{IsPlanOf}
use Rattle.rh_plan.specs.Lawful.{IsLawfulPlan}
use Rattle.rh_report.specs.FaultFree.{ReportsAreFaultFree}
use Rattle.rh_outside.specs.Shelves.{MayBe}
use Rattle.rh_outside.specs.States.{Takes}
use Rattle.rh_top.specs.declared.status.Status.{Status}
use Rattle.rh_top.specs.declared.status.Status.TheVariants.{Done, TaskFailed, BadWords, ProgramRefused, FaultsRefused, StoreFailed, OutputFailed, OutOfMemory}
use Rattle.rh_top.specs.Command.{Command, IsCommand}
use Rattle.rh_top.specs.Answer.{Work, reported, writes, Gives, text_of}
use Rattle.rh_top.specs.Promise.{Call, Tells, Finishes, OnCommand, status_number}
use Rattle.rh_top.specs.FaultFreeCalls.{ReportsFaultFree, ReportsOfCallsAreFaultFree}

-- read texts are lawful, and so are the plans of lawful texts
abbrev AreReadLawful : Type 0
AreReadLawful = (bytes : List ℕ) (text : ProgramText) → Reads bytes text → IsLawfulText text

abbrev ArePlannedLawful : Type 0
ArePlannedLawful = (handed : HandedChecks) (text : ProgramText) (plan : PlanData) → ArePaired handed → IsLawfulText text → IsPlanOf handed text plan → IsLawfulPlan plan

by_work : AreReadLawful → ArePlannedLawful → ReportsAreFaultFree → (call : Call) → ArePaired call.checks → (c : Command) → IsCommand call.words c
    → (work : Work) → Gives call.checks (MayBe call.files) c (writes work) → Takes call.out call.out_after (text_of work) → ReportsFaultFree call
by_work texts plans reports call paired c words (reported plan faults) accepted out =
    let (bytes, from, program) = accepted.plans in
    let lawful = plans call.checks program.text plan paired (texts bytes program.text program.reads) program.planned in
    record { command = c; words = words; plan = plan; faults = faults; accepted = accepted; lawful = lawful; out = out; told = reports plan lawful faults }

finished : AreReadLawful → ArePlannedLawful → ReportsAreFaultFree → (call : Call) → ArePaired call.checks → (failed : Bool) → OnCommand call (λ c. Finishes call c failed) → ReportsFaultFree call
finished texts plans reports call paired failed (c, words, f) = by_work texts plans reports call paired c words f.work f.gives f.out

abbrev ends_well : ℕ → Type 0
ends_well n = (n ≡ 0) ⊎ (n ≡ 1)

not_well : (n : ℕ) → (n ≡ 0 → ⊥) → (n ≡ 1 → ⊥) → ends_well n → ⊥
not_well n zero one (inl e) = zero e
not_well n zero one (inr e) = one e

by_status : AreReadLawful → ArePlannedLawful → ReportsAreFaultFree → (call : Call) → ArePaired call.checks → (s : Status) → Tells call s → ends_well (status_number s) → ReportsFaultFree call
by_status texts plans reports call paired Done tells well = finished texts plans reports call paired false tells
by_status texts plans reports call paired TaskFailed tells well = finished texts plans reports call paired true tells
by_status texts plans reports call paired BadWords tells well = absurd (not_well 2 (λ e. cc e) (λ e. cc e) well)
by_status texts plans reports call paired ProgramRefused tells well = absurd (not_well 3 (λ e. cc e) (λ e. cc e) well)
by_status texts plans reports call paired FaultsRefused tells well = absurd (not_well 4 (λ e. cc e) (λ e. cc e) well)
by_status texts plans reports call paired StoreFailed tells well = absurd (not_well 5 (λ e. cc e) (λ e. cc e) well)
by_status texts plans reports call paired OutputFailed tells well = absurd (not_well 6 (λ e. cc e) (λ e. cc e) well)
by_status texts plans reports call paired OutOfMemory tells well = absurd (not_well 7 (λ e. cc e) (λ e. cc e) well)

well_of : (n m : ℕ) → n ≡ m → ends_well n → ends_well m
well_of n m e well = subst ends_well e well

pub reports_of_calls : AreReadLawful → ArePlannedLawful → ReportsAreFaultFree → ReportsOfCallsAreFaultFree
reports_of_calls texts plans reports call n paired keeps well =
    by_status texts plans reports call paired keeps.status keeps.tells (well_of n (status_number keeps.status) keeps.numbered well)
