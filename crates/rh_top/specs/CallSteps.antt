-- What the steps of a call answer, which the promise of the whole call is made of.
use Rattle.std.specs.Prelude.{◌≡◌, ◌⊎◌, ℕ, ◌<◌, ◌≤◌, true, false, List, Option, Some, None, Result, Ok, Err, codes, length}
use Rattle.rh_words.specs.declared.reason.Refusal.{Refusal}
use Rattle.rh_outside.specs.Counts.{Rose}
use Rattle.rh_outside.specs.Shelves.{MayBe}
use Rattle.rh_outside.specs.States.{WhereTold, StoreState, OutputState, Takes, IsUntouched, BreaksOff}
use Rattle.rh_injector.specs.declared.faults.Strike.{Strike}
use Rattle.rh_plan.specs.Plans.{PlanData}
use Rattle.rh_top.specs.declared.status.Status.{Status}
use Rattle.rh_top.specs.declared.status.Status.TheVariants.{Done, TaskFailed, ProgramRefused, FaultsRefused, StoreFailed, OutputFailed, OutOfMemory}
use Rattle.rh_top.specs.declared.texts.Stop.{Stop}
use Rattle.rh_top.specs.declared.texts.Stop.TheVariants as stop
use Rattle.rh_top.specs.declared.texts.Texts.{Texts}
use Rattle.rh_check.specs.Users.{HandedChecks}
use Rattle.rh_top.specs.Command.{Text, Command}
use Rattle.rh_top.specs.Programs.{TextRefusal, IsProgram, IsRefusedProgram, AreRefusedFaults}
use Rattle.rh_top.specs.Answer.{Work, reported, GivesFaults, IsTextOf, stored_where, Gives, program_refused, faults_refused, writes, ReadsFile, text_of, fails, refusal_line}
use Rattle.rh_top.specs.Promise.{Says}

-- the line and the reason of a refusal
abbrev pub refusal_of : Refusal → TextRefusal
refusal_of r = record { line = r.line; reason = r.reason }

-- the bytes of a file, or none where it has more than the limit, or why it was not read
abbrev pub BytesOr : StoreState → StoreState → Text → ℕ → Result (Option Text) Stop → Type 0
BytesOr before after name limit (Ok (Some bytes)) = MayBe before name bytes × (length bytes ≤ limit)
BytesOr before after name limit (Ok None) = WhereTold (before.file name) (λ told. limit < length told)
BytesOr before after name limit (Err (stop.ProgramRefused r)) = ⊥
BytesOr before after name limit (Err (stop.FaultsRefused r)) = ⊥
BytesOr before after name limit (Err stop.ReadFailed) = Rose (before.failed_reads name) (after.failed_reads name)
BytesOr before after name limit (Err stop.OutOfMemory) = Unit {0}

-- the plan of the program in a file, or why there is none
abbrev pub PlansOr : HandedChecks → StoreState → StoreState → Text → Result PlanData Stop → Type 0
PlansOr checks before after name (Ok plan) = (bytes : Text) × MayBe before name bytes × IsProgram checks bytes plan
PlansOr checks before after name (Err (stop.ProgramRefused r)) =
    (bytes : Text) × MayBe before name bytes × IsRefusedProgram checks bytes (refusal_of r)
PlansOr checks before after name (Err (stop.FaultsRefused r)) = ⊥
PlansOr checks before after name (Err stop.ReadFailed) = Rose (before.failed_reads name) (after.failed_reads name)
PlansOr checks before after name (Err stop.OutOfMemory) = Unit {0}

-- the faults in a file, where one is named, or why there are none
abbrev pub FaultsOr : StoreState → StoreState → PlanData → Option Text → Result (List Strike) Stop → Type 0
FaultsOr before after plan name (Ok faults) = GivesFaults (MayBe before) (stored_where name) plan faults
FaultsOr before after plan name (Err (stop.ProgramRefused r)) = ⊥
FaultsOr before after plan name (Err (stop.FaultsRefused r)) =
    (bytes : Text) × IsTextOf (MayBe before) (stored_where name) bytes × AreRefusedFaults plan bytes (refusal_of r)
FaultsOr before after plan name (Err stop.ReadFailed) = (file : Text) × (name ≡ Some file) × Rose (before.failed_reads file) (after.failed_reads file)
FaultsOr before after plan name (Err stop.OutOfMemory) = Unit {0}

-- The texts are those of a run of the plan under these faults.
pub record AreTextsOfRun (plan : PlanData) (faults : List Strike) (texts : Texts) : Type 0 where
  pub out : texts.out ≡ text_of (reported plan faults)
  pub failed : texts.failed ≡ fails (reported plan faults)

-- the texts of a run under the faults in a file, where one is named, or why there are none
abbrev pub RunsOr : StoreState → StoreState → PlanData → Option Text → Result Texts Stop → Type 0
RunsOr before after plan name (Ok texts) =
    (faults : List Strike) × GivesFaults (MayBe before) (stored_where name) plan faults × AreTextsOfRun plan faults texts
RunsOr before after plan name (Err why) = FaultsOr before after plan name (Err why)

-- The texts are those of the command's work.
pub record AreTextsFor (checks : HandedChecks) (files : StoreState) (c : Command) (texts : Texts) : Type 0 where
  pub work : Work
  pub gives : Gives checks (MayBe files) c (writes work)
  pub out : texts.out ≡ text_of work
  pub failed : texts.failed ≡ fails work

-- why a command came to no texts
abbrev pub StopsBy : HandedChecks → StoreState → StoreState → Command → Stop → Type 0
StopsBy checks before after c (stop.ProgramRefused r) = Gives checks (MayBe before) c (program_refused (refusal_of r))
StopsBy checks before after c (stop.FaultsRefused r) = Gives checks (MayBe before) c (faults_refused (refusal_of r))
StopsBy checks before after c stop.ReadFailed =
    (name : Text) × ReadsFile c name × Rose (before.failed_reads name) (after.failed_reads name)
StopsBy checks before after c stop.OutOfMemory = Unit {0}

-- what the writing of the texts came to
abbrev pub Delivers : Texts → OutputState → OutputState → OutputState → OutputState → Status → Type 0
Delivers texts out out_after err err_after Done = (texts.failed ≡ false) × Takes out out_after texts.out × IsUntouched err err_after
Delivers texts out out_after err err_after TaskFailed = (texts.failed ≡ true) × Takes out out_after texts.out × IsUntouched err err_after
Delivers texts out out_after err err_after OutputFailed =
    BreaksOff out out_after texts.out × Says err err_after (codes "rh: out failed\n")
Delivers texts out out_after err err_after other = ⊥

-- what was said of a refused text, and the status: the one that is given, or want of memory
abbrev pub IsToldRefusal : OutputState → OutputState → Text → TextRefusal → Status → Status → Type 0
IsToldRefusal err err_after which r given status =
    ((status ≡ given) × Says err err_after (refusal_line which r))
    ⊎ ((status ≡ OutOfMemory) × Says err err_after (codes "rh: out of memory\n"))

-- what was said of why there are no texts, and the status
abbrev pub IsToldOf : OutputState → OutputState → Stop → Status → Type 0
IsToldOf err err_after (stop.ProgramRefused r) ProgramRefused =
    Says err err_after (refusal_line (codes "program") (refusal_of r))
IsToldOf err err_after (stop.FaultsRefused r) FaultsRefused =
    Says err err_after (refusal_line (codes "faults") (refusal_of r))
IsToldOf err err_after stop.ReadFailed StoreFailed = Says err err_after (codes "rh: shelf failed\n")
IsToldOf err err_after any OutOfMemory = Says err err_after (codes "rh: out of memory\n")
IsToldOf err err_after any other = ⊥
