-- The answer to a call: the first case that applies, by the words and by what is read of the files.
use Rattle.std.specs.Prelude.{◌≡◌, ◌++◌, ◌⊎◌, List, [], Bool, Option, Some, None, codes}
use Rattle.std.specs.List.{list_any}
use Rattle.std.specs.Fmt.{decimal}
use Rattle.rh_words.specs.Reasons.{number_of_reason, name_of_reason}
use Rattle.rh_injector.specs.declared.faults.Strike.{Strike}
use Rattle.rh_plan.specs.Plans.{PlanData}
use Rattle.rh_plan.specs.Results.{all_results, is_failed}
use Rattle.rh_report.specs.Reports.{report_text}
use Rattle.rh_check.specs.Users.{HandedChecks}
use Rattle.rh_top.specs.Command.{Text, Command, run, IsCommand, IsBadWords}
use Rattle.rh_top.specs.Programs.{TextRefusal, IsProgram, IsRefusedProgram, AreFaultsIn, AreRefusedFaults}

-- where a text comes from: nowhere, or from the file of a name
pub data Source : Type 0 where
  absent : Source
  stored : (name : Text) → Source

abbrev pub stored_where : Option Text → Source
stored_where None = absent
stored_where (Some name) = stored name

-- where a command's program and its faults come from
abbrev pub program_of : Command → Source
program_of (run program faults) = stored program

abbrev pub faults_of : Command → Source
faults_of (run program faults) = stored_where faults

-- what is done where nothing is refused
pub data Work : Type 0 where
  reported : (plan : PlanData) → (faults : List Strike) → Work

-- the text that the work gives for the output
abbrev pub text_of : Work → Text
text_of (reported plan faults) = report_text plan faults

-- a task of the work failed
abbrev pub fails : Work → Bool
fails (reported plan faults) = list_any (λ r. is_failed r.verdict) (all_results plan faults)

-- what a call comes to
pub data Answer : Type 0 where
  bad_words : Answer
  program_refused : TextRefusal → Answer
  faults_refused : TextRefusal → Answer
  writes : Work → Answer

-- These bytes are the text, where R says which bytes are read of a file.
abbrev pub IsTextOf : (Text → Text → Type 0) → Source → Text → Type 0
IsTextOf R absent bytes = ⊥
IsTextOf R (stored name) bytes = R name bytes

-- The plan of the command's program.
abbrev pub HasPlan : HandedChecks → (Text → Text → Type 0) → Command → PlanData → Type 0
HasPlan checks R c plan = (bytes : Text) × IsTextOf R (program_of c) bytes × IsProgram checks bytes plan

-- The faults that a source gives in the plan: none where it is absent.
abbrev pub GivesFaults : (Text → Text → Type 0) → Source → PlanData → List Strike → Type 0
GivesFaults R absent plan faults = faults ≡ []
GivesFaults R (stored name) plan faults = (bytes : Text) × R name bytes × AreFaultsIn plan bytes faults

-- The command's program and faults, which are accepted.
pub record IsAccepted (checks : HandedChecks) (R : Text → Text → Type 0) (c : Command) (plan : PlanData) (faults : List Strike) : Type 0 where
  pub plans : HasPlan checks R c plan
  pub injected : GivesFaults R (faults_of c) plan faults

-- The command, whose texts are accepted, does this work.
abbrev pub IsWork : HandedChecks → (Text → Text → Type 0) → Command → Work → Type 0
IsWork checks R c (reported plan faults) = IsAccepted checks R c plan faults

-- The command comes to this answer, where R says which bytes are read of a file.
abbrev pub Gives : HandedChecks → (Text → Text → Type 0) → Command → Answer → Type 0
Gives checks R c bad_words = ⊥
Gives checks R c (program_refused r) = (bytes : Text) × IsTextOf R (program_of c) bytes × IsRefusedProgram checks bytes r
Gives checks R c (faults_refused r) =
    (plan : PlanData) × HasPlan checks R c plan × ((bytes : Text) × IsTextOf R (faults_of c) bytes × AreRefusedFaults plan bytes r)
Gives checks R c (writes work) = IsWork checks R c work

-- The words come to this answer, where R says which bytes are read of a file.
abbrev pub IsAnswer : HandedChecks → (Text → Text → Type 0) → List Text → Answer → Type 0
IsAnswer checks R words bad_words = IsBadWords words
IsAnswer checks R words (program_refused r) = (c : Command) × IsCommand words c × Gives checks R c (program_refused r)
IsAnswer checks R words (faults_refused r) = (c : Command) × IsCommand words c × Gives checks R c (faults_refused r)
IsAnswer checks R words (writes work) = (c : Command) × IsCommand words c × Gives checks R c (writes work)

-- The command reads this file.
abbrev pub ReadsFile : Command → Text → Type 0
ReadsFile c name = (program_of c ≡ stored name) ⊎ (faults_of c ≡ stored name)

-- the line that tells of a refused text
unfoldable pub refusal_line : Text → TextRefusal → Text
refusal_line which r =
    codes "rh: " ++ which ++ codes " line " ++ decimal r.line ++ codes " reason " ++ decimal (number_of_reason r.reason) ++ codes " " ++ name_of_reason r.reason ++ codes "\n"
