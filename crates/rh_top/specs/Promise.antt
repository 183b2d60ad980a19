-- What a call of the program promises, status by status.
use Rattle.std.specs.Prelude.{ℕ, ◌≡◌, ◌⊎◌, List, Some, Bool, true, false, codes, if◌then◌else◌}
use Rattle.rh_outside.specs.Counts.{Rose}
use Rattle.rh_outside.specs.Shelves.{MayBe}
use Rattle.rh_outside.specs.States.{StoreState, OutputState, Takes, IsUntouched, BreaksOff, KeepsFiles}
use Rattle.rh_top.specs.declared.status.Status.{Status}
use Rattle.rh_top.specs.declared.status.Status.TheVariants.{Done, TaskFailed, BadWords, ProgramRefused, FaultsRefused, StoreFailed, OutputFailed, OutOfMemory}
use Rattle.rh_check.specs.Users.{HandedChecks}
use Rattle.rh_top.specs.Command.{Text, Command, IsCommand, IsBadWords}
use Rattle.rh_top.specs.Programs.{TextRefusal}
use Rattle.rh_top.specs.Answer.{Work, Answer, bad_words, program_refused, faults_refused, writes, Gives, ReadsFile, text_of, fails, refusal_line}

-- a call of the program: its words, the checks that are handed in, and its file store and its two outputs as the call begins and as it ends
pub record Call : Type 0 where
  pub words : List Text
  pub checks : HandedChecks
  pub files : StoreState
  pub files_after : StoreState
  pub out : OutputState
  pub out_after : OutputState
  pub err : OutputState
  pub err_after : OutputState

abbrev pub call_of : List Text → HandedChecks → StoreState → StoreState → OutputState → OutputState → OutputState → OutputState → Call
call_of words checks files files_after out out_after err err_after =
    record { words = words; checks = checks; files = files; files_after = files_after; out = out; out_after = out_after; err = err; err_after = err_after }

-- The store tells that the file of this name has these bytes.
abbrev pub IsTold : StoreState → Text → Text → Type 0
IsTold files name bytes = files.file name ≡ Some (Some bytes)

-- The output took the whole line, or broke off in it.
abbrev pub Says : OutputState → OutputState → Text → Type 0
Says before after line = Takes before after line ⊎ BreaksOff before after line

-- The words give a command, and P holds of it.
abbrev pub OnCommand : Call → (Command → Type 0) → Type 0
OnCommand call P = (c : Command) × IsCommand call.words c × P c

-- The count of failed reads of a file that the command reads rose.
abbrev pub ReadRose : Call → Command → Type 0
ReadRose call c = (name : Text) × ReadsFile c name × Rose (call.files.failed_reads name) (call.files_after.failed_reads name)

-- Nothing was done but to say this line.
pub record OnlySays (call : Call) (line : Text) : Type 0 where
  pub files : KeepsFiles call.files call.files_after
  pub out : IsUntouched call.out call.out_after
  pub err : Says call.err call.err_after line

-- All that was asked was written: the output took the text of the command's work, in which a task failed or none.
pub record Finishes (call : Call) (c : Command) (some_failed : Bool) : Type 0 where
  pub work : Work
  pub gives : Gives call.checks (MayBe call.files) c (writes work)
  pub failed : fails work ≡ some_failed
  pub out : Takes call.out call.out_after (text_of work)
  pub files : KeepsFiles call.files call.files_after
  pub err : IsUntouched call.err call.err_after

-- The output broke off in the text of the command's work.
pub record BreaksOutput (call : Call) (c : Command) : Type 0 where
  pub work : Work
  pub gives : Gives call.checks (MayBe call.files) c (writes work)
  pub out : BreaksOff call.out call.out_after (text_of work)
  pub files : KeepsFiles call.files call.files_after
  pub err : Says call.err call.err_after (codes "rh: out failed\n")

-- what each status tells of the call
abbrev pub Tells : Call → Status → Type 0
Tells call Done = OnCommand call (λ c. Finishes call c false)
Tells call TaskFailed = OnCommand call (λ c. Finishes call c true)
Tells call BadWords = IsBadWords call.words × OnlySays call (codes "rh: bad words\n")
Tells call ProgramRefused =
    (r : TextRefusal) × OnCommand call (λ c. Gives call.checks (MayBe call.files) c (program_refused r)) × OnlySays call (refusal_line (codes "program") r)
Tells call FaultsRefused =
    (r : TextRefusal) × OnCommand call (λ c. Gives call.checks (MayBe call.files) c (faults_refused r)) × OnlySays call (refusal_line (codes "faults") r)
Tells call StoreFailed = OnCommand call (λ c. ReadRose call c) × OnlySays call (codes "rh: shelf failed\n")
Tells call OutputFailed = OnCommand call (λ c. BreaksOutput call c)
Tells call OutOfMemory = ((c : Command) × IsCommand call.words c) × OnlySays call (codes "rh: out of memory\n")

-- the number of a status
abbrev pub status_number : Status → ℕ
status_number Done = 0
status_number TaskFailed = 1
status_number BadWords = 2
status_number ProgramRefused = 3
status_number FaultsRefused = 4
status_number StoreFailed = 5
status_number OutputFailed = 6
status_number OutOfMemory = 7

-- The number is that of a status that tells the truth of the call.
pub record KeepsPromise (call : Call) (number : ℕ) : Type 0 where
  pub status : Status
  pub numbered : number ≡ status_number status
  pub tells : Tells call status

-- the number of an answer's status
abbrev pub answer_number : Answer → ℕ
answer_number bad_words = 2
answer_number (program_refused r) = 3
answer_number (faults_refused r) = 4
answer_number (writes work) = (if fails work then 1 else 0)
