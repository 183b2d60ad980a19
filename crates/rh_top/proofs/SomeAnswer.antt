-- A call whose files are told has an answer, and one of whose files is told as not there has none.
use Rattle.std.proofs.Common.{◌≡◌, ◌⊎◌, List, [], Option, Some, None, refl, subst, inl, inr}
use Rattle.rh_outside.specs.Shelves.{MayBe}
use Rattle.rh_outside.specs.States.{Told, WhereTold, StoreState}
use Rattle.rh_injector.specs.declared.faults.Strike.{Strike}
use Rattle.rh_plan.specs.Plans.{PlanData}
use Rattle.rh_check.specs.Users.{HandedChecks}
use Rattle.rh_top.specs.Command.{Text, Command, run, IsCommand, command_of}
use Rattle.rh_top.specs.Programs.{TextRefusal, AreRefusedFaults}
use Rattle.rh_top.specs.Answer.{Source, absent, stored, program_of, faults_of, reported, Answer, bad_words, program_refused, faults_refused, writes, IsTextOf, HasPlan, GivesFaults, Gives, IsAnswer, ReadsFile}
use Rattle.rh_top.specs.Promise.{IsTold}
use Rattle.rh_top.proofs.ProgramTexts.{program_or_refused}
use Rattle.rh_top.proofs.FaultFiles.{faults_or_refused}
use Rattle.rh_top.proofs.OneAnswer.{gives_answer, planned_or_refused}

-- the faults of a source whose file is told are accepted or refused
faults_given : (files : StoreState) (s : Source) (plan : PlanData) → ((name : Text) → s ≡ stored name → (bytes : Text) × IsTold files name bytes) → ((faults : List Strike) × GivesFaults (IsTold files) s plan faults) ⊎ ((r : TextRefusal) × ((bytes : Text) × IsTextOf (IsTold files) s bytes × AreRefusedFaults plan bytes r))
faults_given files absent plan told = inl ([], refl)
faults_given files (stored name) plan told =
    let (bytes, is) = told name refl in
    elim (faults_or_refused plan bytes) [
      | inl are ↦ inl (are.0, (bytes, is, are.1))
      | inr refused ↦ inr (refused.0, (bytes, is, refused.1))
    ]

-- a command whose program is there comes to something
gives_of : (checks : HandedChecks) (files : StoreState) (c : Command) (bytes : Text) → IsTextOf (IsTold files) (program_of c) bytes → ((name : Text) → faults_of c ≡ stored name → (text : Text) × IsTold files name text) → (a : Answer) × Gives checks (IsTold files) c a
gives_of checks files c bytes is told = elim (program_or_refused checks bytes) [
  | inr refused ↦ (program_refused refused.0, (bytes, is, refused.1))
  | inl has ↦ elim (faults_given files (faults_of c) has.0 told) [
    | inl given ↦ (writes (reported has.0 given.0), record { plans = (bytes, is, has.1); injected = given.1 })
    | inr refused ↦ (faults_refused refused.0, (has.0, (bytes, is, has.1), refused.1))
  ]
]

-- a command whose files are told comes to something
gives_some : (checks : HandedChecks) (files : StoreState) (c : Command) → ((name : Text) → ReadsFile c name → (bytes : Text) × IsTold files name bytes) → (a : Answer) × Gives checks (IsTold files) c a
gives_some checks files (run program faults) told =
    let (bytes, is) = told program (inl refl) in
    gives_of checks files (run program faults) bytes is (λ name from. told name (inr from))

answers_on : (checks : HandedChecks) (R : Text → Text → Type 0) (words : List Text) (c : Command) (a : Answer) → IsCommand words c → Gives checks R c a → IsAnswer checks R words a
answers_on checks R words c bad_words named gives = absurd gives
answers_on checks R words c (program_refused r) named gives = (c, named, gives)
answers_on checks R words c (faults_refused r) named gives = (c, named, gives)
answers_on checks R words c (writes work) named gives = (c, named, gives)

none_or_some : (o : Option Command) → (o ≡ None) ⊎ ((c : Command) × (o ≡ Some c))
none_or_some None = inl refl
none_or_some (Some c) = inr (c, refl)

pub some_answer : (checks : HandedChecks) (files : StoreState) (words : List Text) → ((c : Command) (name : Text) → IsCommand words c → ReadsFile c name → (bytes : Text) × IsTold files name bytes) → (a : Answer) × IsAnswer checks (IsTold files) words a
some_answer checks files words told = elim (none_or_some (command_of words)) [
  | inl bad ↦ (bad_words, bad)
  | inr named ↦
      let (c, is) = named in
      let some = gives_some checks files c (λ name reads. told c name is reads) in
      (some.0, answers_on checks (IsTold files) words c some.0 is some.1)
]

-- a file that is not there has no bytes
no_bytes : (t : Told) (bytes : Text) → t ≡ Some None → WhereTold t (λ told. told ≡ bytes) → ⊥
no_bytes t bytes none may = subst (λ (u : Told). WhereTold u (λ told. told ≡ bytes)) none may

no_text : (files : StoreState) (s : Source) (name bytes : Text) → s ≡ stored name → files.file name ≡ Some None → IsTextOf (MayBe files) s bytes → ⊥
no_text files s name bytes is none may =
    no_bytes (files.file name) bytes none (subst (λ (x : Source). IsTextOf (MayBe files) x bytes) is may)

no_faults : (files : StoreState) (s : Source) (name : Text) (plan : PlanData) (faults : List Strike) → s ≡ stored name → files.file name ≡ Some None → GivesFaults (MayBe files) s plan faults → ⊥
no_faults files s name plan faults is none given =
    let there = subst (λ (x : Source). GivesFaults (MayBe files) x plan faults) is given in
    no_bytes (files.file name) there.0 none there.1

-- where the program is not there the command comes to nothing
gives_nothing : (checks : HandedChecks) (files : StoreState) (c : Command) (name : Text) (a : Answer) → program_of c ≡ stored name → files.file name ≡ Some None → Gives checks (MayBe files) c a → ⊥
gives_nothing checks files c name bad_words is none gives = gives
gives_nothing checks files c name (program_refused r) is none gives = no_text files (program_of c) name gives.0 is none gives.1
gives_nothing checks files c name (faults_refused r) is none gives = no_text files (program_of c) name gives.1.0 is none gives.1.1
gives_nothing checks files c name (writes (reported plan faults)) is none gives = no_text files (program_of c) name gives.plans.0 is none gives.plans.1

pub absent_program : (checks : HandedChecks) (files : StoreState) (words : List Text) (c : Command) (name : Text) → IsCommand words c → program_of c ≡ stored name → files.file name ≡ Some None → (a : Answer) → IsAnswer checks (MayBe files) words a → ⊥
absent_program checks files words c name named is none a may = gives_nothing checks files c name a is none (gives_answer checks (MayBe files) words c a named may)

-- where the program is accepted, and the faults are not there, neither
gives_no_run : (checks : HandedChecks) (files : StoreState) (c : Command) (name : Text) (plan : PlanData) (a : Answer) → HasPlan checks (IsTold files) c plan → faults_of c ≡ stored name → files.file name ≡ Some None → Gives checks (MayBe files) c a → ⊥
gives_no_run checks files c name plan bad_words has is none gives = gives
gives_no_run checks files c name plan (program_refused r) has is none gives = planned_or_refused checks files c r plan has gives
gives_no_run checks files c name plan (faults_refused r) has is none (q, may, (bytes, there, refused)) = no_text files (faults_of c) name bytes is none there
gives_no_run checks files c name plan (writes (reported q faults)) has is none gives = no_faults files (faults_of c) name q faults is none gives.injected

pub absent_faults : (checks : HandedChecks) (files : StoreState) (words : List Text) (c : Command) (name : Text) (plan : PlanData) → IsCommand words c → HasPlan checks (IsTold files) c plan → faults_of c ≡ stored name → files.file name ≡ Some None → (a : Answer) → IsAnswer checks (MayBe files) words a → ⊥
absent_faults checks files words c name plan named has is none a may = gives_no_run checks files c name plan a has is none (gives_answer checks (MayBe files) words c a named may)
