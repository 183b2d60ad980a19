-- Words have one answer by what is told of their files.
use Rattle.std.proofs.Common.{◌≡◌, List, Some, refl, sym, ◌∙◌, ap, subst}
use Rattle.rh_outside.specs.Shelves.{MayBe}
use Rattle.rh_outside.specs.States.{Told, WhereTold, StoreState}
use Rattle.rh_injector.specs.declared.faults.Strike.{Strike}
use Rattle.rh_plan.specs.Plans.{PlanData}
use Rattle.rh_check.specs.Users.{HandedChecks}
use Rattle.rh_top.specs.Command.{Text, Command, IsCommand, IsBadWords}
use Rattle.rh_top.specs.Programs.{TextRefusal, IsProgram, IsRefusedProgram, AreFaultsIn, AreRefusedFaults}
use Rattle.rh_top.specs.Answer.{Source, absent, stored, program_of, faults_of, Work, reported, Answer, bad_words, program_refused, faults_refused, writes, IsTextOf, HasPlan, GivesFaults, IsWork, Gives, IsAnswer}
use Rattle.rh_top.specs.Promise.{IsTold}
use Rattle.rh_top.proofs.ProgramTexts.{never_both, one_plan, one_refusal}
use Rattle.rh_top.proofs.FaultFiles as fault_files

told_may : (t : Told) (bytes other : Text) → t ≡ Some (Some bytes) → WhereTold t (λ told. told ≡ other) → bytes ≡ other
told_may t bytes other is may = subst (λ (u : Told). WhereTold u (λ told. told ≡ other)) is may

-- the bytes of a told file are those that it may have
one_text : (files : StoreState) (source : Source) (a b : Text) → IsTextOf (IsTold files) source a → IsTextOf (MayBe files) source b → a ≡ b
one_text files absent a b is may = absurd is
one_text files (stored name) a b is may = told_may (files.file name) a b is may

-- Of one command with these checks handed in, by what is told of the files and by what may be.
module _ (checks : HandedChecks) (files : StoreState) (c : Command) where
  same_plan : (p q : PlanData) → HasPlan checks (IsTold files) c p → HasPlan checks (MayBe files) c q → p ≡ q
  same_plan p q is may =
      let same = one_text files (program_of c) is.0 may.0 is.1 may.1 in
      one_plan checks may.0 p q (subst (λ (b : Text). IsProgram checks b p) same is.2) may.2

  refused_or_planned : (r : TextRefusal) (plan : PlanData) → Gives checks (IsTold files) c (program_refused r) → HasPlan checks (MayBe files) c plan → ⊥
  refused_or_planned r plan refused has =
      let same = one_text files (program_of c) refused.0 has.0 refused.1 has.1 in
      never_both checks has.0 plan r has.2 (subst (λ (b : Text). IsRefusedProgram checks b r) same refused.2)

  pub planned_or_refused : (r : TextRefusal) (plan : PlanData) → HasPlan checks (IsTold files) c plan → Gives checks (MayBe files) c (program_refused r) → ⊥
  planned_or_refused r plan has refused =
      let same = one_text files (program_of c) has.0 refused.0 has.1 refused.1 in
      never_both checks refused.0 plan r (subst (λ (b : Text). IsProgram checks b plan) same has.2) refused.2

  same_faults : (s : Source) (plan : PlanData) (xs ys : List Strike) → GivesFaults (IsTold files) s plan xs → GivesFaults (MayBe files) s plan ys → xs ≡ ys
  same_faults absent plan xs ys is may = is ∙ sym may
  same_faults (stored name) plan xs ys is may =
      let same = one_text files (stored name) is.0 may.0 is.1 may.1 in
      fault_files.one_list plan may.0 xs ys (subst (λ (b : Text). AreFaultsIn plan b xs) same is.2) may.2

  -- faults that are told are not refused, and refused ones are none that may be
  given_or_refused : (s : Source) (plan : PlanData) (xs : List Strike) (r : TextRefusal) (bytes : Text) → GivesFaults (IsTold files) s plan xs → IsTextOf (MayBe files) s bytes → AreRefusedFaults plan bytes r → ⊥
  given_or_refused absent plan xs r bytes is there refused = there
  given_or_refused (stored name) plan xs r bytes is there refused =
      let same = one_text files (stored name) is.0 bytes is.1 there in
      fault_files.never_both plan bytes xs r (subst (λ (b : Text). AreFaultsIn plan b xs) same is.2) refused

  refused_or_given : (s : Source) (plan : PlanData) (xs : List Strike) (r : TextRefusal) (bytes : Text) → IsTextOf (IsTold files) s bytes → AreRefusedFaults plan bytes r → GivesFaults (MayBe files) s plan xs → ⊥
  refused_or_given absent plan xs r bytes there refused may = there
  refused_or_given (stored name) plan xs r bytes there refused may =
      let same = one_text files (stored name) bytes may.0 there may.1 in
      fault_files.never_both plan may.0 xs r may.2 (subst (λ (b : Text). AreRefusedFaults plan b r) same refused)

  one_work : (a b : Work) → IsWork checks (IsTold files) c a → IsWork checks (MayBe files) c b → a ≡ b
  one_work (reported p xs) (reported q ys) is may =
      let plan = same_plan p q is.plans may.plans in
      let faults = same_faults (faults_of c) q xs ys (subst (λ (x : PlanData). GivesFaults (IsTold files) (faults_of c) x xs) plan is.injected) may.injected in
      ap (λ (x : PlanData). reported x xs) plan ∙ ap (λ (l : List Strike). reported q l) faults

  work_or_program : (work : Work) (r : TextRefusal) → IsWork checks (IsTold files) c work → Gives checks (MayBe files) c (program_refused r) → ⊥
  work_or_program (reported plan faults) r is may = planned_or_refused r plan is.plans may

  program_or_work : (r : TextRefusal) (work : Work) → Gives checks (IsTold files) c (program_refused r) → IsWork checks (MayBe files) c work → ⊥
  program_or_work r (reported plan faults) is may = refused_or_planned r plan is may.plans

  work_or_faults : (work : Work) (r : TextRefusal) → IsWork checks (IsTold files) c work → Gives checks (MayBe files) c (faults_refused r) → ⊥
  work_or_faults (reported plan faults) r is (q, has, (bytes, there, refused)) =
      let same = same_plan plan q is.plans has in
      given_or_refused (faults_of c) q faults r bytes (subst (λ (x : PlanData). GivesFaults (IsTold files) (faults_of c) x faults) same is.injected) there refused

  faults_or_work : (r : TextRefusal) (work : Work) → Gives checks (IsTold files) c (faults_refused r) → IsWork checks (MayBe files) c work → ⊥
  faults_or_work r (reported plan faults) (q, has, (bytes, there, refused)) may =
      let same = same_plan q plan has may.plans in
      refused_or_given (faults_of c) plan faults r bytes there (subst (λ (x : PlanData). AreRefusedFaults x bytes r) same refused) may.injected

  same_refused_program : (r s : TextRefusal) → Gives checks (IsTold files) c (program_refused r) → Gives checks (MayBe files) c (program_refused s) → r ≡ s
  same_refused_program r s is may =
      let same = one_text files (program_of c) is.0 may.0 is.1 may.1 in
      one_refusal checks may.0 r s (subst (λ (b : Text). IsRefusedProgram checks b r) same is.2) may.2

  same_refused_faults : (r s : TextRefusal) → Gives checks (IsTold files) c (faults_refused r) → Gives checks (MayBe files) c (faults_refused s) → r ≡ s
  same_refused_faults r s (p, has, (a, there, refused)) (q, may, (b, other, also)) =
      let plan = same_plan p q has may in
      let bytes = one_text files (faults_of c) a b there other in
      let moved = subst (λ (x : PlanData). AreRefusedFaults x a r) plan refused in
      fault_files.one_refusal q b r s (subst (λ (t : Text). AreRefusedFaults q t r) bytes moved) also

  one_gives : (a b : Answer) → Gives checks (IsTold files) c a → Gives checks (MayBe files) c b → a ≡ b
  one_gives bad_words b is may = absurd is
  one_gives (program_refused r) bad_words is may = absurd may
  one_gives (program_refused r) (program_refused s) is may = ap (λ (t : TextRefusal). program_refused t) (same_refused_program r s is may)
  one_gives (program_refused r) (faults_refused s) is may = absurd (refused_or_planned r may.0 is may.1)
  one_gives (program_refused r) (writes work) is may = absurd (program_or_work r work is may)
  one_gives (faults_refused r) bad_words is may = absurd may
  one_gives (faults_refused r) (program_refused s) is may = absurd (planned_or_refused s is.0 is.1 may)
  one_gives (faults_refused r) (faults_refused s) is may = ap (λ (t : TextRefusal). faults_refused t) (same_refused_faults r s is may)
  one_gives (faults_refused r) (writes work) is may = absurd (faults_or_work r work is may)
  one_gives (writes work) bad_words is may = absurd may
  one_gives (writes work) (program_refused s) is may = absurd (work_or_program work s is may)
  one_gives (writes work) (faults_refused s) is may = absurd (work_or_faults work s is may)
  one_gives (writes work) (writes other) is may = ap (λ (w : Work). writes w) (one_work work other is may)

pub same_command : (words : List Text) (c d : Command) → IsCommand words c → IsCommand words d → c ≡ d
same_command words c d first second = cc

pub bad_or_command : (words : List Text) (c : Command) → IsBadWords words → IsCommand words c → ⊥
bad_or_command words c bad named = cc

-- an answer of words that give the command is what the command comes to
pub gives_answer : (checks : HandedChecks) (R : Text → Text → Type 0) (words : List Text) (c : Command) (a : Answer) → IsCommand words c → IsAnswer checks R words a → Gives checks R c a
gives_answer checks R words c bad_words named is = absurd (bad_or_command words c is named)
gives_answer checks R words c (program_refused r) named (d, other, gives) = subst (λ (x : Command). Gives checks R x (program_refused r)) (same_command words d c other named) gives
gives_answer checks R words c (faults_refused r) named (d, other, gives) = subst (λ (x : Command). Gives checks R x (faults_refused r)) (same_command words d c other named) gives
gives_answer checks R words c (writes work) named (d, other, gives) = subst (λ (x : Command). Gives checks R x (writes work)) (same_command words d c other named) gives

pub one_answer : (checks : HandedChecks) (files : StoreState) (words : List Text) (a b : Answer) → IsAnswer checks (IsTold files) words a → IsAnswer checks (MayBe files) words b → a ≡ b
one_answer checks files words bad_words bad_words is may = refl
one_answer checks files words bad_words (program_refused s) is (c, named, gives) = absurd (bad_or_command words c is named)
one_answer checks files words bad_words (faults_refused s) is (c, named, gives) = absurd (bad_or_command words c is named)
one_answer checks files words bad_words (writes work) is (c, named, gives) = absurd (bad_or_command words c is named)
one_answer checks files words (program_refused r) b (c, named, gives) may = one_gives checks files c (program_refused r) b gives (gives_answer checks (MayBe files) words c b named may)
one_answer checks files words (faults_refused r) b (c, named, gives) may = one_gives checks files c (faults_refused r) b gives (gives_answer checks (MayBe files) words c b named may)
one_answer checks files words (writes work) b (c, named, gives) may = one_gives checks files c (writes work) b gives (gives_answer checks (MayBe files) words c b named may)
