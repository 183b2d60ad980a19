-- What a run of a command's plan came to is what its command came to.
use Rattle.std.proofs.Common.{◌≡◌, Option, Some, Result, Ok, Err, sym, ◌∙◌, ap, subst, inr}
use Rattle.std.specs.Prelude.{MatchResult}
use Rattle.rh_outside.specs.Shelves.{MayBe}
use Rattle.rh_outside.specs.States.{StoreState, KeepsFiles, KeepsCounts}
use Rattle.rh_plan.specs.Plans.{PlanData}
use Rattle.rh_top.specs.declared.texts.Stop.{Stop}
use Rattle.rh_top.specs.declared.texts.Stop.TheVariants as stop
use Rattle.rh_top.specs.declared.texts.Texts.{Texts}
use Rattle.rh_check.specs.Users.{HandedChecks}
use Rattle.rh_top.specs.Command.{Text, Command}
use Rattle.rh_top.specs.Answer.{Source, stored, stored_where, faults_of, reported, HasPlan, GivesFaults, IsTextOf}
use Rattle.rh_top.specs.CallSteps.{FaultsOr, RunsOr, AreTextsFor, StopsBy}
use Rattle.rh_top.proofs.FilesRead.{gives_faults-kept, faults_or-kept}

named_source : (name : Option Text) (file : Text) → name ≡ Some file → stored_where name ≡ stored file
named_source name file is = ap stored_where is

faults_stop : (checks : HandedChecks) (before after : StoreState) (c : Command) (plan : PlanData) (name : Option Text) (why : Stop) → HasPlan checks (MayBe before) c plan → faults_of c ≡ stored_where name → FaultsOr before after plan name (Err why) → StopsBy checks before after c why
faults_stop checks before after c plan name (stop.ProgramRefused r) has is h = absurd h
faults_stop checks before after c plan name (stop.FaultsRefused r) has is (bytes, there, refused) =
    (plan, has, (bytes, subst (λ (s : Source). IsTextOf (MayBe before) s bytes) (sym is) there, refused))
faults_stop checks before after c plan name stop.ReadFailed has is (file, named, rose) = (file, inr (is ∙ named_source name file named), rose)
faults_stop checks before after c plan name stop.OutOfMemory has is h = tt

-- by the plan of the command's program, which was read before
pub runs_command : (checks : HandedChecks) (before mid after : StoreState) (c : Command) (plan : PlanData) (name : Option Text) (answer : Result Texts Stop) → KeepsFiles before mid → KeepsCounts before mid → HasPlan checks (MayBe before) c plan → faults_of c ≡ stored_where name → RunsOr mid after plan name answer → MatchResult answer (AreTextsFor checks before c) (StopsBy checks before after c)
runs_command checks before mid after c plan name (Ok texts) kept counts has is (faults, given, texts_are) =
    let moved = gives_faults-kept before mid kept name plan faults given in
    record {
      work = reported plan faults;
      gives = record { plans = has; injected = subst (λ (s : Source). GivesFaults (MayBe before) s plan faults) (sym is) moved };
      out = texts_are.out;
      failed = texts_are.failed;
    }
runs_command checks before mid after c plan name (Err why) kept counts has is h =
    faults_stop checks before after c plan name why has is (faults_or-kept before mid after kept counts name plan why h)
