-- What is told of files stays told, and counts stay risen.
use Rattle.std.proofs.Common.{◌≡◌, ℕ, ◌≤◌, List, Option, Some, None, Err, subst, arith}
use Rattle.rh_outside.specs.Counts.{Rose}
use Rattle.rh_outside.specs.Shelves.{MayBe}
use Rattle.rh_outside.specs.States.{Told, WhereTold, StoreState, KeepsFiles, KeepsCounts}
use Rattle.rh_injector.specs.declared.faults.Strike.{Strike}
use Rattle.rh_plan.specs.Plans.{PlanData}
use Rattle.rh_top.specs.Command.{Text}
use Rattle.rh_top.specs.declared.texts.Stop.{Stop}
use Rattle.rh_top.specs.declared.texts.Stop.TheVariants as stop
use Rattle.rh_top.specs.Answer.{GivesFaults, stored_where}
use Rattle.rh_top.specs.CallSteps.{FaultsOr}

pub rose_since : (a b c : ℕ) → a ≤ b → Rose b c → Rose a c
rose_since a b c earlier rose = omega arith

pub may_be-kept : (before mid : StoreState) → KeepsFiles before mid → (name bytes : Text) → MayBe mid name bytes → MayBe before name bytes
may_be-kept before mid kept name bytes may = subst (λ (t : Told). WhereTold t (λ told. told ≡ bytes)) (kept name) may

pub gives_faults-kept : (before mid : StoreState) → KeepsFiles before mid → (name : Option Text) (plan : PlanData) (faults : List Strike) → GivesFaults (MayBe mid) (stored_where name) plan faults → GivesFaults (MayBe before) (stored_where name) plan faults
gives_faults-kept before mid kept None plan faults gives = gives
gives_faults-kept before mid kept (Some name) plan faults gives =
    let (bytes, may, are) = gives in
    (bytes, may_be-kept before mid kept name bytes may, are)

pub faults_or-kept : (before mid after : StoreState) → KeepsFiles before mid → KeepsCounts before mid → (name : Option Text) (plan : PlanData) (why : Stop) → FaultsOr mid after plan name (Err why) → FaultsOr before after plan name (Err why)
faults_or-kept before mid after kept counts name plan (stop.ProgramRefused r) h = absurd h
faults_or-kept before mid after kept counts None plan (stop.FaultsRefused r) h = absurd h.1
faults_or-kept before mid after kept counts (Some name) plan (stop.FaultsRefused r) h = (h.0, may_be-kept before mid kept name h.0 h.1, h.2)
faults_or-kept before mid after kept counts name plan stop.ReadFailed h = (h.0, h.1, rose_since (before.failed_reads h.0) (mid.failed_reads h.0) (after.failed_reads h.0) (counts.reads h.0) h.2)
faults_or-kept before mid after kept counts name plan stop.OutOfMemory h = tt
