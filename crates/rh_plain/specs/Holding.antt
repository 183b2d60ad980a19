-- The words of promises that are not freed.
use Rattle.std.specs.Prelude.{ℕ, ◌≡◌, ◌<◌, ◌++◌, List, Option, length}
use Rattle.rh_plan.specs.Plans.{PlanData}
use Rattle.rh_plan.specs.Judging.{NodeResult}
use Rattle.rh_plan.specs.Results.{value_in}
use Rattle.rh_journal.specs.declared.event.Event.{Event}
use Rattle.rh_journal.specs.Events.{is_release, times}
use Rattle.rh_journal.specs.Own.{references_of}
use Rattle.rh_plain.specs.Values.{words_at}
use Rattle.rh_plain.specs.Drawing.{Drawn, HasDrawn}

-- Each promise that has references left after these events has its words by these results.
pub record HoldsWords (plan : PlanData) (rs : List NodeResult) (seen : List Event) (values : List (Option (List ℕ))) : Type 0 where
  pub size : length values ≡ length plan.promises
  pub each : (q : ℕ) → q < length plan.promises → times (is_release q) seen < references_of plan q → words_at values q ≡ value_in plan rs q

-- behind these events the words are those of the promises that have references left
abbrev pub KeepsWords : PlanData → Drawn → List (Option (List ℕ)) → List (Option (List ℕ)) → List Event → Type 0
KeepsWords plan old before after xs = (rs : List NodeResult) (seen : List Event) → HasDrawn plan seen old → HoldsWords plan rs seen before → HoldsWords plan rs (seen ++ xs) after
