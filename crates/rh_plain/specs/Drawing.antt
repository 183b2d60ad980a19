-- The journal of one thread while it grows.
use Rattle.std.specs.Prelude.{ℕ, ◌≡◌, ◌<◌, List, [], ◌∷◌, ◌++◌, Bool, true, Option, Some, length, map, slice_index}
use Rattle.rh_plan.specs.declared.outcome.Trial.{Trial}
use Rattle.rh_plan.specs.declared.outcome.Verdict.{Verdict}
use Rattle.rh_plan.specs.Plans.{PlanData}
use Rattle.rh_journal.specs.declared.event.Event.{Event}
use Rattle.rh_journal.specs.declared.event.Event.TheVariants.{Claim, Put, Void, Release, Decide}
use Rattle.rh_journal.specs.declared.event.Entry.{Entry}
use Rattle.rh_journal.specs.Events.{is_release, times}
use Rattle.rh_journal.specs.Own.{attempts_from, put_attempt, references_of}
use Rattle.rh_journal.specs.OneThread.{with_frees, numbered_from}

-- the entries so far, and how many releases of each promise there are
pub record Drawn : Type 0 where
  pub entries : List Entry
  pub gone : List ℕ

abbrev pub drawn_so_far : List Entry → List ℕ → Drawn
drawn_so_far entries gone = record { entries = entries; gone = gone }

-- These events were drawn, each free directly behind the release that completes the references.
pub record HasDrawn (plan : PlanData) (seen : List Event) (h : Drawn) : Type 0 where
  pub entries : h.entries ≡ numbered_from 0 (with_frees plan [] seen)
  pub size : length h.gone ≡ length plan.promises
  pub gone : (q : ℕ) → q < length plan.promises → slice_index h.gone q ≡ times (is_release q) seen

-- these events are drawn behind whatever was drawn before
abbrev pub Draws : PlanData → Drawn → Drawn → List Event → Type 0
Draws plan old new xs = (seen : List Event) → HasDrawn plan seen old → HasDrawn plan (seen ++ xs) new

-- the entries are those of some events drawn one after another
abbrev pub IsDrawing : PlanData → Drawn → Type 0
IsDrawing plan h = (seen : List Event) × HasDrawn plan seen h

-- where a promise is told as freed, this release completes its references
abbrev pub IsFreed : PlanData → Drawn → ℕ → Option ℕ → Bool → Type 0
IsFreed plan old q by freed = freed ≡ true → (seen : List Event) → HasDrawn plan seen old → times (is_release q) (seen ++ Release q by ∷ []) ≡ references_of plan q

-- the events of a node before its releases
abbrev pub first_events : ℕ → List Trial → ℕ → List ℕ → List ℕ → List Event
first_events v trials attempt puts voids = Claim v ∷ (attempts_from v 0 trials ++ (map (λ q. Put q attempt) puts ++ map Void voids))

-- the events of a node with these lists
abbrev pub listed_events : ℕ → Verdict → List Trial → List ℕ → List ℕ → List ℕ → List Event
listed_events v verdict trials puts voids released = first_events v trials (put_attempt verdict) puts voids ++ (map (λ q. Release q (Some v)) released ++ Decide v verdict ∷ [])
