-- A list of trials, of which one alone is kept apart.
use Rattle.std.specs.Prelude.{List, [], ◌∷◌, Option, Some, None}
use Rattle.rh_plan.specs.declared.outcome.Trial.{Trial}

-- the trials of a list, or the one that stands alone where the list is empty
abbrev pub trials_in : Option Trial → List Trial → List Trial
trials_in None items = items
trials_in (Some t) [] = t ∷ []
trials_in (Some t) (u ∷ items) = u ∷ items
