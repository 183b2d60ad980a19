-- The words that the report shows, by a list of the words of all promises.
use Rattle.std.specs.Prelude.{ℕ, ◌+◌, List, [], ◌∷◌, ◌++◌, Option, Some, None, if◌then◌else◌}
use Rattle.rh_plan.specs.Plans.{PlanData}
use Rattle.rh_journal.specs.Own.{is_shown_at}

abbrev pub pair_of : ℕ → Option (List ℕ) → List (ℕ × List ℕ)
pair_of q None = []
pair_of q (Some words) = (q, words) ∷ []

-- the promise with its words, where it has some and the report shows it
abbrev pub pair_at : PlanData → ℕ → Option (List ℕ) → List (ℕ × List ℕ)
pair_at plan q words = if is_shown_at plan q then pair_of q words else []

-- the shown promises with their words, where the first of these words are those of the promise q
abbrev pub pairs_from : PlanData → ℕ → List (Option (List ℕ)) → List (ℕ × List ℕ)
pairs_from plan q [] = []
pairs_from plan q (words ∷ values) = pair_at plan q words ++ pairs_from plan (q + 1) values
