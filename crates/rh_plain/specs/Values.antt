-- The words of promises by their numbers.
use Rattle.std.specs.Prelude.{ℕ, ◌≡◌, List, [], Bool, Option, Some, None, is_some, map, unwrap_or, length, slice_index_or}

-- the words of a promise, where there are some
abbrev pub words_at : List (Option (List ℕ)) → ℕ → Option (List ℕ)
words_at values q = slice_index_or values q None

abbrev pub has_words : List (Option (List ℕ)) → ℕ → Bool
has_words values q = is_some (words_at values q)

-- the words of these promises, none where one has no words
abbrev pub awaited_words : List (Option (List ℕ)) → List ℕ → List (List ℕ)
awaited_words values awaits = map (λ q. unwrap_or (words_at values q) []) awaits

-- what was there, else what comes
abbrev pub kept_or : Option (List ℕ) → Option (List ℕ) → Option (List ℕ)
kept_or None later = later
kept_or (Some words) later = Some words

-- Each promise without words has what `comes` gives it, where that gives it some, and the others are as before.
pub record AreGiven (comes : ℕ → Option (List ℕ)) (before after : List (Option (List ℕ))) : Type 0 where
  pub count : length after ≡ length before
  pub words : (q : ℕ) → words_at after q ≡ kept_or (words_at before q) (comes q)
