-- What is declared so far, and how it is found by name through one map.
use Rattle.std.specs.Prelude.{ℕ, ◌≡◌, ◌≤◌, List, Option, Some, None, map, true, is_some, length, cond}
use Rattle.std.specs.HashMap.{HashMap, get}
use Rattle.std.specs.List.{IsDistinct}
use Rattle.rh_words.specs.Naming.{is_name}
use Rattle.rh_words.specs.NameKeys.{name_key, keys_eq}
use Rattle.rh_words.specs.declared.name_key.NameKey.{NameKey}
use Rattle.std.specs.Str.{bytes_eq}
use Rattle.rh_words.specs.declared.limits.TheConstants.{MAX_PROMISES, MAX_TOTAL_WORDS, MAX_SHOWN_WORDS}
use Rattle.rh_rules.specs.declared.node.PlannedPromise.{PlannedPromise}
use Rattle.rh_rules.specs.Tables.{is_among, promise_at}
use Rattle.rh_rules.specs.Above.{words_in, shown_in}

-- the names of promises, tasks and so on in order, and the promises among them
pub record Declarations : Type 0 where
  pub names : List (List ℕ)
  pub promises : List PlannedPromise

abbrev pub declarations : List (List ℕ) → List PlannedPromise → Declarations
declarations names promises = record { names = names; promises = promises }

-- what a map by keys has at a name
abbrev pub at_name : {S : Type 0} → HashMap NameKey (Option ℕ) S → List ℕ → Option (Option ℕ)
at_name known name = get keys_eq known (name_key name)

-- the map has this name too, with this number
abbrev pub IsNoted : {S : Type 0} → HashMap NameKey (Option ℕ) S → HashMap NameKey (Option ℕ) S → List ℕ → Option ℕ → Type 0
IsNoted old new name number = (q : List ℕ) → at_name new q ≡ cond (keys_eq (name_key name) (name_key q)) (Some number) (at_name old q)

-- the number of the promise of a name that is found
abbrev pub number_found : Option (Option ℕ) → Option ℕ
number_found None = None
number_found (Some number) = number

-- The map has each name that is declared, with the number of its promise where it has one. No two promises have one name, and the sums are those of the promises.
pub record AreFound {S : Type 0} (known : HashMap NameKey (Option ℕ) S) (names : List (List ℕ)) (promises : List PlannedPromise) (sum shown_sum : ℕ) : Type 0 where
  pub there : (name : List ℕ) → is_name name ≡ true → is_some (at_name known name) ≡ is_among name names
  pub number : (name : List ℕ) → is_name name ≡ true → number_found (at_name known name) ≡ promise_at name promises
  pub distinct : IsDistinct bytes_eq (map (λ p. p.name) promises)
  pub words : sum ≡ words_in promises
  pub shown : shown_sum ≡ shown_in promises
  pub few : length promises ≤ MAX_PROMISES
  pub total : sum ≤ MAX_TOTAL_WORDS
  pub shown_total : shown_sum ≤ MAX_SHOWN_WORDS
