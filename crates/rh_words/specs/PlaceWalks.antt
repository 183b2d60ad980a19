-- A walk over the words of a line in their places, and what they told so far.
use Rattle.std.specs.Prelude.{ℕ, ◌≡◌, ◌<◌, ◌≤◌, ◌+◌, ◌&&◌, ◌++◌, List, [], ◌∷◌, Option, Some, None, Bool, true, false, nat_lt, length, if◌then◌else◌}
use Rattle.std.specs.Option.{option_map}
use Rattle.std.specs.Str.{bytes_eq}
use Rattle.rh_words.specs.declared.value.Place.{Place}
use Rattle.rh_words.specs.declared.value.Value.{Value}
use Rattle.rh_words.specs.declared.value.Place.TheVariants.{WordPlace, NamePlace, NumberPlace, MaskPlace, PairPlace}
use Rattle.rh_words.specs.declared.value.Value.TheVariants.{AWord, AName, ANumber, AMask, APair}
use Rattle.rh_words.specs.Keywords.{keyword_text}
use Rattle.rh_words.specs.Naming.{is_name}
use Rattle.rh_words.specs.Number.{number_of}
use Rattle.rh_words.specs.Values.{SaysWord, SayWords, pair_of, IsAt}
use Rattle.rh_words.specs.Places.{passes_name, passes_number, passes_word, pass, fills, FitPlaces}

-- the places of the next words, what may follow them, and what may follow that
pub record Places : Type 0 where
  pub here : List Place
  pub more : List Place
  pub again : List Place

abbrev pub places : List Place → List Place → List Place → Places
places here more again = record { here = here; more = more; again = again }

abbrev pub next_in : List Place → List Place → List Place → Option (Place × Places)
next_in (p ∷ here) more again = Some (p, places here more again)
next_in [] (p ∷ more) again = Some (p, places more again again)
next_in [] [] again = None

-- the next place, and those after it
abbrev pub next_place : Places → Option (Place × Places)
next_place ps = next_in ps.here ps.more ps.again

abbrev pub is_empty : List Place → Bool
is_empty [] = true
is_empty (p ∷ ps) = false

-- the words may end here
abbrev pub may_end : Places → Bool
may_end ps = is_empty ps.here

-- what the word says in its place, where it fits
abbrev pub word_value : Place → List ℕ → Option Value
word_value (WordPlace k) word = if bytes_eq word (keyword_text k) then Some (AWord k) else None
word_value NamePlace word = if is_name word then Some (AName word) else None
word_value NumberPlace word = option_map ANumber (number_of word)
word_value MaskPlace word = option_map AMask (number_of word)
word_value PairPlace word = option_map (λ pair. APair pair.0 pair.1) (pair_of word)

-- the values, and behind them what a word told, where that is kept
abbrev pub with_kept : List Value → Option Value → Bool → List Value
with_kept values None keeping = values
with_kept values (Some v) true = values ++ v ∷ []
with_kept values (Some v) false = values

-- The word told a value, or that it does not fit its place. Values are kept as long as there are fewer than `most`.
pub record ToldBy (most : ℕ) (names numbers words keeping : Bool) (values : List Value) (place : Place) (word : List ℕ) (names2 numbers2 words2 keeping2 : Bool) (values2 : List Value) : Type 0 where
  pub named : names2 ≡ (names && passes_name place word)
  pub numbered : numbers2 ≡ (numbers && passes_number place word)
  pub worded : words2 ≡ (words && passes_word place word)
  pub counted : keeping2 ≡ (keeping && nat_lt (length values) most)
  pub valued : names2 ≡ true → numbers2 ≡ true → words2 ≡ true → keeping2 ≡ true → (v : Value) × (values2 ≡ values ++ v ∷ []) × SaysWord word v × IsAt place v

-- Of all the words of a line that began in the places `first` these are left, with these places; the others told this.
pub record IsTold (most : ℕ) (first : Places) (all left : List (List ℕ)) (ps : Places) (names numbers words keeping : Bool) (values : List Value) : Type 0 where
  pub named : pass passes_name first.here first.more first.again all ≡ (names && pass passes_name ps.here ps.more ps.again left)
  pub numbered : pass passes_number first.here first.more first.again all ≡ (numbers && pass passes_number ps.here ps.more ps.again left)
  pub filled : fills first.here first.more first.again all ≡ (words && fills ps.here ps.more ps.again left)
  pub valued : names ≡ true → numbers ≡ true → words ≡ true → keeping ≡ true → (vs : List Value) → SayWords left vs → FitPlaces ps.here ps.more ps.again vs → SayWords all (values ++ vs) × FitPlaces first.here first.more first.again (values ++ vs)
  pub sized : names ≡ true → numbers ≡ true → words ≡ true → keeping ≡ true → length values + length left ≡ length all
  pub many : names ≡ true → numbers ≡ true → words ≡ true → keeping ≡ false → most < length all
  pub short : length values ≤ most

-- no word told anything
pub record IsNothingTold (names numbers words keeping : Bool) (values : List Value) : Type 0 where
  pub named : names ≡ true
  pub numbered : numbers ≡ true
  pub worded : words ≡ true
  pub counted : keeping ≡ true
  pub valued : values ≡ []
