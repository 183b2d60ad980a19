-- What words say, and what their places want.
use Rattle.std.specs.Prelude.{ℕ, ◌≡◌, ◌<◌, ◌^◌, ◌+◌, ◌==◌, ◌++◌, List, [], ◌∷◌, true, Option, Some, option_and_then, position, take, drop, ⊤}
use Rattle.std.specs.Fmt.{decimal}
use Rattle.rh_words.specs.Number.{number_of, hexadecimal}
use Rattle.rh_words.specs.Naming.{is_name}
use Rattle.rh_words.specs.declared.value.Place.{Place}
use Rattle.rh_words.specs.declared.value.Place.TheVariants.{WordPlace, NamePlace, NumberPlace, MaskPlace, PairPlace}
use Rattle.rh_words.specs.declared.value.Value.{Value}
use Rattle.rh_words.specs.declared.value.Value.TheVariants.{AWord, AName, ANumber, AMask, APair}
use Rattle.rh_words.specs.Keywords.{keyword_text}

infixl 10 ◌>>=◌
abbrev pub ◌>>=◌ : {A B : Type 0} → Option A → (A → Option B) → Option B
o >>= f = option_and_then f o

-- two numbers joined by one `:`
unfoldable pub pair_of : List ℕ → Option (ℕ × ℕ)
pair_of word = do
  at ← position (λ b. b == 58) word
  j ← number_of (take at word)
  v ← number_of (drop (at + 1) word)
  Some (j, v)

-- the word says this
abbrev pub SaysWord : List ℕ → Value → Type 0
SaysWord word (AWord k) = word ≡ keyword_text k
SaysWord word (AName name) = (word ≡ name) × (is_name name ≡ true)
SaysWord word (ANumber n) = number_of word ≡ Some n
SaysWord word (AMask n) = number_of word ≡ Some n
SaysWord word (APair j v) = pair_of word ≡ Some (j, v)

-- the words say these, one each
abbrev pub SayWords : List (List ℕ) → List Value → Type 0
SayWords words [] = words ≡ []
SayWords words (v ∷ vs) = (w : List ℕ) × (ws : List (List ℕ)) × (words ≡ w ∷ ws) × SaysWord w v × SayWords ws vs

-- some word says this
abbrev pub IsSayable : Value → Type 0
IsSayable (AWord k) = ⊤
IsSayable (AName name) = is_name name ≡ true
IsSayable (ANumber n) = n < 2 ^ 64
IsSayable (AMask n) = n < 2 ^ 64
IsSayable (APair j v) = (j < 2 ^ 64) × (v < 2 ^ 64)

-- for each of these some word says it
abbrev pub AreSayable : List Value → Type 0
AreSayable [] = ⊤
AreSayable (v ∷ vs) = IsSayable v × AreSayable vs

-- the value is of the kind of the place
abbrev pub IsAt : Place → Value → Type 0
IsAt (WordPlace k) v = v ≡ AWord k
IsAt NamePlace v = (name : List ℕ) × (v ≡ AName name)
IsAt NumberPlace v = (n : ℕ) × (v ≡ ANumber n)
IsAt MaskPlace v = (n : ℕ) × (v ≡ AMask n)
IsAt PairPlace v = (j : ℕ) × (n : ℕ) × (v ≡ APair j n)

-- the canonical word that says this
abbrev pub word_text : Value → List ℕ
word_text (AWord k) = keyword_text k
word_text (AName name) = name
word_text (ANumber n) = decimal n
word_text (AMask n) = hexadecimal n
word_text (APair j v) = decimal j ++ 58 ∷ decimal v

-- what follows the first word of a line: a space before each word
abbrev pub rest_text : List Value → List ℕ
rest_text [] = []
rest_text (v ∷ vs) = 32 ∷ (word_text v ++ rest_text vs)

-- the canonical line that says these, without a line feed
abbrev pub line_text : List Value → List ℕ
line_text [] = []
line_text (v ∷ vs) = word_text v ++ rest_text vs
