-- One word restored by the two differences of a list of words.
use Rattle.std.specs.Prelude.{ℕ, ◌+◌, ◌<◌, ◌^◌, ◌≡◌, ◌≢◌, ℤ, pos, negsuc, ◌-ℤ◌, ◌*ℤ◌, Bool, nat_lt, if◌then◌else◌, Option, Some, None, option_and_then, List, length, slice_index, slice_set}
use Rattle.std.specs.List.{find, range_with_len}
use Rattle.std.specs.Option.{option_map}
use Rattle.std.specs.Ordering.{int_eq}
use Rattle.rh_sparse.specs.declared.correction.Correction.{Correction}
use Rattle.rh_sparse.specs.declared.correction.Correction.TheVariants.{Corrected, NotOne}

-- The number of the row, counted from 1, times the first difference is the second.
abbrev pub names_row : ℤ → ℤ → ℕ → Bool
names_row d1 d2 i = int_eq (pos (i + 1) *ℤ d1) d2

-- the row below so many, counted from 0, that two differences name; none where the first of them is 0
abbrev pub named_row : ℤ → ℤ → ℕ → Option ℕ
named_row d1 d2 rows = if int_eq d1 (pos 0) then None else find (names_row d1 d2) (range_with_len 0 rows)

-- a whole number as a word, where it is one
abbrev pub as_word : ℤ → Option ℕ
as_word (pos n) = if nat_lt n (2 ^ 64) then Some n else None
as_word (negsuc n) = None

-- the row, and the words with the first difference taken off the word of this row, where that leaves a word
abbrev pub restored_at : List ℕ → ℤ → ℕ → Option (ℕ × List ℕ)
restored_at ys d1 i = option_map (λ w. (i, slice_set ys i w)) (as_word (pos (slice_index ys i) -ℤ d1))

-- The row that both differences name, and the words with the word of this row restored.
unfoldable pub restored : List ℕ → ℤ → ℤ → Option (ℕ × List ℕ)
restored ys d1 d2 = option_and_then (restored_at ys d1) (named_row d1 d2 (length ys))

-- The same as a relation: zs are ys with the first difference taken off the word of row i.
pub record IsRestored (ys : List ℕ) (d1 d2 : ℤ) (i : ℕ) (zs : List ℕ) : Type 0 where
  pub altered : d1 ≢ pos 0
  pub within : i < length ys
  pub named : pos (i + 1) *ℤ d1 ≡ d2
  pub word : ℕ
  pub range : word < 2 ^ 64
  pub less : pos (slice_index ys i) -ℤ d1 ≡ pos word
  pub words : zs ≡ slice_set ys i word

-- what a correction answers, and the words that it leaves
abbrev pub correction_of : ℤ → ℤ → Option (ℕ × List ℕ) → Correction
correction_of d1 d2 None = NotOne d1 d2
correction_of d1 d2 (Some (i, zs)) = Corrected i

abbrev pub words_left : List ℕ → Option (ℕ × List ℕ) → List ℕ
words_left ys None = ys
words_left ys (Some (i, zs)) = zs
