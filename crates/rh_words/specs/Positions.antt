-- Bytes and words by their positions in a line.
use Rattle.std.specs.Prelude.{ℕ, ◌≡◌, ◌≢◌, ◌<◌, ◌≤◌, List, length, slice_index}

-- from this place on the line has only spaces
abbrev pub IsBlankFrom : List ℕ → ℕ → Type 0
IsBlankFrom line from = (k : ℕ) → from ≤ k → k < length line → slice_index line k ≡ 32

-- The bytes from `start` to before `stop` are the first word of what the line has from this place on.
pub record IsFirstWord (line : List ℕ) (from start stop : ℕ) : Type 0 where
  pub after : from ≤ start
  pub some : start < stop
  pub within : stop ≤ length line
  pub blank : (k : ℕ) → from ≤ k → k < start → slice_index line k ≡ 32
  pub solid : (k : ℕ) → start ≤ k → k < stop → slice_index line k ≢ 32
  pub ended : stop < length line → slice_index line stop ≡ 32
