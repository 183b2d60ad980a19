-- One step of a grid, word by word. A grid is a list, row after row.
use Rattle.std.specs.Prelude.{ℕ, ◌≡◌, ◌<◌, ◌+◌, ◌-◌, ◌*◌, ◌/◌, ◌%◌, List, length, map, slice_index, nat_eq, nat_lt, if◌then◌else◌}
use Rattle.std.specs.List.{range_with_len}
use Rattle.rh_stencil.specs.Flux.{flux_value, balance_value}

-- The halos fit the grid M of `cols` words a row: those above and below it have a word for each column, those on its sides one for each row.
pub record FitsGrid (north south west east m : List ℕ) (cols : ℕ) : Type 0 where
  pub columns : 0 < cols
  pub rows : 0 < length west
  pub north_len : length north ≡ cols
  pub south_len : length south ≡ cols
  pub east_len : length east ≡ length west
  pub whole : length m ≡ length west * cols

-- The neighbours of the word at position i, which stands in column i % cols of row i / cols. One that lies outside the grid is the word
-- beside it of the halo on that side.
abbrev pub word_west : List ℕ → List ℕ → ℕ → ℕ → ℕ
word_west west m cols i = if nat_eq (i % cols) 0 then slice_index west (i / cols) else slice_index m (i - 1)

abbrev pub word_east : List ℕ → List ℕ → ℕ → ℕ → ℕ
word_east east m cols i = if nat_lt (i % cols + 1) cols then slice_index m (i + 1) else slice_index east (i / cols)

abbrev pub word_north : List ℕ → List ℕ → ℕ → ℕ → ℕ
word_north north m cols i = if nat_lt i cols then slice_index north i else slice_index m (i - cols)

abbrev pub word_south : List ℕ → List ℕ → ℕ → ℕ → ℕ
word_south south m cols i = if nat_lt (i + cols) (length m) then slice_index m (i + cols) else slice_index south (i % cols)

-- the word at position i after what flows through it along its row, and then along its column
unfoldable pub grid_word : List ℕ → List ℕ → List ℕ → List ℕ → List ℕ → ℕ → ℕ → ℕ → ℕ → ℕ
grid_word north south west east m cols k s i =
    let word = slice_index m i in
    let from_west = flux_value (word_west west m cols i) word k s in
    let to_east = flux_value word (word_east east m cols i) k s in
    let from_north = flux_value (word_north north m cols i) word k s in
    let to_south = flux_value word (word_south south m cols i) k s in
    balance_value (balance_value word from_west to_east) from_north to_south

-- `stencil2`
abbrev pub step2_value : List ℕ → List ℕ → List ℕ → List ℕ → List ℕ → ℕ → ℕ → ℕ → List ℕ
step2_value north south west east m cols k s = map (grid_word north south west east m cols k s) (range_with_len 0 (length m))
