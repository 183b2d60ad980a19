-- One step of a line, word by word.
use Rattle.std.specs.Prelude.{ℕ, ◌+◌, ◌-◌, List, length, map, slice_index, nat_eq, nat_lt, if◌then◌else◌}
use Rattle.std.specs.List.{range_with_len}
use Rattle.rh_stencil.specs.Flux.{flux_value, balance_value}

-- the word to the left of position i, where `before` stands to the left of the whole line
abbrev pub word_left : ℕ → List ℕ → ℕ → ℕ
word_left before m i = if nat_eq i 0 then before else slice_index m (i - 1)

-- the word to the right of position i, where `after` stands to the right of the whole line
abbrev pub word_right : List ℕ → ℕ → ℕ → ℕ
word_right m after i = if nat_lt (i + 1) (length m) then slice_index m (i + 1) else after

-- what flows into the word at position i from its left
abbrev pub line_inflow : ℕ → List ℕ → ℕ → ℕ → ℕ → ℕ
line_inflow before m k s i = flux_value (word_left before m i) (slice_index m i) k s

-- what flows out of the word at position i to its right
abbrev pub line_outflow : List ℕ → ℕ → ℕ → ℕ → ℕ → ℕ
line_outflow m after k s i = flux_value (slice_index m i) (word_right m after i) k s

-- the word at position i after the step
abbrev pub line_word : ℕ → List ℕ → ℕ → ℕ → ℕ → ℕ → ℕ
line_word before m after k s i = balance_value (slice_index m i) (line_inflow before m k s i) (line_outflow m after k s i)

-- the line after the step
abbrev pub line_value : ℕ → List ℕ → ℕ → ℕ → ℕ → List ℕ
line_value before m after k s = map (line_word before m after k s) (range_with_len 0 (length m))

abbrev pub last_word : List ℕ → ℕ
last_word l = slice_index l (length l - 1)

abbrev pub first_word : List ℕ → ℕ
first_word r = slice_index r 0

-- `stencil1`: the last word of L stands to the left of M, and the first word of R to its right
abbrev pub step1_value : List ℕ → List ℕ → List ℕ → ℕ → ℕ → List ℕ
step1_value l m r k s = line_value (last_word l) m (first_word r) k s
