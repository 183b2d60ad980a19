-- What a step keeps: the sum of its words, but for what flows over its edge.
use Rattle.std.specs.Prelude.{◌≡◌, ℕ, ◌+◌, ◌-◌, ◌*◌, ◌%◌, ◌^◌, List, length, slice_index}
use Rattle.rh_words.specs.Kernels.{sum_value}
use Rattle.rh_words.specs.Sums.{sum_below}
use Rattle.rh_stencil.specs.Flux.{flux_value, balance_value}
use Rattle.rh_stencil.specs.Steps.{last_word, first_word}

-- the sum of a line's words, and what flows in from the left, less what flows out to the right
abbrev pub line_sum_after : List ℕ → List ℕ → List ℕ → ℕ → ℕ → ℕ
line_sum_after l m r k s =
    let into = flux_value (last_word l) (first_word m) k s in
    let from = flux_value (last_word m) (first_word r) k s in
    balance_value (sum_value m) into from

-- `conserve`: the new words have this sum
abbrev pub Conserves1 : List ℕ → List ℕ → List ℕ → List ℕ → ℕ → ℕ → Type 0
Conserves1 out l m r k s = sum_value out ≡ line_sum_after l m r k s

-- The sum of what flows from a halo into the words on an edge of the grid M: these begin at position `start` and are `step` apart.
abbrev pub edge_inflow : List ℕ → List ℕ → ℕ → ℕ → ℕ → ℕ → ℕ
edge_inflow halo m start step k s =
    sum_below (length halo) (λ i. flux_value (slice_index halo i) (slice_index m (start + i * step)) k s) % 2 ^ 64

-- the sum of what flows out of the words on an edge into the halo
abbrev pub edge_outflow : List ℕ → List ℕ → ℕ → ℕ → ℕ → ℕ → ℕ
edge_outflow halo m start step k s =
    sum_below (length halo) (λ i. flux_value (slice_index m (start + i * step)) (slice_index halo i) k s) % 2 ^ 64

-- the sum of a grid's words, and what flows in over the edges on the west and the north, less what flows out over those on the east and
-- the south
abbrev pub grid_sum_after : List ℕ → List ℕ → List ℕ → List ℕ → List ℕ → ℕ → ℕ → ℕ → ℕ
grid_sum_after north south west east m cols k s =
    let last_row = length m - cols in
    let along_rows = balance_value (sum_value m) (edge_inflow west m 0 cols k s) (edge_outflow east m (cols - 1) cols k s) in
    balance_value along_rows (edge_inflow north m 0 1 k s) (edge_outflow south m last_row 1 k s)

-- `conserve2`: the new words have this sum
abbrev pub Conserves2 : List ℕ → List ℕ → List ℕ → List ℕ → List ℕ → List ℕ → ℕ → ℕ → ℕ → Type 0
Conserves2 out north south west east m cols k s = sum_value out ≡ grid_sum_after north south west east m cols k s
