-- A step of a grid keeps the sum of its words, but for what flows over its edges.
use Rattle.std.proofs.Common.{◌≡◌, ℕ, zero, suc, ◌+◌, ◌-◌, ◌*◌, ◌/◌, ◌%◌, ◌≤◌, ◌<◌, List, length, get_or, sum, true, false, nat_eq, nat_lt, refl, ap, sym, ◌∙◌, arith, le-ltb, lt-ltb}
use Rattle.std.proofs.lemmas.Nat.{div-mul-add, mod-mul-add}
use Rattle.std.proofs.lemmas.Bool.Decides.{nat_tests}
use Rattle.std.proofs.Math.Nat.{suc-mul}
use Rattle.rh_stencil.specs.Flux.{flux_value, balance_value}
use Rattle.rh_stencil.specs.Grids.{grid_word, step2_value, FitsGrid, word_west, word_east, word_north, word_south}
use Rattle.rh_words.specs.Sums.{sum_below}
use Rattle.rh_stencil.specs.Conserved.{Conserves2}
use Rattle.rh_stencil.proofs.LineKeepsSum.{flux_below, moved_alike}
use Rattle.rh_stencil.proofs.RowWords.{east_inner, east_last, row_inside}
use Rattle.rh_stencil.proofs.RangeSums.{sum_same, sum_plus, sum_alike, sum_made, sum_words}
use Rattle.rh_stencil.proofs.TelescopingSums.{telescope_rows, telescope_columns}

-- along a row
west_first : (west m : List ℕ) (n r : ℕ) → word_west west m (suc n) (r * suc n + 0) ≡ get_or west r 0
west_first west m n r =
    let place : (r * suc n + 0) % suc n ≡ 0 = mod-mul-add r (suc n) 0 (omega arith) in
    let line : (r * suc n + 0) / suc n ≡ r = div-mul-add r (suc n) 0 (omega arith) in
    rw (place, line) refl

west_later : (west m : List ℕ) (n r c : ℕ) → c < n → word_west west m (suc n) (r * suc n + suc c) ≡ get_or m (r * suc n + c) 0
west_later west m n r c h =
    let later : nat_eq (suc c) 0 ≡ false = grind (arith, nat_tests) in
    let place : (r * suc n + suc c) % suc n ≡ suc c = mod-mul-add r (suc n) (suc c) (omega arith) in
    let back : r * suc n + suc c - 1 ≡ r * suc n + c = omega arith in
    rw (place, later, back) refl

row_flow_on : (west east m : List ℕ) (n r c k s : ℕ) → c < n
    → flux_value (word_west west m (suc n) (r * suc n + suc c)) (get_or m (r * suc n + suc c) 0) k s ≡ flux_value (get_or m (r * suc n + c) 0) (word_east east m (suc n) (r * suc n + c)) k s
row_flow_on west east m n r c k s h =
    let place : (r * suc n + c) % suc n ≡ c = mod-mul-add r (suc n) c (omega arith) in
    let next : r * suc n + suc c ≡ r * suc n + c + 1 = omega arith in
    ap (λ (w : ℕ). flux_value w (get_or m (r * suc n + suc c) 0) k s) (west_later west m n r c h)
    ∙ ap (λ (w : ℕ). flux_value (get_or m (r * suc n + c) 0) w k s) (ap (λ (i : ℕ). get_or m i 0) next ∙ sym (east_inner east m (suc n) (r * suc n + c) (omega arith)))

row_end : (east m : List ℕ) (n r k s : ℕ) → flux_value (get_or m (r * suc n + n) 0) (word_east east m (suc n) (r * suc n + n)) k s ≡ flux_value (get_or m (suc n - 1 + r * suc n) 0) (get_or east r 0) k s
row_end east m n r k s =
    let place : (r * suc n + n) % suc n ≡ n = mod-mul-add r (suc n) n (omega arith) in
    let line : (r * suc n + n) / suc n ≡ r = div-mul-add r (suc n) n (omega arith) in
    let there : r * suc n + n ≡ suc n - 1 + r * suc n = omega arith in
    ap (λ (w : ℕ). flux_value (get_or m (r * suc n + n) 0) w k s) (east_last east m (suc n) (r * suc n + n) (omega arith) ∙ ap (λ (i : ℕ). get_or east i 0) line)
    ∙ ap (λ (i : ℕ). flux_value (get_or m i 0) (get_or east r 0) k s) there

-- along a column
north_first : (north m : List ℕ) (cols c : ℕ) → c < cols → word_north north m cols (0 * cols + c) ≡ get_or north c 0
north_first north m cols c h =
    let start : 0 * cols + c ≡ c = omega arith in
    let e : nat_lt c cols ≡ true = lt-ltb _ _ h in
    rw (start, e) refl

column_flow_on : (north south m : List ℕ) (n cols r c k s : ℕ) → r < n → c < cols → length m ≡ suc n * cols
    → flux_value (word_north north m cols (suc r * cols + c)) (get_or m (suc r * cols + c) 0) k s ≡ flux_value (get_or m (r * cols + c) 0) (word_south south m cols (r * cols + c)) k s
column_flow_on north south m n cols r c k s hr hc whole =
    let split : suc r * cols ≡ r * cols + cols = suc-mul r cols in
    let inside = row_inside (suc r) (suc n) cols (omega arith) in
    let high : nat_lt (suc r * cols + c) cols ≡ false = le-ltb _ _ (omega arith) in
    let back : suc r * cols + c - cols ≡ r * cols + c = omega arith in
    let up : word_north north m cols (suc r * cols + c) ≡ get_or m (r * cols + c) 0 = rw (high, back) refl in
    let inner : nat_lt (r * cols + c + cols) (length m) ≡ true = lt-ltb _ _ (omega arith) in
    let next : r * cols + c + cols ≡ suc r * cols + c = omega arith in
    let below : word_south south m cols (r * cols + c) ≡ get_or m (suc r * cols + c) 0 = rw (inner, next) refl in
    ap (λ (w : ℕ). flux_value w (get_or m (suc r * cols + c) 0) k s) up ∙ ap (λ (w : ℕ). flux_value (get_or m (r * cols + c) 0) w k s) (sym below)

column_end : (south m : List ℕ) (n cols c k s : ℕ) → c < cols → length m ≡ suc n * cols
    → flux_value (get_or m (n * cols + c) 0) (word_south south m cols (n * cols + c)) k s ≡ flux_value (get_or m (length m - cols + c * 1) 0) (get_or south c 0) k s
column_end south m n cols c k s h whole =
    let split : suc n * cols ≡ n * cols + cols = suc-mul n cols in
    let last : nat_lt (n * cols + c + cols) (length m) ≡ false = le-ltb _ _ (omega arith) in
    let place : (n * cols + c) % cols ≡ c = mod-mul-add n cols c h in
    let there : n * cols + c ≡ length m - cols + c * 1 = omega arith in
    let below : word_south south m cols (n * cols + c) ≡ get_or south c 0 = rw (last, place) refl in
    ap (λ (w : ℕ). flux_value (get_or m (n * cols + c) 0) w k s) below ∙ ap (λ (i : ℕ). flux_value (get_or m i 0) (get_or south c 0) k s) there

-- a word after two flows
grid_alike : (north south west east m : List ℕ) (cols k s i : ℕ) → s ≤ 63
    → (grid_word north south west east m cols k s i + (flux_value (get_or m i 0) (word_east east m cols i) k s + flux_value (get_or m i 0) (word_south south m cols i) k s)) % 18446744073709551616
    ≡ (get_or m i 0 + (flux_value (word_west west m cols i) (get_or m i 0) k s + flux_value (word_north north m cols i) (get_or m i 0) k s)) % 18446744073709551616
unfolding grid_word
grid_alike north south west east m cols k s i small =
    let w = get_or m i 0 in
    let row = moved_alike w (flux_value (word_west west m cols i) w k s) (flux_value w (word_east east m cols i) k s) (flux_below w (word_east east m cols i) k s small) in
    let column = moved_alike (balance_value w (flux_value (word_west west m cols i) w k s) (flux_value w (word_east east m cols i) k s)) (flux_value (word_north north m cols i) w k s) (flux_value w (word_south south m cols i) k s) (flux_below w (word_south south m cols i) k s small) in
    omega arith

-- from sums alike and two sums of flows that telescope
kept_twice : (new old i1 f1 i2 f2 a1 b1 a2 b2 : ℕ) → (new + (f1 + f2)) % 18446744073709551616 ≡ (old + (i1 + i2)) % 18446744073709551616 → i1 + b1 ≡ a1 + f1 → i2 + b2 ≡ a2 + f2
    → new % 18446744073709551616 ≡ balance_value (balance_value (old % 18446744073709551616) (a1 % 18446744073709551616) (b1 % 18446744073709551616)) (a2 % 18446744073709551616) (b2 % 18446744073709551616)
kept_twice new old i1 f1 i2 f2 a1 b1 a2 b2 alike rows columns = omega arith

pub step2_keeps_at : (north south west east m : List ℕ) (n h k s : ℕ) → s ≤ 63 → length north ≡ suc n → length south ≡ suc n → length east ≡ suc h → length west ≡ suc h → length m ≡ suc h * suc n
    → Conserves2 (step2_value north south west east m (suc n) k s) north south west east m (suc n) k s
step2_keeps_at north south west east m n h k s small ln ls le lw lm =
    let cols : ℕ = suc n in
    let rows : ℕ = suc h in
    let word : ℕ → ℕ = λ i. get_or m i 0 in
    let i1 : ℕ → ℕ = λ i. flux_value (word_west west m (suc n) i) (get_or m i 0) k s in
    let f1 : ℕ → ℕ = λ i. flux_value (get_or m i 0) (word_east east m (suc n) i) k s in
    let i2 : ℕ → ℕ = λ i. flux_value (word_north north m (suc n) i) (get_or m i 0) k s in
    let f2 : ℕ → ℕ = λ i. flux_value (get_or m i 0) (word_south south m (suc n) i) k s in
    let new : ℕ → ℕ = grid_word north south west east m (suc n) k s in
    let alike = sum_alike (suc h * suc n) (λ i. new i + (f1 i + f2 i)) (λ i. word i + (i1 i + i2 i)) (λ i hi. grid_alike north south west east m (suc n) k s i small) in
    let left = sum_plus (suc h * suc n) new (λ i. f1 i + f2 i) ∙ ap (λ (x : ℕ). sum_below (suc h * suc n) new + x) (sum_plus (suc h * suc n) f1 f2) in
    let right = sum_plus (suc h * suc n) word (λ i. i1 i + i2 i) ∙ ap (λ (x : ℕ). sum_below (suc h * suc n) word + x) (sum_plus (suc h * suc n) i1 i2) in
    let both : (sum_below (suc h * suc n) new + (sum_below (suc h * suc n) f1 + sum_below (suc h * suc n) f2)) % 18446744073709551616 ≡ (sum_below (suc h * suc n) word + (sum_below (suc h * suc n) i1 + sum_below (suc h * suc n) i2)) % 18446744073709551616
    = ap (λ (x : ℕ). x % 18446744073709551616) (sym left) ∙ alike ∙ ap (λ (x : ℕ). x % 18446744073709551616) right in
    let a1 = sum_same (suc h) (λ r. i1 (r * suc n + 0)) (λ r. flux_value (get_or west r 0) (get_or m (0 + r * suc n) 0) k s)
    (λ r hr. ap (λ (w : ℕ). flux_value w (get_or m (r * suc n + 0) 0) k s) (west_first west m n r) ∙ ap (λ (i : ℕ). flux_value (get_or west r 0) (get_or m i 0) k s) (let e : r * suc n + 0 ≡ 0 + r * suc n = omega arith in e)) in
    let b1 = sum_same (suc h) (λ r. f1 (r * suc n + n)) (λ r. flux_value (get_or m (suc n - 1 + r * suc n) 0) (get_or east r 0) k s) (λ r hr. row_end east m n r k s) in
    let a2 = sum_same (suc n) (λ c. i2 (0 * suc n + c)) (λ c. flux_value (get_or north c 0) (get_or m (0 + c * 1) 0) k s)
    (λ c hc. ap (λ (w : ℕ). flux_value w (get_or m (0 * suc n + c) 0) k s) (north_first north m (suc n) c hc) ∙ ap (λ (i : ℕ). flux_value (get_or north c 0) (get_or m i 0) k s) (let e : 0 * suc n + c ≡ 0 + c * 1 = omega arith in e)) in
    let b2 = sum_same (suc n) (λ c. f2 (h * suc n + c)) (λ c. flux_value (get_or m (length m - suc n + c * 1) 0) (get_or south c 0) k s) (λ c hc. column_end south m h (suc n) c k s hc lm) in
    let along_rows = telescope_rows (suc h) n i1 f1 (λ r c hr hc. row_flow_on west east m n r c k s hc) in
    let along_columns = telescope_columns h (suc n) i2 f2 (λ r c hr hc. column_flow_on north south m h (suc n) r c k s hr hc lm) in
    let main = kept_twice (sum_below (suc h * suc n) new) (sum_below (suc h * suc n) word) (sum_below (suc h * suc n) i1) (sum_below (suc h * suc n) f1) (sum_below (suc h * suc n) i2) (sum_below (suc h * suc n) f2)
    (sum_below (suc h) (λ r. i1 (r * suc n + 0))) (sum_below (suc h) (λ r. f1 (r * suc n + n))) (sum_below (suc n) (λ c. i2 (0 * suc n + c))) (sum_below (suc n) (λ c. f2 (h * suc n + c))) both along_rows along_columns in
    let made : sum (step2_value north south west east m (suc n) k s) ≡ sum_below (suc h * suc n) new = sum_made (length m) new ∙ ap (λ (x : ℕ). sum_below x new) lm in
    let old : sum m ≡ sum_below (suc h * suc n) word = sum_words m ∙ ap (λ (x : ℕ). sum_below x word) lm in
    let ea1 = a1 ∙ ap (λ (x : ℕ). sum_below x (λ r. flux_value (get_or west r 0) (get_or m (0 + r * suc n) 0) k s)) (sym lw) in
    let eb1 = b1 ∙ ap (λ (x : ℕ). sum_below x (λ r. flux_value (get_or m (suc n - 1 + r * suc n) 0) (get_or east r 0) k s)) (sym le) in
    let ea2 = a2 ∙ ap (λ (x : ℕ). sum_below x (λ c. flux_value (get_or north c 0) (get_or m (0 + c * 1) 0) k s)) (sym ln) in
    let eb2 = b2 ∙ ap (λ (x : ℕ). sum_below x (λ c. flux_value (get_or m (length m - suc n + c * 1) 0) (get_or south c 0) k s)) (sym ls) in
    ap (λ (x : ℕ). x % 18446744073709551616) made ∙ main
    ∙ (λ i. balance_value (balance_value (sym old i % 18446744073709551616) (ea1 i % 18446744073709551616) (eb1 i % 18446744073709551616)) (ea2 i % 18446744073709551616) (eb2 i % 18446744073709551616))

pub step2_keeps : (north south west east m : List ℕ) (cols k s : ℕ) → FitsGrid north south west east m cols → s ≤ 63
    → Conserves2 (step2_value north south west east m cols k s) north south west east m cols k s
step2_keeps north south west east m zero k s fits small = let some = fits.columns in absurd (omega arith)
step2_keeps north south west east m (suc n) k s fits small =
    let rows = fits.rows in
    let last : length west ≡ suc (length west - 1) = omega arith in
    step2_keeps_at north south west east m n (length west - 1) k s small fits.north_len fits.south_len (fits.east_len ∙ last) last (fits.whole ∙ ap (λ (r : ℕ). r * suc n) last)
