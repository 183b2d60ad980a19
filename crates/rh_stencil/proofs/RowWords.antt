-- The rows of a grid, and a word of a row.
use Rattle.std.proofs.Common.{◌≡◌, ℕ, zero, suc, ◌+◌, ◌-◌, ◌*◌, ◌/◌, ◌%◌, ◌≤◌, ◌<◌, List, length, get_or, nat_eq, nat_lt, true, false, refl, ap, sym, ◌∙◌, arith, inl, inr, lt-ltb, le-ltb, rules}
use Rattle.std.specs.List.{between}
use Rattle.std.proofs.lemmas.List.Edits.{get_or-between, length-between}
use Rattle.std.proofs.lemmas.Bool.{cases_lt}
use Rattle.std.proofs.lemmas.List.{places}
use Rattle.std.proofs.lemmas.Slice.{overwrites}
use borrow.Rule.Slice.PartMut.{put_mid}
use Rattle.std.proofs.lemmas.Bool.Decides.{nat_tests}
use Rattle.std.proofs.lemmas.Nat.{div-mul-add, mod-mul-add}
use Rattle.std.proofs.Math.Nat.{add-mul, mul-le-mul_right}
use Rattle.rh_stencil.specs.Flux.{balance_value, flux_value}
use Rattle.rh_stencil.specs.Steps.{line_word, word_left, word_right}
use Rattle.rh_stencil.proofs.LineWords.{right_inner, right_last}
use Rattle.rh_stencil.specs.Grids.{grid_word, word_west, word_east, word_north, word_south}

-- where a row is not the last, another whole row follows
pub next_row : (row rows cols : ℕ) → row * cols + cols < rows * cols → row * cols + cols + cols ≤ rows * cols
next_row row rows cols h = elim (cases_lt (row + 1) rows) [
  | inl less ↦
      let two : (row + 2) * cols ≤ rows * cols = mul-le-mul_right cols (omega arith) in
      let split : (row + 2) * cols ≡ row * cols + 2 * cols = add-mul row 2 cols in
      omega arith
  | inr more ↦
      let one : rows * cols ≤ (row + 1) * cols = mul-le-mul_right cols more in
      let split : (row + 1) * cols ≡ row * cols + 1 * cols = add-mul row 1 cols in
      absurd (omega arith)
]

pub row_inside : (row rows cols : ℕ) → row < rows → row * cols + cols ≤ rows * cols
row_inside row rows cols h =
    let one : (row + 1) * cols ≤ rows * cols = mul-le-mul_right cols (omega arith) in
    let split : (row + 1) * cols ≡ row * cols + 1 * cols = add-mul row 1 cols in
    omega arith

-- the word to the left, by the row and by the grid
west_of : (west m : List ℕ) (row cols c : ℕ) → c < cols → row * cols + cols ≤ length m
    → word_left (get_or west row 0) (between (row * cols) (row * cols + cols) m) c ≡ word_west west m cols (row * cols + c)
west_of west m row cols zero h room =
    let place : (row * cols + zero) % cols ≡ zero = mod-mul-add row cols zero h in
    let line : (row * cols + zero) / cols ≡ row = div-mul-add row cols zero h in
    rw (place, line) refl
west_of west m row cols (suc c) h room =
    let later : nat_eq (suc c) 0 ≡ false = grind (arith, nat_tests) in
    let place : (row * cols + suc c) % cols ≡ suc c = mod-mul-add row cols (suc c) h in
    let back : row * cols + suc c - 1 ≡ row * cols + c = omega arith in
    let before : suc c - 1 ≡ c = omega arith in
    let word : get_or (between (row * cols) (row * cols + cols) m) c 0 ≡ get_or m (row * cols + c) 0 = get_or-between m (row * cols) (row * cols + cols) c 0 (omega arith) in
    rw (place, later, back, before) word

pub east_inner : (east m : List ℕ) (cols i : ℕ) → i % cols + 1 < cols → word_east east m cols i ≡ get_or m (i + 1) 0
east_inner east m cols i h = let e : nat_lt (i % cols + 1) cols ≡ true = lt-ltb _ _ h in rw e refl

pub east_last : (east m : List ℕ) (cols i : ℕ) → cols ≤ i % cols + 1 → word_east east m cols i ≡ get_or east (i / cols) 0
east_last east m cols i h = let e : nat_lt (i % cols + 1) cols ≡ false = le-ltb _ _ h in rw e refl

east_of : (east m : List ℕ) (row cols c : ℕ) → c < cols → row * cols + cols ≤ length m
    → word_right (between (row * cols) (row * cols + cols) m) (get_or east row 0) c ≡ word_east east m cols (row * cols + c)
east_of east m row cols c h room =
    let place : (row * cols + c) % cols ≡ c = mod-mul-add row cols c h in
    let line : (row * cols + c) / cols ≡ row = div-mul-add row cols c h in
    let long : length (between (row * cols) (row * cols + cols) m) ≡ row * cols + cols - row * cols = length-between m (row * cols) (row * cols + cols) room in
    let there : row * cols + (c + 1) ≡ row * cols + c + 1 = omega arith in
    elim (cases_lt (c + 1) cols) [
      | inl inner ↦ right_inner (between (row * cols) (row * cols + cols) m) (get_or east row 0) c (omega arith)
          ∙ get_or-between m (row * cols) (row * cols + cols) (c + 1) 0 (omega arith)
          ∙ ap (λ (n : ℕ). get_or m n 0) there
          ∙ sym (east_inner east m cols (row * cols + c) (omega arith))
      | inr last ↦ right_last (between (row * cols) (row * cols + cols) m) (get_or east row 0) c (omega arith)
          ∙ ap (λ (n : ℕ). get_or east n 0) (sym line)
          ∙ sym (east_last east m cols (row * cols + c) (omega arith))
    ]

-- a word of a row, after what flows along the row and across it
pub row_word : (north south west east m here below : List ℕ) (above row cols c k s : ℕ) → c < cols → row * cols + cols ≤ length m
    → here ≡ between (row * cols) (row * cols + cols) m
    → above ≡ word_north north m cols (row * cols + c) → get_or below c 0 ≡ word_south south m cols (row * cols + c)
    → balance_value (line_word (get_or west row 0) here (get_or east row 0) k s c) (flux_value above (get_or here c 0) k s) (flux_value (get_or here c 0) (get_or below c 0) k s) ≡ grid_word north south west east m cols k s (row * cols + c)
unfolding grid_word
row_word north south west east m here below above row cols c k s h room eh eu ed =
    let word : get_or (between (row * cols) (row * cols + cols) m) c 0 ≡ get_or m (row * cols + c) 0 = get_or-between m (row * cols) (row * cols + cols) c 0 (omega arith) in
    let left = west_of west m row cols c h room in
    let right = east_of east m row cols c h room in
    rw (eh, eu, ed, word, left, right) refl

-- the word above one of a later row
pub above_later : (north m : List ℕ) (row cols c : ℕ) → word_north north m cols ((row + 1) * cols + c) ≡ get_or m (row * cols + c) 0
above_later north m row cols c =
    let split : (row + 1) * cols ≡ row * cols + 1 * cols = add-mul row 1 cols in
    let e : nat_lt ((row + 1) * cols + c) cols ≡ false = le-ltb _ _ (omega arith) in
    let back : (row + 1) * cols + c - cols ≡ row * cols + c = omega arith in
    rw (e, back) refl

-- the word below one of a row that is not the last
pub below_inner : (south m : List ℕ) (row rows cols c : ℕ) → row + 1 < rows → c < cols → length m ≡ rows * cols → word_south south m cols (row * cols + c) ≡ get_or m ((row + 1) * cols + c) 0
below_inner south m row rows cols c hr hc whole =
    let split : (row + 1) * cols ≡ row * cols + 1 * cols = add-mul row 1 cols in
    let inside = row_inside (row + 1) rows cols hr in
    let e : nat_lt (row * cols + c + cols) (length m) ≡ true = lt-ltb _ _ (omega arith) in
    let forth : row * cols + c + cols ≡ (row + 1) * cols + c = omega arith in
    rw (e, forth) refl

-- a row written into a grid
pub put_below : (a k : ℕ) (xs ys : List ℕ) (i : ℕ) → i < a → a ≤ length xs → get_or (put_mid a k xs ys) i 0 ≡ get_or xs i 0
put_below a k xs ys i h room = search (rules, places)

pub put_at : (a k : ℕ) (xs ys : List ℕ) (c : ℕ) → c < length ys → a ≤ length xs → get_or (put_mid a k xs ys) (a + c) 0 ≡ get_or ys c 0
put_at a k xs ys c h room = search (rules, places)

pub length-put_row : (a cols : ℕ) (xs ys : List ℕ) → a + cols ≤ length xs → length ys ≡ cols → length (put_mid a (a + cols - a) xs ys) ≡ length xs
length-put_row a cols xs ys room long = search (rules, overwrites)

-- a word of the grid, after one more row was written
pub row_written : (f : ℕ → ℕ) (out ys : List ℕ) (row cols i : ℕ) → row * cols + cols ≤ length out → length ys ≡ cols → i < (row + 1) * cols
    → ((n : ℕ) → n < row * cols → get_or out n 0 ≡ f n) → ((c : ℕ) → c < cols → get_or ys c 0 ≡ f (row * cols + c))
    → get_or (put_mid (row * cols) (row * cols + cols - row * cols) out ys) i 0 ≡ f i
row_written f out ys row cols i room long h below here =
    let split : (row + 1) * cols ≡ row * cols + 1 * cols = add-mul row 1 cols in
    elim (cases_lt i (row * cols)) [
      | inl less ↦ put_below (row * cols) (row * cols + cols - row * cols) out ys i less (omega arith) ∙ below i less
      | inr more ↦
          let there : row * cols + (i - row * cols) ≡ i = omega arith in
          ap (λ (n : ℕ). get_or (put_mid (row * cols) (row * cols + cols - row * cols) out ys) n 0) (sym there)
          ∙ put_at (row * cols) (row * cols + cols - row * cols) out ys (i - row * cols) (omega arith) (omega arith)
          ∙ here (i - row * cols) (omega arith)
          ∙ ap f there
    ]
