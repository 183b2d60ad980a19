-- What operations on four lanes make of each lane.
use Rattle.std.proofs.Common.{◌≡◌, ℕ, ◌+◌, ◌-◌, ◌%◌, ◌≤◌, ◌<◌, List, length, get_or, ap, ◌∙◌, arith}
use Rattle.std.specs.Simd.Lanes.{zip2}
use lib.Lanes.{chunk}
use Rattle.std.proofs.lemmas.Simd.{get_or-zip2, get_or-chunk, length-chunk, length-zip2}

-- two lists, four words of each
pub length-zip_chunks : (f : ℕ → ℕ → ℕ) (xs ys : List ℕ) (a b : ℕ) → a + 4 ≤ length xs → b + 4 ≤ length ys → length (zip2 f (chunk a 4 xs) (chunk b 4 ys)) ≡ 4
length-zip_chunks f xs ys a b hx hy =
    let x = length-chunk a 4 xs hx in
    let y = length-chunk b 4 ys hy in
    length-zip2 f (chunk a 4 xs) (chunk b 4 ys) (omega arith) ∙ x

pub get_or-zip_chunks : (f : ℕ → ℕ → ℕ) (xs ys : List ℕ) (a b j : ℕ) → a + 4 ≤ length xs → b + 4 ≤ length ys → j < 4
    → get_or (zip2 f (chunk a 4 xs) (chunk b 4 ys)) j 0 ≡ f (get_or xs (a + j) 0) (get_or ys (b + j) 0)
get_or-zip_chunks f xs ys a b j hx hy h =
    let x = length-chunk a 4 xs hx in
    let y = length-chunk b 4 ys hy in
    get_or-zip2 f (chunk a 4 xs) (chunk b 4 ys) j 0 0 0 (omega arith) (omega arith)
    ∙ ap (λ (w : ℕ). f w (get_or (chunk b 4 ys) j 0)) (get_or-chunk a 4 xs j 0 h)
    ∙ ap (λ (w : ℕ). f (get_or xs (a + j) 0) w) (get_or-chunk b 4 ys j 0 h)

-- four words, after four fluxes came in and four went out
abbrev pub lane_balance : List ℕ → List ℕ → List ℕ → List ℕ
lane_balance words into from = zip2 (λ a b. (a + (18446744073709551616 - b)) % 18446744073709551616) (zip2 (λ a b. (a + b) % 18446744073709551616) words into) from

pub length-lane_balance : (words into from : List ℕ) → length words ≡ 4 → length into ≡ 4 → length from ≡ 4 → length (lane_balance words into from) ≡ 4
length-lane_balance words into from hw hi hf =
    let sums = length-zip2 (λ a b. (a + b) % 18446744073709551616) words into (omega arith) in
    length-zip2 (λ a b. (a + (18446744073709551616 - b)) % 18446744073709551616) (zip2 (λ a b. (a + b) % 18446744073709551616) words into) from (omega arith) ∙ sums ∙ hw

pub get_or-lane_balance : (words into from : List ℕ) (j : ℕ) → length words ≡ 4 → length into ≡ 4 → length from ≡ 4 → j < 4
    → get_or (lane_balance words into from) j 0 ≡ ((get_or words j 0 + get_or into j 0) % 18446744073709551616 + (18446744073709551616 - get_or from j 0)) % 18446744073709551616
get_or-lane_balance words into from j hw hi hf h =
    let sums = length-zip2 (λ a b. (a + b) % 18446744073709551616) words into (omega arith) in
    get_or-zip2 (λ a b. (a + (18446744073709551616 - b)) % 18446744073709551616) (zip2 (λ a b. (a + b) % 18446744073709551616) words into) from j 0 0 0 (omega arith) (omega arith)
    ∙ ap (λ (w : ℕ). (w + (18446744073709551616 - get_or from j 0)) % 18446744073709551616) (get_or-zip2 (λ a b. (a + b) % 18446744073709551616) words into j 0 0 0 (omega arith) (omega arith))
