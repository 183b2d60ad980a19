-- What flows out of one word flows into the next, so only what flows over the ends of each line is left of a sum of fluxes.
use Rattle.std.proofs.Common.{◌≡◌, ℕ, zero, suc, ◌+◌, ◌*◌, ◌<◌, ap, sym, ◌∙◌, arith}
use Rattle.rh_words.specs.Sums.{sum_below}
use Rattle.rh_stencil.proofs.RangeSums.{sum_same, sum_plus, sum_rows}

-- one line of n + 1 places
pub telescope : (n : ℕ) (into from : ℕ → ℕ) → ((c : ℕ) → c < n → into (suc c) ≡ from c) → sum_below (suc n) into + from n ≡ into 0 + sum_below (suc n) from
telescope zero into from e = omega arith
telescope (suc n) into from e =
    let rest = telescope n into from (λ c h. e c (omega arith)) in
    let next = e n (omega arith) in
    omega arith

-- Lines whose neighbouring words are `stride` apart, n + 1 words a line, `stride` lines a block. Word c of line x of block b stands at position (b * suc n + c) * stride + x.
pub telescope_lines : (blocks n stride : ℕ) (into from : ℕ → ℕ)
    → ((b c x : ℕ) → b < blocks → c < n → x < stride → into ((b * suc n + suc c) * stride + x) ≡ from ((b * suc n + c) * stride + x))
    → sum_below (blocks * suc n * stride) into + sum_below blocks (λ b. sum_below stride (λ x. from ((b * suc n + n) * stride + x)))
    ≡ sum_below blocks (λ b. sum_below stride (λ x. into ((b * suc n + 0) * stride + x))) + sum_below (blocks * suc n * stride) from
telescope_lines blocks n stride into from e =
    let at : (ℕ → ℕ) → ℕ → ℕ → ℕ = λ f b c. sum_below stride (λ x. f ((b * suc n + c) * stride + x)) in
    let cut : (f : ℕ → ℕ) → sum_below (blocks * suc n * stride) f ≡ sum_below blocks (λ b. sum_below (suc n) (at f b))
    = λ f. sum_rows (blocks * suc n) stride f ∙ sum_rows blocks (suc n) (λ r. sum_below stride (λ x. f (r * stride + x))) in
    let each : sum_below blocks (λ b. sum_below (suc n) (at into b) + at from b n) ≡ sum_below blocks (λ b. at into b 0 + sum_below (suc n) (at from b))
    = sum_same blocks _ _ (λ b hb. telescope n (at into b) (at from b) (λ c hc. sum_same stride _ _ (λ x hx. e b c x hb hc hx))) in
    ap (λ (k : ℕ). k + sum_below blocks (λ b. at from b n)) (cut into)
    ∙ sym (sum_plus blocks (λ b. sum_below (suc n) (at into b)) (λ b. at from b n))
    ∙ each
    ∙ sum_plus blocks (λ b. at into b 0) (λ b. sum_below (suc n) (at from b))
    ∙ ap (λ (k : ℕ). sum_below blocks (λ b. at into b 0) + k) (sym (cut from))

-- The rows of a grid of n + 1 words a row: each row is a block, and its words stand beside one another.
pub telescope_rows : (rows n : ℕ) (into from : ℕ → ℕ) → ((r c : ℕ) → r < rows → c < n → into (r * suc n + suc c) ≡ from (r * suc n + c))
    → sum_below (rows * suc n) into + sum_below rows (λ r. from (r * suc n + n)) ≡ sum_below rows (λ r. into (r * suc n + 0)) + sum_below (rows * suc n) from
telescope_rows rows n into from e =
    let place : (r c x : ℕ) → x < 1 → (r * suc n + c) * 1 + x ≡ r * suc n + c = λ r c x h. omega arith in
    let ends : (f : ℕ → ℕ) (c : ℕ) → sum_below rows (λ b. sum_below 1 (λ x. f ((b * suc n + c) * 1 + x))) ≡ sum_below rows (λ r. f (r * suc n + c))
    = λ f c. sum_same rows _ _ (λ r h. let one = ap f (place r c 0 (omega arith)) in omega arith) in
    let size : rows * suc n * 1 ≡ rows * suc n = omega arith in
    let lines = telescope_lines rows n 1 into from (λ b c x hb hc hx. ap into (place b (suc c) x hx) ∙ e b c hb hc ∙ ap from (sym (place b c x hx))) in
    let inflows = ap (λ (q : ℕ). sum_below q into) size in
    let outflows = ap (λ (q : ℕ). sum_below q from) size in
    let starts = ends into 0 in
    let stops = ends from n in
    omega arith

-- The columns of a grid of n + 1 rows: the grid is one block, and the words of a column stand a row apart.
pub telescope_columns : (n cols : ℕ) (into from : ℕ → ℕ) → ((r c : ℕ) → r < n → c < cols → into (suc r * cols + c) ≡ from (r * cols + c))
    → sum_below (suc n * cols) into + sum_below cols (λ c. from (n * cols + c)) ≡ sum_below cols (λ c. into (0 * cols + c)) + sum_below (suc n * cols) from
telescope_columns n cols into from e =
    let row : (b r : ℕ) → b < 1 → b * suc n + r ≡ r = λ b r h. let none : b ≡ 0 = omega arith in ap (λ (q : ℕ). q * suc n + r) none ∙ omega arith in
    let place : (b r c : ℕ) → b < 1 → (b * suc n + r) * cols + c ≡ r * cols + c = λ b r c h. ap (λ (q : ℕ). q * cols + c) (row b r h) in
    let ends : (f : ℕ → ℕ) (r : ℕ) → sum_below 1 (λ b. sum_below cols (λ c. f ((b * suc n + r) * cols + c))) ≡ sum_below cols (λ c. f (r * cols + c))
    = λ f r. let one = sum_same cols (λ c. f ((0 * suc n + r) * cols + c)) (λ c. f (r * cols + c)) (λ c h. ap f (place 0 r c (omega arith))) in omega arith in
    let size : 1 * suc n * cols ≡ suc n * cols = ap (λ (q : ℕ). q * cols) (omega arith) in
    let lines = telescope_lines 1 n cols into from (λ b r c hb hr hc. ap into (place b (suc r) c hb) ∙ e r c hr hc ∙ ap from (sym (place b r c hb))) in
    let inflows = ap (λ (q : ℕ). sum_below q into) size in
    let outflows = ap (λ (q : ℕ). sum_below q from) size in
    let starts = ends into 0 in
    let stops = ends from n in
    omega arith
