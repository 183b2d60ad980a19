-- Rows that lie in one list of cells: how many there are, where each lies, and one more row behind them.
use Rattle.std.proofs.Common.{◌≡◌, ℕ, zero, suc, ◌+◌, ◌-◌, ◌<◌, ◌≤◌, List, [], ◌∷◌, ◌++◌, Some, length, take, drop, get_or, refl, arith, ap, sym, ◌∙◌, subst}
use Rattle.std.proofs.lemmas.List.{drop-append-le, take-append-le, length-append, length-drop, length_push, drop_at, take_all}
use Rattle.std.proofs.lemmas.List.Elements.{All-get_or, All-push}
use Rattle.std.proofs.lemmas.Option.{get_or_from_slice_get, slice_get_within}
use Rattle.std.specs.List.{All, slice_get, slice_range}
use Rattle.rh_sparse.specs.declared.matrix.Cell.{Cell}
use Rattle.rh_words.specs.declared.limits.TheConstants.{MAX_MATRIX_SIDE}
use Rattle.rh_sparse.specs.Layout.{rows_from, LeadTo, IsLaidOut}
use Rattle.rh_sparse.specs.Matrix.{matrix_data, IsRow, IsMatrix}

pub length-rows_from : (cells : List Cell) (start : ℕ) (ends : List ℕ) → length (rows_from cells start ends) ≡ length ends
length-rows_from cells start [] = refl
length-rows_from cells start (end ∷ ends) = ap suc (length-rows_from cells end ends)

pub row_at : (cells : List Cell) (start : ℕ) (ends : List ℕ) (i : ℕ) → i < length ends
    → slice_get (rows_from cells start ends) i ≡ Some (slice_range cells (get_or (start ∷ ends) i 0) (get_or ends i 0))
row_at cells start [] i within = absurd (omega arith)
row_at cells start (end ∷ ends) zero within = refl
row_at cells start (end ∷ ends) (suc i) within = row_at cells end ends i (omega arith)

-- what holds of each element holds of the one at a place
pub all_at : {X : Type 0} (P : X → Type 0) (xs : List X) (i : ℕ) (x : X) → All P xs → slice_get xs i ≡ Some x → P x
all_at P xs i x all here = subst P (get_or_from_slice_get xs i x x here) (All-get_or P xs i x (slice_get_within xs i x here) all)

-- a row other than the first begins where the one before it ends
pub start_later : (ends : List ℕ) (at : ℕ) → 0 < at → get_or (0 ∷ ends) at 0 ≡ get_or ends (at - 1) 0
start_later ends zero later = absurd (omega arith)
start_later ends (suc at) later = ap (λ (n : ℕ). get_or ends n 0) (omega arith)

-- the ends lie between where the first row begins and where the last one ends
pub ends_at_least : (start : ℕ) (ends : List ℕ) (stop : ℕ) → LeadTo start ends stop → start ≤ stop
ends_at_least start [] stop lead = omega (arith, lead)
ends_at_least start (end ∷ ends) stop lead = omega (arith, lead.0, ends_at_least end ends stop lead.1)

pub row_within : (start : ℕ) (ends : List ℕ) (stop i : ℕ) → LeadTo start ends stop → i < length ends
    → (get_or (start ∷ ends) i 0 ≤ get_or ends i 0) × (get_or ends i 0 ≤ stop)
row_within start [] stop i lead within = absurd (omega arith)
row_within start (end ∷ ends) stop zero lead within = (lead.0, ends_at_least end ends stop lead.1)
row_within start (end ∷ ends) stop (suc i) lead within = row_within end ends stop i lead.1 (omega arith)

pub LeadTo_push : (start : ℕ) (ends : List ℕ) (stop later : ℕ) → LeadTo start ends stop → stop ≤ later → LeadTo start (ends ++ later ∷ []) later
LeadTo_push start [] stop later lead up = (omega (arith, lead), refl)
LeadTo_push start (end ∷ ends) stop later lead up = (lead.0, LeadTo_push end ends stop later lead.1 up)

-- what lies before the end is as before
slice_range_left : (cells more : List Cell) (start end : ℕ) → start ≤ end → end ≤ length cells → slice_range (cells ++ more) start end ≡ slice_range cells start end
slice_range_left cells more start end up within =
    let fits : end - start ≤ length (drop start cells) = omega (arith, length-drop start cells) in
    ap (take (end - start)) (drop-append-le start cells more (omega arith)) ∙ take-append-le (end - start) (drop start cells) more fits

pub rows_from_push : (cells row : List Cell) (start : ℕ) (ends : List ℕ) → LeadTo start ends (length cells)
    → rows_from (cells ++ row) start (ends ++ (length cells + length row) ∷ []) ≡ rows_from cells start ends ++ row ∷ []
rows_from_push cells row start [] lead =
    let n : ℕ = length cells + length row in
    let last : slice_range (cells ++ row) start n ≡ row = ap (take (n - start)) (drop_at cells row start (omega (arith, lead))) ∙ take_all (n - start) row (omega (arith, lead)) in
    ap (λ (r : List Cell). r ∷ []) last
rows_from_push cells row start (end ∷ ends) lead =
    let here = slice_range_left cells row start end lead.0 (ends_at_least end ends (length cells) lead.1) in
    let rest = rows_from_push cells row end ends lead.1 in
    ap (λ (r : List Cell). r ∷ rows_from (cells ++ row) end (ends ++ (length cells + length row) ∷ [])) here ∙ ap (λ (rs : List (List Cell)). slice_range cells start end ∷ rs) rest

-- One more row is written behind the cells, and its end behind the ends.
pub rows_pushed : (cells row cells' : List Cell) (start : ℕ) (ends ends' : List ℕ) → LeadTo 0 ends (length cells)
    → cells' ≡ cells ++ row → start ≡ length cells → ends' ≡ ends ++ (start + length row) ∷ []
    → rows_from cells' 0 ends' ≡ rows_from cells 0 ends ++ row ∷ []
rows_pushed cells row cells' start ends ends' lead longer begins ended =
    let pushed : ends' ≡ ends ++ (length cells + length row) ∷ [] = ended ∙ ap (λ (n : ℕ). ends ++ (n + length row) ∷ []) begins in
    ap (λ (cs : List Cell). rows_from cs 0 ends') longer ∙ ap (λ (es : List ℕ). rows_from (cells ++ row) 0 es) pushed ∙ rows_from_push cells row 0 ends lead

pub laid_out_pushed : (cols : ℕ) (cells row cells' : List Cell) (start : ℕ) (ends ends' : List ℕ) → IsLaidOut cols cells ends → IsRow cols row → length ends < MAX_MATRIX_SIDE
    → cells' ≡ cells ++ row → start ≡ length cells → ends' ≡ ends ++ (start + length row) ∷ []
    → IsLaidOut cols cells' ends'
laid_out_pushed cols cells row cells' start ends ends' laid lawful room longer begins ended =
    let matrix = laid.lawful in
    let Lawful : List (List Cell) → Type 0 = λ rows. IsMatrix (matrix_data cols rows) in
    let more : Lawful (rows_from cells 0 ends ++ row ∷ []) = record {
      some_columns = matrix.some_columns;
      few_columns = matrix.few_columns;
      few_rows = omega (arith, length_push (rows_from cells 0 ends) row, length-rows_from cells 0 ends);
      lawful_rows = All-push (IsRow cols) (rows_from cells 0 ends) row matrix.lawful_rows lawful;
    } in
    let lead = LeadTo_push 0 ends (length cells) (start + length row) laid.lead (omega arith) in
    let stop : start + length row ≡ length cells' = omega (arith, ap length longer ∙ length-append cells row) in
    record {
      lead = subst (λ (es : List ℕ). LeadTo 0 es (length cells')) (sym ended) (subst (LeadTo 0 (ends ++ (start + length row) ∷ [])) stop lead);
      lawful = subst Lawful (sym (rows_pushed cells row cells' start ends ends' laid.lead longer begins ended)) more;
    }
