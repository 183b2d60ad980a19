-- Lines that are printed one after another.
use Rattle.std.proofs.Common.{◌≡◌, ℕ, zero, suc, ◌+◌, ◌<◌, ◌≤◌, List, [], ◌∷◌, ◌++◌, Bool, true, false, cond, length, drop, get_or, refl, arith, ap, sym, ◌∙◌, append_assoc, append-nil}
use Rattle.std.proofs.lemmas.List.{drop_more}
use Rattle.std.proofs.lemmas.List.Sums.{sum_by-append, sum_by-cons}
use Rattle.std.proofs.lemmas.Grind.{flat_map-append}
use Rattle.std.specs.List.{flat_map, range_with_len, count_by}
use Rattle.rh_plan.specs.declared.outcome.Trial.{Trial}
use Rattle.rh_report.specs.NodeLines.{attempt_line, attempt_lines}
use mir.Val.{bool_byte}

range_more : (a n : ℕ) → range_with_len a (n + 1) ≡ range_with_len a n ++ (a + n) ∷ []
range_more a zero = ap (λ (m : ℕ). m ∷ []) (omega arith)
range_more a (suc n) =
    let shift : suc n + 1 ≡ suc (n + 1) = omega arith in
    ap (range_with_len a) shift ∙ ap (λ (l : List ℕ). a ∷ l) (range_more (a + 1) n) ∙ ap (λ (m : ℕ). a ∷ (range_with_len (a + 1) n ++ m ∷ [])) (omega arith)

pub range_next : (n : ℕ) → range_with_len 0 (n + 1) ≡ range_with_len 0 n ++ n ∷ []
range_next n = range_more 0 n ∙ ap (λ (m : ℕ). range_with_len 0 n ++ m ∷ []) (omega arith)

-- the lines of one more number
pub lines_more : (f : ℕ → List ℕ) (n : ℕ) (whole before after : List ℕ) → before ≡ whole ++ flat_map f (range_with_len 0 n) → after ≡ before ++ f n → after ≡ whole ++ flat_map f (range_with_len 0 (n + 1))
lines_more f n whole before after is is_after =
    is_after ∙ ap (λ (l : List ℕ). l ++ f n) is ∙ append_assoc whole (flat_map f (range_with_len 0 n)) (f n)
    ∙ ap (λ (l : List ℕ). whole ++ (flat_map f (range_with_len 0 n) ++ l)) (sym (append-nil (f n)))
    ∙ ap (λ (l : List ℕ). whole ++ l) (sym (flat_map-append f (range_with_len 0 n) (n ∷ [])))
    ∙ ap (λ (l : List ℕ). whole ++ flat_map f l) (sym (range_next n))

-- the line of one more attempt
pub attempts_more : (trials : List Trial) (k : ℕ) (d : Trial) (whole before after : List ℕ) → k < length trials → before ++ attempt_lines k (drop k trials) ≡ whole → after ≡ before ++ attempt_line k (get_or trials k d) → after ++ attempt_lines (k + 1) (drop (k + 1) trials) ≡ whole
attempts_more trials k d whole before after within is is_after =
    ap (λ (l : List ℕ). l ++ attempt_lines (k + 1) (drop (k + 1) trials)) is_after
    ∙ append_assoc before (attempt_line k (get_or trials k d)) (attempt_lines (k + 1) (drop (k + 1) trials))
    ∙ ap (λ (l : List Trial). before ++ attempt_lines k l) (sym (drop_more trials k d within))
    ∙ is

-- one more number is counted, where it passes
pub count_more : (p : ℕ → Bool) (n before after : ℕ) → before ≡ count_by p (range_with_len 0 n) → after ≡ before + cond (p n) 1 0 → after ≡ count_by p (range_with_len 0 (n + 1))
count_more p n before after is is_after =
    let joined = sum_by-append (λ x. cond (p x) 1 0) (range_with_len 0 n) (n ∷ []) in
    let last = sum_by-cons (λ x. cond (p x) 1 0) n [] in
    is_after ∙ ap (λ (m : ℕ). m + cond (p n) 1 0) is ∙ omega (arith, joined, last) ∙ ap (count_by p) (sym (range_next n))

bit_of : (b : Bool) → bool_byte b ≡ cond b 1 0
bit_of true = refl
bit_of false = refl

-- what is told of the next number is counted as 1 or 0
pub bit_more : (p : ℕ → Bool) (n before : ℕ) (told : Bool) (bit : ℕ) → before ≡ count_by p (range_with_len 0 n) → told ≡ p n → bit ≡ bool_byte told → before + bit ≡ count_by p (range_with_len 0 (n + 1))
bit_more p n before told bit is told_is bit_is = count_more p n before (before + bit) is (ap (λ (m : ℕ). before + m) (bit_is ∙ bit_of told ∙ ap (λ (b : Bool). cond b 1 0) told_is))

pub bit_small : (told : Bool) (bit : ℕ) → bit ≡ bool_byte told → bit ≤ 1
bit_small true bit is = let h : bit ≡ 1 = is in omega arith
bit_small false bit is = let h : bit ≡ 0 = is in omega arith
