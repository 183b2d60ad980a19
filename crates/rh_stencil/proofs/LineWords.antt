-- The words of a line, and the whole line from them.
use Rattle.std.proofs.Common.{◌≡◌, ℕ, ◌+◌, ◌-◌, ◌≤◌, ◌<◌, true, false, nat_eq, nat_lt, List, length, get_or, refl, arith, le-ltb, lt-ltb, inl, inr}
use Rattle.std.proofs.lemmas.List.FromFn.{fill_by_all}
use Rattle.std.proofs.lemmas.Bool.Decides.{nat_tests}
use Rattle.std.proofs.lemmas.Bool.{cases_lt}
use Rattle.rh_stencil.specs.Steps.{line_word, line_value, word_left, word_right}

-- the word to the left of a later position
pub left_later : (before : ℕ) (m : List ℕ) (i : ℕ) → word_left before m (i + 1) ≡ get_or m i 0
left_later before m i =
    let e : nat_eq (i + 1) 0 ≡ false = grind (arith, nat_tests) in
    let back : i + 1 - 1 ≡ i = omega arith in
    rw (e, back) refl

-- the word to the right of a position that is not the last
pub right_inner : (m : List ℕ) (after i : ℕ) → i + 1 < length m → word_right m after i ≡ get_or m (i + 1) 0
right_inner m after i h =
    let e : nat_lt (i + 1) (length m) ≡ true = lt-ltb _ _ h in
    rw e refl

-- the word to the right of the last one
pub right_last : (m : List ℕ) (after i : ℕ) → length m ≤ i + 1 → word_right m after i ≡ after
right_last m after i h = let e : nat_lt (i + 1) (length m) ≡ false = le-ltb _ _ h in rw e refl

-- the line, from its words before a position and those from it on
pub line_of_words : (before after k s start : ℕ) (m out : List ℕ) → length out ≡ length m
    → ((i : ℕ) → i < start → get_or out i 0 ≡ line_word before m after k s i)
    → ((i : ℕ) → start ≤ i → i < length m → get_or out i 0 ≡ line_word before m after k s i)
    → out ≡ line_value before m after k s
line_of_words before after k s start m out same below above =
    fill_by_all (line_word before m after k s) out (length m) 0 same (λ i h. elim (cases_lt i start) [ inl less ↦ below i less | inr more ↦ above i more h ])
