-- Two numbers joined by a colon.
use Rattle.std.proofs.Common.{◌≡◌, ℕ, ◌+◌, ◌-◌, List, Option, Some, None, length, take, drop, refl, sym, ap, ◌∙◌, arith, length-drop}
use Rattle.std.proofs.lemmas.List.{take_all}
use Rattle.std.specs.Prelude.{position, ◌==◌}
use Rattle.rh_words.specs.Number.{number_of}
use Rattle.rh_words.specs.Values.{pair_of}

abbrev pub colon_in : List ℕ → Option ℕ
colon_in word = position (λ b. b == 58) word

pub pair_no_colon : (word : List ℕ) → colon_in word ≡ None → pair_of word ≡ None
unfolding pair_of
pair_no_colon word colon = rw colon refl

pub pair_no_first : (word : List ℕ) (at : ℕ) → colon_in word ≡ Some at → number_of (take at word) ≡ None → pair_of word ≡ None
unfolding pair_of
pair_no_first word at colon first = rw (colon, first) refl

-- what stands behind a place
behind : (word : List ℕ) (at : ℕ) → number_of (drop (at + 1) word) ≡ number_of (take (length word - (at + 1)) (drop (at + 1) word))
behind word at = ap (λ (l : List ℕ). number_of l) (sym (take_all (length word - (at + 1)) (drop (at + 1) word) (simp length-drop (omega arith))))

pub pair_no_second : (word : List ℕ) (at j : ℕ) → colon_in word ≡ Some at → number_of (take at word) ≡ Some j → number_of (take (length word - (at + 1)) (drop (at + 1) word)) ≡ None → pair_of word ≡ None
unfolding pair_of
pair_no_second word at j colon first second = let rest = behind word at ∙ second in rw (colon, first, rest) refl

pub pair_both : (word : List ℕ) (at j v : ℕ) → colon_in word ≡ Some at → number_of (take at word) ≡ Some j → number_of (take (length word - (at + 1)) (drop (at + 1) word)) ≡ Some v → pair_of word ≡ Some (j, v)
unfolding pair_of
pair_both word at j v colon first second = let rest = behind word at ∙ second in rw (colon, first, rest) refl
