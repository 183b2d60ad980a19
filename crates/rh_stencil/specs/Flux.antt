-- What passes between two neighbouring words.
use Rattle.std.specs.Prelude.{ℕ}
use Rattle.rh_words.specs.Modular.{add_word, sub_word, mul_word, asr_word}

-- what passes from a word to its right neighbour: K times their difference, shifted to the right by S with its sign
unfoldable pub flux_value : ℕ → ℕ → ℕ → ℕ → ℕ
flux_value l r k s = asr_word (mul_word k (sub_word l r)) s

-- a word after one flux came into it and another went out of it
abbrev pub balance_value : ℕ → ℕ → ℕ → ℕ
balance_value word into from = sub_word (add_word word into) from
