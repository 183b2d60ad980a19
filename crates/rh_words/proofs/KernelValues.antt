-- A list that is made of two, by its places; and how long the values of the kernels are.
use Rattle.std.proofs.Common.{◌≡◌, ℕ, ◌+◌, ◌<◌, ◌≤◌, List, length, get_or, map, refl, sym, ◌∙◌, arith}
use Rattle.std.specs.List.{range_with_len, slice_index, zip}
use Rattle.std.proofs.lemmas.List.{length-map, get_or-map, length-take, length-drop}
use Rattle.std.proofs.lemmas.List.FromFn.{fill_by_all, length-map-range_with_len}
use Rattle.std.proofs.lemmas.Slice.Zip.{length-zip, get_or-zip}
use Rattle.rh_words.specs.Kernels.{word_by_word, gen_word, gen_value, scale_value, shift_value, cut_value}
use Rattle.rh_words.specs.Modular.{mul_word, asr_word}

pub length-word_by_word : (f : ℕ → ℕ → ℕ) (xs ys : List ℕ) → length xs ≡ length ys → length (word_by_word f xs ys) ≡ length xs
length-word_by_word f xs ys e = length-map (zip xs ys) (λ p. f p.0 p.1) ∙ length-zip xs ys ∙ omega arith

pub length-gen_value : (n start limit : ℕ) → length (gen_value n start limit) ≡ n
length-gen_value n start limit = length-map-range_with_len (gen_word start limit) 0 n

pub length-scale_value : (xs : List ℕ) (k : ℕ) → length (scale_value xs k) ≡ length xs
length-scale_value xs k = length-map xs (λ x. mul_word x k)

pub length-shift_value : (xs : List ℕ) (s : ℕ) → length (shift_value xs s) ≡ length xs
length-shift_value xs s = length-map xs (λ x. asr_word x s)

pub length-cut_value : (xs : List ℕ) (from len : ℕ) → from + len ≤ length xs → length (cut_value xs from len) ≡ len
length-cut_value xs from len within = simp (length-take, length-drop) (omega arith)

-- the word at each place is made of the two words there
pub word_by_word-places : (f : ℕ → ℕ → ℕ) (xs ys : List ℕ) → length xs ≡ length ys → map (λ i. f (slice_index xs i) (slice_index ys i)) (range_with_len 0 (length xs)) ≡ word_by_word f xs ys
word_by_word-places f xs ys e =
    let at : (k : ℕ) → k < length xs → get_or (word_by_word f xs ys) k 0 ≡ f (get_or xs k 0) (get_or ys k 0) = λ k h.
    let both : k < length (zip xs ys) = rw (length-zip xs ys) (omega arith) in
    get_or-map (λ (p : ℕ × ℕ). f p.0 p.1) (zip xs ys) k (0, 0) 0 both ∙ rw (get_or-zip xs ys k (0, 0) h (omega arith)) refl in
    sym (fill_by_all (λ i. f (slice_index xs i) (slice_index ys i)) (word_by_word f xs ys) (length xs) 0 (length-word_by_word f xs ys e) at)
