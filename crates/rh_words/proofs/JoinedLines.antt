-- Lines without a line feed are the lines of their bytes, joined.
use Rattle.std.proofs.Common.{◌≡◌, ℕ, List, [], ◌∷◌, ◌++◌, Bool, true, false, cond, refl, ap, sym, ◌∙◌, subst, inl, inr, arith}
use Rattle.std.specs.Prelude.{◌&&◌, ◌==◌, nat_le}
use Rattle.std.proofs.lemmas.Bool.{false≢true, ne_eqb}
use Rattle.std.proofs.lemmas.Bool.Decides.{eqb_tells}
use Rattle.rh_words.specs.Text.{lines_of, words_of, word_from, onto_first, is_printable, is_printable_byte, IsHeader}

-- the bytes of these lines, with a line feed after each
abbrev pub joined : List (List ℕ) → List ℕ
joined [] = []
joined (line ∷ lines) = line ++ 10 ∷ joined lines

-- no byte is a line feed
abbrev pub IsOneLine : List ℕ → Type 0
IsOneLine [] = Unit {0}
IsOneLine (b ∷ bs) = (b ≡ 10 → ⊥) × IsOneLine bs

abbrev pub AreOneLine : List (List ℕ) → Type 0
AreOneLine [] = Unit {0}
AreOneLine (piece ∷ pieces) = IsOneLine piece × AreOneLine pieces

pub first_line : (line bytes : List ℕ) → IsOneLine line → lines_of (line ++ 10 ∷ bytes) ≡ line ∷ lines_of bytes
first_line [] bytes one = refl
first_line (b ∷ line) bytes one =
    let other = ne_eqb b 10 one.0 in
    let rest = first_line line bytes one.1 in
    rw (other, rest) refl

pub lines_of-joined : (lines : List (List ℕ)) → AreOneLine lines → lines_of (joined lines) ≡ lines
lines_of-joined [] one = refl
lines_of-joined (line ∷ lines) one = first_line line (joined lines) one.0 ∙ ap (λ (l : List (List ℕ)). line ∷ l) (lines_of-joined lines one.1)

and_both : (s t : Bool) → (s && t) ≡ true → (s ≡ true) × (t ≡ true)
and_both true t e = (refl, e)
and_both false t e = cc

no_feed : (b : ℕ) → nat_le 0x20 b ≡ true → b ≡ 10 → ⊥
no_feed b low feed = false≢true (ap (λ (c : ℕ). nat_le 0x20 c) (sym feed) ∙ low)

pub printable_line : (line : List ℕ) → is_printable line ≡ true → IsOneLine line
printable_line [] printable = tt
printable_line (b ∷ bs) printable =
    let both = and_both (is_printable_byte b) _ printable in
    (no_feed b (and_both (nat_le 0x20 b) _ both.0).0, printable_line bs both.1)

onto_one : (b : ℕ) (pieces : List (List ℕ)) → AreOneLine (onto_first b pieces) → (b ≡ 10 → ⊥) × AreOneLine pieces
onto_one b [] one = (one.0.0, tt)
onto_one b (piece ∷ pieces) one = (one.0.0, (one.0.1, one.1))

from_one : (b : ℕ) (bs : List ℕ) (words : List (List ℕ)) → AreOneLine (word_from b bs words) → (b ≡ 10 → ⊥) × AreOneLine words
from_one b [] words one = (one.0.0, one.1)
from_one b (c ∷ cs) words one = split (c == 32) one where
  split : (t : Bool) → AreOneLine (cond t ((b ∷ []) ∷ words) (onto_first b words)) → (b ≡ 10 → ⊥) × AreOneLine words
  split true one = (one.0.0, one.1)
  split false one = onto_one b words one

-- a line is in one line where its words are
pub words_one : (line : List ℕ) → AreOneLine (words_of line) → IsOneLine line
words_one [] one = tt
words_one (b ∷ bs) one = elim (eqb_tells b 32) [
  | inl space ↦ (let rest = rw space.0 at one in ((λ feed. let e = space.1 in absurd (omega arith)), words_one bs rest))
  | inr other ↦ (let rest = rw other.0 at one in let both = from_one b bs (words_of bs) rest in (both.0, words_one bs both.1))
]

-- a header is in one line where its two words are
pub header_one : (format version line : List ℕ) → IsOneLine format → IsOneLine version → IsHeader format version line → IsOneLine line
header_one format version line f v header = words_one line (subst (λ (ws : List (List ℕ)). AreOneLine ws) (sym header) (f, (v, tt)))
