-- The union of the bits of words, and which words it tells of.
use Rattle.std.proofs.Common.{◌≡◌, ℕ, ◌<◌, ◌≤◌, ◌&&◌, ◌⊎◌, Bool, true, false, nat_le, bit_or, arith}
use Rattle.std.proofs.lemmas.Bool.Decides.{leb_tells}
use Rattle.std.proofs.lemmas.Nat.{le_or_l, le_or_r, or_lt}

-- the tests of two words and of their union
told : (united left right : ℕ) (a b c d : Bool) → left ≤ united → right ≤ united → (left < 256 → right < 256 → united < 256)
    → ((a ≡ true) × (united ≤ 255)) ⊎ ((a ≡ false) × (255 < united))
    → ((b ≡ true) × (left ≤ 255)) ⊎ ((b ≡ false) × (255 < left))
    → ((c ≡ true) × (0 ≤ right)) ⊎ ((c ≡ false) × (right < 0))
    → ((d ≡ true) × (right ≤ 255)) ⊎ ((d ≡ false) × (255 < right))
    → a ≡ (b && (c && d))
told united left right a b c d over_left over_right joint is_a is_b is_c is_d = grind arith

-- a union is at most 255 exactly where both of its words are
pub union_of_bytes : (left right : ℕ) → nat_le (bit_or left right) 255 ≡ (nat_le left 255 && (nat_le 0 right && nat_le right 255))
union_of_bytes left right =
    told (bit_or left right) left right (nat_le (bit_or left right) 255) (nat_le left 255) (nat_le 0 right) (nat_le right 255)
    (le_or_l left right) (le_or_r left right) (or_lt 8 left right)
    (leb_tells (bit_or left right) 255) (leb_tells left 255) (leb_tells 0 right) (leb_tells right 255)
