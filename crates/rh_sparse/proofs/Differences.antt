-- A difference of two sums, as 128 bits hold it.
use Rattle.std.proofs.Common.{◌≡◌, ℕ, ◌^◌, ◌≤◌, pos, ◌-ℤ◌, arith}
use Rattle.std.proofs.lemmas.Int.{ints}
use Rattle.std.specs.Int.{w128, cast_signed, cast_unsigned}

pub difference_is : (a b total expected : ℕ) → a ≡ total → b ≡ expected → a ≤ 2 ^ 88 → b ≤ 2 ^ 88
    → cast_signed w128 (cast_unsigned w128 (cast_signed w128 a -ℤ cast_signed w128 b)) ≡ pos total -ℤ pos expected
difference_is a b total expected total_is expected_is total_small expected_small = omega (arith, ints)
