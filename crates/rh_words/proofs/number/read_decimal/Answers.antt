use Rattle.std.proofs.Common.{◌≡◌, ◌<◌, get_or, arith, refl}
use Rattle.std.specs.Char.{digit_value}
use Rattle.std.proofs.lemmas.Str.{digit_value_digit}
use Rattle.std.proofs.lemmas.Str.Parse.{digit_from_value}
use Rattle.rh_words.proofs.Digits.{digits_value_step, all_digits_step, one_more_digit, room_for_a_digit}
use Rattle.rh_words.proofs.number.read_decimal.Goals as goal

pub loop-byte-preserved : goal.loop-byte-preserved
loop-byte-preserved c =
    let byte = get_or c.args.text.now c.loop-byte.byte-index 0 in
    let small : digit_value byte < 10 = c.if-not-is_ascii_digit.ensures.bound in
    let worth = digit_value_digit byte (digit_from_value byte small) in
    let digit : c.from.result ≡ digit_value byte = omega (arith, c.from.ensures, worth) in
    record {
      value = digits_value_step c.args.text.now 10 c.loop-byte.value c.loop-byte.byte-index byte c.from.result c.loop-byte-test.true refl digit c.loop-byte.invariant.value;
      small = one_more_digit c.loop-byte.value c.from.result c.loop-byte.byte-index c.loop-byte.invariant.small (omega (arith, digit, small));
      digits = all_digits_step c.args.text.now 10 c.loop-byte.byte-index byte c.loop-byte-test.true refl small c.loop-byte.invariant.digits;
    }

pub overflow_mul-value : goal.overflow_mul-value
overflow_mul-value c = let room = room_for_a_digit c.loop-byte.value c.loop-byte.byte-index c.loop-byte.invariant.small (omega arith) in omega (arith, room)

pub overflow_add-value : goal.overflow_add-value
overflow_add-value c =
    let room = room_for_a_digit c.loop-byte.value c.loop-byte.byte-index c.loop-byte.invariant.small (omega arith) in
    let byte = get_or c.args.text.now c.loop-byte.byte-index 0 in
    let small : digit_value byte < 10 = c.if-not-is_ascii_digit.ensures.bound in
    let worth = digit_value_digit byte (digit_from_value byte small) in
    omega (arith, room, small, worth, c.from.ensures)
