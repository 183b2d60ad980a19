use Rattle.std.proofs.Common.{◌≡◌, ◌<◌, ◌^◌, take, true}
use Rattle.std.specs.Str.Parse.{digits_value}
use Rattle.std.specs.List.{list_all}
use Rattle.std.specs.Char.{is_digit}
use Rattle.rh_words.proofs.number.read_decimal.Given as goal

abbrev pub invariant-loop-byte : goal.invariant-loop-byte
invariant-loop-byte l = record {
  value : l.value ≡ digits_value 10 (take l.byte-index l.text);
  small : l.value < 10 ^ l.byte-index;
  digits : list_all (λ c. is_digit c 10) (take l.byte-index l.text) ≡ true;
}
