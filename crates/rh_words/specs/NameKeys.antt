-- A name as four numbers.
use Rattle.std.specs.Prelude.{ℕ, ◌≡◌, ◌-◌, ◌&&◌, List, Bool, true, ◌++◌, length, take, drop, replicate, nat_eq}
use Rattle.std.specs.Int.{from_be_bytes, w64}
use Rattle.std.specs.Str.{bytes_eq}
use Rattle.rh_words.specs.declared.limits.TheConstants.{MAX_NAME_BYTES}
use Rattle.rh_words.specs.Naming.{is_name}
use Rattle.rh_words.specs.declared.name_key.NameKey.{NameKey}

-- the name with bytes of 0 behind it, 32 in all
abbrev pub padded_name : List ℕ → List ℕ
padded_name name = name ++ replicate (MAX_NAME_BYTES - length name) 0

-- the number that eight of the bytes are, the first the highest
abbrev pub key_word : List ℕ → ℕ → ℕ
key_word bytes at = from_be_bytes w64 (take 8 (drop at bytes))

-- the key of 32 bytes
abbrev pub key_of : List ℕ → NameKey
key_of bytes = record { first = key_word bytes 0; second = key_word bytes 8; third = key_word bytes 16; fourth = key_word bytes 24 }

-- the key of a name
abbrev pub name_key : List ℕ → NameKey
name_key name = key_of (padded_name name)

-- whether two keys are equal
abbrev pub keys_eq : NameKey → NameKey → Bool
keys_eq a b = nat_eq a.first b.first && (nat_eq a.second b.second && (nat_eq a.third b.third && nat_eq a.fourth b.fourth))

-- the keys of two names are equal exactly where the names are one
abbrev pub KeysTellNames : Type 0
KeysTellNames = (n m : List ℕ) → is_name n ≡ true → is_name m ≡ true → keys_eq (name_key n) (name_key m) ≡ bytes_eq n m
