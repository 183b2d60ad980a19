-- What one fault does to the words of a local.
use Rattle.std.specs.Prelude.{ℕ, ◌≡◌, ◌==◌, ◌&&◌, List, [], ◌∷◌, ⊤, Bool, false, nat_lt, bit_xor, length, slice_index, slice_set, if◌then◌else◌}
use Rattle.std.specs.List.{AllByRecursion, list_any}
use Rattle.rh_injector.specs.declared.faults.Strike.{Strike}

-- the words of a local, of which the one that the fault names is xored with its mask, where it names one
abbrev pub with_fault : Strike → ℕ → List ℕ → List ℕ
with_fault s local words = if s.local == local && nat_lt s.word (length words) then slice_set words s.word (bit_xor (slice_index words s.word) s.mask) else words

-- some fault names the local
abbrev pub names_local : List Strike → ℕ → Bool
names_local faults local = list_any (λ s. s.local == local) faults

-- no two of the faults of an attempt have one place
abbrev pub AreApart : List Strike → Type 0
AreApart [] = ⊤
AreApart (s ∷ faults) = AllByRecursion (λ t. (t.local == s.local && t.word == s.word) ≡ false) faults × AreApart faults
