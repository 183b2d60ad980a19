-- What injected faults do to a local of an attempt.
use Rattle.std.specs.Prelude.{ℕ, ◌+◌, ◌==◌, ◌&&◌, List, [], ◌∷◌, unwrap_or, bit_xor}
use Rattle.std.specs.List.{find}
use Rattle.std.specs.Option.{option_map}
use Rattle.rh_injector.specs.declared.faults.Strike.{Strike}

-- The word at a place of a local, xored with the mask of the fault at that place, where there is one. The faults are those of the attempt.
abbrev pub faulted_word : List Strike → ℕ → ℕ → ℕ → ℕ
faulted_word faults local at word = unwrap_or (option_map (λ s. bit_xor word s.mask) (find (λ s. s.local == local && s.word == at) faults)) word

abbrev pub faulted_from : List Strike → ℕ → ℕ → List ℕ → List ℕ
faulted_from faults local at [] = []
faulted_from faults local at (w ∷ words) = faulted_word faults local at w ∷ faulted_from faults local (at + 1) words

-- the local of this number under the faults of its attempt
abbrev pub faulted : List Strike → ℕ → List ℕ → List ℕ
faulted faults local words = faulted_from faults local 0 words
