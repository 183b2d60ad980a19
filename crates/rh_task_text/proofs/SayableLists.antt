-- Lists that a statement says are lists of names and of words.
use Rattle.std.proofs.Common.{◌≡◌, ℕ, ◌<◌, ◌^◌, List, [], ◌∷◌, true, map, length, slice_index_or, refl, arith, zero, suc}
use Rattle.std.specs.List.{list_all}
use Rattle.rh_words.specs.Naming.{is_name}
use Rattle.rh_words.specs.Values.{AreSayable}
use Rattle.rh_words.specs.declared.value.Value.TheVariants.{AName, ANumber}
use Rattle.rh_task_text.specs.Statements.{awaits_said}

pub names_sayable : (qs : List (List ℕ)) → AreSayable (map AName qs) → list_all is_name qs ≡ true
names_sayable [] h = refl
names_sayable (q ∷ qs) h = let here = h.0 in let there = names_sayable qs h.1 in rw (here, there) refl

pub awaits_sayable : (qs : List (List ℕ)) → AreSayable (awaits_said qs) → list_all is_name qs ≡ true
awaits_sayable [] h = refl
awaits_sayable (q ∷ qs) h = let here = h.1.0 in let there = names_sayable qs h.1.1 in rw (here, there) refl

pub words_sayable : (ns : List ℕ) → AreSayable (map ANumber ns) → (k d : ℕ) → k < length ns → slice_index_or ns k d < 2 ^ 64
words_sayable [] h k d inside = absurd (omega arith)
words_sayable (n ∷ ns) h zero d inside = h.0
words_sayable (n ∷ ns) h (suc k) d inside = words_sayable ns h.1 k d (omega arith)
