-- What holds of every buffer that is made, and of every correction, holds of the accepted one.
use Rattle.std.proofs.Common.{◌≡◌, ℕ, ◌+◌, List, [], ◌∷◌, Option, Some, None, take, refl, subst}
use Rattle.std.proofs.lemmas.Option.{none-some, same_Some}
use Rattle.std.specs.List.{AllByRecursion, slice_get, position}
use Rattle.std.specs.Option.{is_none}
use Rattle.rh_rules.specs.declared.node.Scheme.{Scheme}
use Rattle.rh_rules.specs.declared.node.Scheme.TheVariants.{Plain, Replicate, Replay, Abft}
use Rattle.rh_plan.specs.Buffers.{BufferData}
use Rattle.rh_plan.specs.Judging.{tolerated, majority, deciding, replica_accepted, replicated_by, replicated_after, replicated, replayed_after, replayed, corrected_to, checked_once, corrected, judged_by}
use Rattle.rh_plan.proofs.Lists.{slice_get_take, all_get}

replica_made : (made : List BufferData) (j : ℕ) (o : Option BufferData) (b : BufferData) → (replica_accepted made j o).accepted ≡ Some b → o ≡ Some b
replica_made made j None b is = is
replica_made made j (Some c) b is = is

by_made : (made : List BufferData) (o : Option ℕ) (b : BufferData) → (replicated_by made o).accepted ≡ Some b → (j : ℕ) × (slice_get made j ≡ Some b)
by_made made None b is = absurd (none-some b is)
by_made made (Some j) b is = (j, replica_made made j (slice_get made j) b is)

after_made : (m : ℕ) (made : List BufferData) (o : Option ℕ) (b : BufferData) → (replicated_after m made o).accepted ≡ Some b → (j : ℕ) × (slice_get made j ≡ Some b)
after_made m made None b is = absurd (none-some b is)
after_made m made (Some k) b is =
    let (j, at) = by_made (take (k + 1) made) (majority m (take (k + 1) made)) b is in
    (j, slice_get_take (k + 1) made j b at)

replayed_made : (failing : BufferData → Option ℕ) (made : List BufferData) (o : Option ℕ) (b : BufferData) → (replayed_after failing made o).accepted ≡ Some b → (j : ℕ) × (slice_get made j ≡ Some b)
replayed_made failing made None b is = absurd (none-some b is)
replayed_made failing made (Some j) b is = (j, is)

corrected_holds : (P : BufferData → Type 0) (which : ℕ) (o : Option (ℕ × BufferData)) (b : BufferData) → ((c : ℕ × BufferData) → o ≡ Some c → P c.1) → (corrected_to which o).accepted ≡ Some b → P b
corrected_holds P which None b holds is = absurd (none-some b is)
corrected_holds P which (Some c) b holds is = subst P (same_Some c.1 b is) (holds c refl)

once_holds : (P : BufferData → Type 0) (correction : BufferData → Option (ℕ × BufferData)) (made : BufferData) (o : Option ℕ) (b : BufferData) → P made → ((c : ℕ × BufferData) → correction made ≡ Some c → P c.1) → (checked_once correction made o).accepted ≡ Some b → P b
once_holds P correction made None b here holds is = subst P (same_Some made b is) here
once_holds P correction made (Some which) b here holds is = corrected_holds P which (correction made) b holds is

tried_holds : (P : BufferData → Type 0) (failing : BufferData → Option ℕ) (correction : BufferData → Option (ℕ × BufferData)) (made : List BufferData) (b : BufferData) → AllByRecursion P made → ((x : BufferData) (c : ℕ × BufferData) → P x → correction x ≡ Some c → P c.1) → (corrected failing correction made).accepted ≡ Some b → P b
tried_holds P failing correction [] b all holds is = absurd (none-some b is)
tried_holds P failing correction (x ∷ made) b all holds is = once_holds P correction x (failing x) b all.0 (λ c found. holds x c all.0 found) is

pub accepted_holds : (P : BufferData → Type 0) (failing : BufferData → Option ℕ) (correction : BufferData → Option (ℕ × BufferData)) (made : List BufferData) (s : Scheme) (b : BufferData) → AllByRecursion P made → ((x : BufferData) (c : ℕ × BufferData) → P x → correction x ≡ Some c → P c.1) → (judged_by failing correction made s).accepted ≡ Some b → P b
unfolding replicated replayed
accepted_holds P failing correction made Plain b all holds is = all_get P made 0 b all is
accepted_holds P failing correction made Replicate b all holds is = let (j, at) = after_made tolerated made (deciding tolerated made) b is in all_get P made j b all at
accepted_holds P failing correction made (Replay limit) b all holds is = let (j, at) = replayed_made failing made (position (λ x. is_none (failing x)) made) b is in all_get P made j b all at
accepted_holds P failing correction made Abft b all holds is = tried_holds P failing correction made b all holds is
