-- What the calls of a file store answer.
use Rattle.std.specs.Prelude.{◌≡◌, ◌≢◌, ℕ, ◌<◌, ◌≤◌, List, [], Some, length}
use Rattle.rh_outside.specs.Counts.{Rose}
use Rattle.rh_outside.specs.States.{StoreState, WhereTold}
use Rattle.rh_outside.specs.declared.shelf.ReadAnswer.{ReadAnswer}
use Rattle.rh_outside.specs.declared.shelf.ReadAnswer.TheVariants.{Ok, Failed, TooLong, OutOfMemory}
use Rattle.rh_outside.specs.declared.sink.WriteAnswer.{WriteAnswer}
use Rattle.rh_outside.specs.declared.sink.WriteAnswer.TheVariants as wrote

-- The file of this name may have these bytes: they are the told ones, where the store tells of it.
abbrev pub MayBe : StoreState → List ℕ → List ℕ → Type 0
MayBe files name bytes = WhereTold (files.file name) (λ told. told ≡ bytes)

-- A read of this name, where its file has at most so many bytes, gave these bytes and this answer.
abbrev pub Reads : StoreState → StoreState → List ℕ → ℕ → List ℕ → ReadAnswer → Type 0
Reads before after name limit bytes Ok = MayBe before name bytes × (length bytes ≤ limit)
Reads before after name limit bytes Failed =
    Rose (before.failed_reads name) (after.failed_reads name) × (bytes ≡ [])
Reads before after name limit bytes TooLong =
    WhereTold (before.file name) (λ told. limit < length told) × (bytes ≡ [])
Reads before after name limit bytes OutOfMemory =
    ((told : List ℕ) → before.file name ≡ Some (Some told) → length told ≤ limit) × (bytes ≡ [])

-- A write of these bytes to the file of this name gave this answer.
abbrev pub Writes : StoreState → StoreState → List ℕ → List ℕ → WriteAnswer → Type 0
Writes before after name bytes wrote.Ok = MayBe after name bytes
Writes before after name bytes wrote.Failed =
    Rose (before.failed_writes name) (after.failed_writes name)

-- Every file but that of this name is told as before.
abbrev pub KeepsOthers : StoreState → StoreState → List ℕ → Type 0
KeepsOthers before after name = (n : List ℕ) → n ≢ name → after.file n ≡ before.file n
