-- What a contract sees of an output and of a file store.
use Rattle.std.specs.Prelude.{◌≡◌, ℕ, ◌≤◌, List, ◌++◌, Option, Some, None, ⊤, length, take}
use Rattle.std.specs.Io.KnownBytes.{Appends, Keeps}
use Rattle.rh_outside.specs.Counts.{Rose, FailureCounts}

-- an output: the bytes that it took, where it tells them, and how many of its writes failed
pub record OutputState : Type 0 where
  pub taken : Option (List ℕ)
  pub failed_writes : ℕ

-- The output took this text and no more.
abbrev pub Takes : OutputState → OutputState → List ℕ → Type 0
Takes before after text = Appends before.taken after.taken text

-- The output took nothing.
abbrev pub IsUntouched : OutputState → OutputState → Type 0
IsUntouched before after = Keeps before.taken after.taken

-- Where the bytes of an output are told, they are still told, and gained a front of these at their end.
abbrev pub AppendsFront : Option (List ℕ) → Option (List ℕ) → List ℕ → Type 0
AppendsFront None after bytes = ⊤
AppendsFront (Some taken) None bytes = ⊥
AppendsFront (Some taken) (Some now) bytes =
    (n : ℕ) × (n ≤ length bytes) × (now ≡ taken ++ take n bytes)

-- The output's count of failed writes rose, and it took a first part of this text.
pub record BreaksOff (before after : OutputState) (text : List ℕ) : Type 0 where
  pub rose : Rose before.failed_writes after.failed_writes
  pub front : AppendsFront before.taken after.taken text

-- What is told of a name: nothing, that no file has it, or the bytes of its file.
abbrev pub Told : Type 0
Told = Option (Option (List ℕ))

-- Where the name is told, a file has it, and its bytes meet P.
abbrev pub WhereTold : Told → (List ℕ → Type 0) → Type 0
WhereTold None P = ⊤
WhereTold (Some None) P = ⊥
WhereTold (Some (Some bytes)) P = P bytes

-- a file store: what it tells of each name, and how many reads and how many writes of each name failed
pub record StoreState : Type 0 where
  pub file : List ℕ → Told
  pub failed_reads : List ℕ → ℕ
  pub failed_writes : List ℕ → ℕ

-- The file of each name is told as before.
abbrev pub KeepsFiles : StoreState → StoreState → Type 0
KeepsFiles before after = (name : List ℕ) → after.file name ≡ before.file name

-- No count of failed reads or writes fell.
pub record KeepsCounts (before after : StoreState) : Type 0 where
  pub reads : (name : List ℕ) → before.failed_reads name ≤ after.failed_reads name
  pub writes : (name : List ℕ) → before.failed_writes name ≤ after.failed_writes name

-- a file store that tells of no file, and counts its failures for all names together
abbrev pub untold : FailureCounts → StoreState
untold counts = record {
  file = λ name. None;
  failed_reads = λ name. counts.failed_reads;
  failed_writes = λ name. counts.failed_writes;
}
