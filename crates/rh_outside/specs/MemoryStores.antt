-- A file store in memory, and what its calls answer.
use Rattle.std.specs.Prelude.{◌≡◌, ℕ, ◌-◌, List, [], Option, Some, None, length, nat_lt, if◌then◌else◌}
use Rattle.rh_outside.specs.Counts.{CallNumbers, no_calls, is_failing, next_call, one_more}
use Rattle.rh_outside.specs.FileMap.{NamedFile, file_of, with_file, room_of}
use Rattle.rh_outside.specs.declared.shelf.ReadAnswer.{ReadAnswer}
use Rattle.rh_outside.specs.declared.shelf.ReadAnswer.TheVariants.{Ok, Failed, TooLong, OutOfMemory}
use Rattle.rh_outside.specs.declared.sink.WriteAnswer.{WriteAnswer}
use Rattle.rh_outside.specs.declared.sink.WriteAnswer.TheVariants as wrote

-- its files, the room for more, its calls, and how many reads and writes failed
pub record Store : Type 0 where
  pub files : List NamedFile
  pub room : ℕ
  pub calls : CallNumbers
  pub failed_reads : ℕ
  pub failed_writes : ℕ

-- a store of this room with no file
abbrev pub new_store : ℕ → Store
new_store room =
    record { files = []; room = room; calls = no_calls; failed_reads = 0; failed_writes = 0 }

-- a read of a file of these bytes, where memory is ample
abbrev pub length_answer : List ℕ → ℕ → ReadAnswer
length_answer bytes limit = if nat_lt limit (length bytes) then TooLong else Ok

-- a read of a file that may not be there, where memory is ample
abbrev pub file_answer : Option (List ℕ) → ℕ → ReadAnswer
file_answer None limit = Failed
file_answer (Some bytes) limit = length_answer bytes limit

-- the next call, as a read of this name, where memory is ample
abbrev pub read_answer : Store → List ℕ → ℕ → ReadAnswer
read_answer store name limit =
    if is_failing store.calls then Failed else file_answer (file_of name store.files) limit

-- A read answers as it does where memory is ample, but that want of memory may stand in place of Ok.
abbrev pub IsReadAnswer : ReadAnswer → ReadAnswer → Type 0
IsReadAnswer OutOfMemory ample = ample ≡ Ok
IsReadAnswer answer ample = answer ≡ ample

-- a count of failed reads after a read with this answer
abbrev pub failed_reads_after : ℕ → ReadAnswer → ℕ
failed_reads_after count Failed = one_more count
failed_reads_after count answer = count

-- the store after a read with this answer
abbrev pub after_read : Store → ReadAnswer → Store
after_read store answer =
    record store { calls = next_call store.calls; failed_reads = failed_reads_after store.failed_reads answer }

-- the next call, as a write of this file
abbrev pub write_answer : Store → List ℕ → List ℕ → WriteAnswer
write_answer store name bytes =
    if is_failing store.calls then wrote.Failed
    else (if nat_lt store.room (room_of name bytes) then wrote.Failed else wrote.Ok)

-- a count of failed writes after a write with this answer
abbrev pub failed_writes_after : ℕ → WriteAnswer → ℕ
failed_writes_after count wrote.Failed = one_more count
failed_writes_after count wrote.Ok = count

-- the store after a write of this file with this answer
abbrev pub after_write : Store → List ℕ → List ℕ → WriteAnswer → Store
after_write store name bytes wrote.Failed =
    record store { calls = next_call store.calls; failed_writes = one_more store.failed_writes }
after_write store name bytes wrote.Ok =
    record store { files = with_file name bytes store.files; room = store.room - room_of name bytes; calls = next_call store.calls }
