-- When a call's status is another than its answer's.
use Rattle.std.specs.Prelude.{ℕ, ◌≡◌, ◌⊎◌}
use Rattle.rh_outside.specs.Counts.{Rose}
use Rattle.rh_outside.specs.Shelves.{MayBe}
use Rattle.rh_top.specs.Answer.{Answer, bad_words, program_refused, faults_refused, writes, IsAnswer}
use Rattle.rh_top.specs.Promise.{Call, OnCommand, ReadRose, IsTold}

-- By what the store tells of the files as the call begins, this is its answer.
abbrev pub HasAnswer : Call → Answer → Type 0
HasAnswer call a = IsAnswer call.checks (IsTold call.files) call.words a

-- By what the store tells of the files as the call begins, this may be its answer.
abbrev pub MayAnswer : Call → Answer → Type 0
MayAnswer call a = IsAnswer call.checks (MayBe call.files) call.words a

-- A read of a file that the command reads failed.
abbrev pub LostRead : Call → Type 0
LostRead call = OnCommand call (λ c. ReadRose call c)

-- A write to the output failed.
abbrev pub LostOutput : Call → Type 0
LostOutput call = Rose call.out.failed_writes call.out_after.failed_writes

-- The answer is to write.
abbrev pub IsWriting : Answer → Type 0
IsWriting bad_words = ⊥
IsWriting (program_refused r) = ⊥
IsWriting (faults_refused r) = ⊥
IsWriting (writes work) = Unit {0}

-- What stands in place of the answer's number: 7, or 5 or 6 with its cause.
abbrev pub IsExcused : Call → Answer → ℕ → Type 0
IsExcused call a n =
    (n ≡ 7)
    ⊎ (((n ≡ 5) × LostRead call)
    ⊎ (IsWriting a × (n ≡ 6) × LostOutput call))
