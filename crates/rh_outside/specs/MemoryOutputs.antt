-- An output in memory, and what its writes answer.
use Rattle.std.specs.Prelude.{ℕ, ◌-◌, ◌==◌, ◌&&◌, List, [], ◌++◌, length, take, min, nat_lt, if◌then◌else◌}
use Rattle.rh_outside.specs.Counts.{CallNumbers, no_calls, is_failing, next_call, one_more}
use Rattle.rh_outside.specs.declared.sink.TookAnswer.{TookAnswer}
use Rattle.rh_outside.specs.declared.sink.TookAnswer.TheVariants.{Ok, Failed}

-- the bytes that it took, the room for more, its calls, and how many writes failed
pub record Output : Type 0 where
  pub taken : List ℕ
  pub room : ℕ
  pub calls : CallNumbers
  pub failed_writes : ℕ

-- an output of this room that took nothing yet
abbrev pub new_output : ℕ → Output
new_output room = record { taken = []; room = room; calls = no_calls; failed_writes = 0 }

-- the next call, as a write of this piece: it fails where the piece is not empty and no room is left
abbrev pub took_answer : Output → List ℕ → TookAnswer
took_answer out piece =
    if is_failing out.calls then Failed
    else (if nat_lt 0 (length piece) && (out.room == 0) then Failed else Ok (min (length piece) out.room))

-- the output after a write of the piece with this answer
abbrev pub after_took : Output → List ℕ → TookAnswer → Output
after_took out piece (Ok n) =
    record out { taken = out.taken ++ take n piece; room = out.room - n; calls = next_call out.calls }
after_took out piece Failed =
    record out { calls = next_call out.calls; failed_writes = one_more out.failed_writes }
