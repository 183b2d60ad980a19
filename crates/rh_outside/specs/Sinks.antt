-- What a write to an output answers.
use Rattle.std.specs.Prelude.{◌≡◌, ℕ, ◌<◌, ◌≤◌, List, length, take}
use Rattle.rh_outside.specs.Counts.{one_more, Rose}
use Rattle.rh_outside.specs.States.{OutputState, Takes, IsUntouched}
use Rattle.rh_outside.specs.declared.sink.TookAnswer.{TookAnswer}
use Rattle.rh_outside.specs.declared.sink.TookAnswer.TheVariants.{Ok, Failed}

-- The output took so many bytes from the front of the piece, at least one where it has any.
pub record TakesFront (before after : OutputState) (piece : List ℕ) (count : ℕ) : Type 0 where
  pub within : count ≤ length piece
  pub some : 0 < length piece → 0 < count
  pub taken : Takes before after (take count piece)

-- A write of this piece gave this answer.
abbrev pub TakesPiece : OutputState → OutputState → List ℕ → TookAnswer → Type 0
TakesPiece before after piece (Ok count) = TakesFront before after piece count
TakesPiece before after piece Failed =
    Rose before.failed_writes after.failed_writes × IsUntouched before after

-- The count of failed writes rose by one where the write failed, and else stayed.
abbrev pub CountsFailure : OutputState → OutputState → TookAnswer → Type 0
CountsFailure before after (Ok count) = after.failed_writes ≡ before.failed_writes
CountsFailure before after Failed = after.failed_writes ≡ one_more before.failed_writes
