use Rattle.rh_words.proofs.ShiftFloors.{asr_floor}
use Rattle.rh_words.proofs.shift_law.shifts_are_floors.Goals as goal

pub returns-clause-floor : goal.returns-clause-floor
returns-clause-floor c = asr_floor
