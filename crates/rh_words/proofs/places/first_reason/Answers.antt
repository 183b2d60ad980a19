use Rattle.std.proofs.Common.{rules}
use Rattle.rh_words.proofs.places.first_reason.Goals as goal

pub returns-then-not-numbers : goal.returns-then-not-numbers
returns-then-not-numbers = search rules
