use Rattle.std.proofs.Common.{rules}
use Rattle.rh_words.proofs.number.read_number.Goals as goal

pub returns-else-starts_with : goal.returns-else-starts_with
returns-else-starts_with = search rules
