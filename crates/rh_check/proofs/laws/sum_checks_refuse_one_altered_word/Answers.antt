use Rattle.rh_check.proofs.AlteredSums.{sum_checks_refuse_one_altered_word}
use Rattle.rh_check.proofs.laws.sum_checks_refuse_one_altered_word.Goals as goal

pub returns : goal.returns
returns c = sum_checks_refuse_one_altered_word
