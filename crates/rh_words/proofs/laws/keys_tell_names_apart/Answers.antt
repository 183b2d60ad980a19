use Rattle.rh_words.proofs.Keys.{keys_equal}
use Rattle.rh_words.proofs.laws.keys_tell_names_apart.Goals as goal

pub returns : goal.returns
returns c = keys_equal
