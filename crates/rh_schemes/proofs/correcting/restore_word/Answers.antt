use Rattle.rh_schemes.proofs.Restorings.{corrected_long}
use Rattle.rh_schemes.proofs.correcting.restore_word.Goals as goal

pub returns-in-Corrected-clause-long : goal.returns-in-Corrected-clause-long
returns-in-Corrected-clause-long c = corrected_long c.args.words.now c.correct.new.y _ _ c.correct.ensures.words
