use Rattle.std.proofs.Common.{rules}
use Rattle.rh_words.proofs.lines.word_at.Goals as goal

pub returns-clause-places : goal.returns-clause-places
returns-clause-places = search rules

pub returns-clause-words : goal.returns-clause-words
returns-clause-words = search rules
