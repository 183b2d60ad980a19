use Rattle.rh_words.proofs.places.LineValues.read.Goals as goal

pub returns-clause-short : goal.returns-clause-short
returns-clause-short c = c.read.ensures.short
