use Rattle.std.proofs.Common.{length}
use Rattle.rh_words.specs.Text.{words_of}
use Rattle.rh_words.specs.PlaceWalks.{IsTold}
use Rattle.rh_words.proofs.places.Told.read.Given as goal

abbrev pub invariant-loop-word : goal.invariant-loop-word
invariant-loop-word l = IsTold l.most l.fn.places (words_of l.line) l.words l.left l.self.names l.self.numbers l.self.words l.self.keeping l.self.values.items

abbrev pub decreases-loop-word : goal.decreases-loop-word
decreases-loop-word l = length l.words
