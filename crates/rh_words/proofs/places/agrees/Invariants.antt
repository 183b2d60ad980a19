use Rattle.std.proofs.Common.{◌≡◌, drop}
use Rattle.rh_words.specs.Places.{agrees}
use Rattle.rh_words.proofs.places.agrees.Given as goal

abbrev pub invariant-loop-place : goal.invariant-loop-place
invariant-loop-place l = agrees l.choice l.fn.words ≡ agrees (drop l.place-index l.choice) l.words
