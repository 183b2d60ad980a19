use Rattle.std.proofs.Common.{List, ℕ, drop, sym, ap, ◌∙◌}
use Rattle.rh_words.specs.Places.{agrees}
use Rattle.rh_words.proofs.ToldWords.{agrees_nothing}
use Rattle.rh_words.proofs.places.agrees.Goals as goal

pub returns-in_default : goal.returns-in_default
returns-in_default c = sym (c.loop-place.invariant ∙ ap (λ (ws : List (List ℕ)). agrees (drop c.loop-place.place-index c.args.choice.now) ws) c.in_default.ensures.0 ∙ agrees_nothing (drop c.loop-place.place-index c.args.choice.now))
