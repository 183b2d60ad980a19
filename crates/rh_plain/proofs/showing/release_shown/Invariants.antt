use Rattle.std.proofs.Common.{None, ℕ, List, map, take}
use Rattle.rh_journal.specs.declared.event.Event.TheVariants.{Release}
use Rattle.rh_plain.specs.Drawing.{Draws}
use Rattle.rh_plain.proofs.showing.release_shown.Given as goal

abbrev pub invariant-loop-pair : goal.invariant-loop-pair
invariant-loop-pair l = Draws l.plan l.initial.history l.history (map (λ (p : ℕ × List ℕ). Release p.0 None) (take l.pair-index l.pairs))
