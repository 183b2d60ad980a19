use Rattle.std.proofs.Common.{◌≡◌, Some, length, map, take}
use Rattle.rh_journal.specs.declared.event.Event.TheVariants.{Release}
use Rattle.rh_plain.specs.Drawing.{Draws}
use Rattle.rh_plain.specs.Holding.{KeepsWords}
use Rattle.rh_plain.proofs.putting.release_all.Given as goal

abbrev pub invariant-loop-promise : goal.invariant-loop-promise
invariant-loop-promise l = record {
  drawn : Draws l.plan l.initial.history l.history (map (λ q. Release q (Some l.node)) (take l.promise-index l.promises));
  kept : KeepsWords l.plan l.initial.history l.initial.values l.values (map (λ q. Release q (Some l.node)) (take l.promise-index l.promises));
  sized : length l.values ≡ length l.initial.values;
}
