use Rattle.std.proofs.Common.{◌≡◌, ◌≤◌, ◌++◌, length, take}
use Rattle.rh_injector.specs.FaultTexts.{lines_text}
use Rattle.rh_injector.proofs.printing.print_lines.Given as goal

abbrev pub invariant-loop-fault : goal.invariant-loop-fault
invariant-loop-fault l = record {
  text : l.into ++ lines_text l.left ≡ l.fn.into ++ lines_text l.fn.faults;
  front : take (length l.fn.into) l.into ≡ l.fn.into;
  longer : length l.fn.into ≤ length l.into;
}

abbrev pub decreases-loop-fault : goal.decreases-loop-fault
decreases-loop-fault l = length l.left
