use Rattle.std.proofs.Common.{◌≡◌, ◌≤◌, ◌++◌, length, take}
use Rattle.rh_task_text.specs.Printing.{items_text}
use Rattle.rh_task_text.proofs.printing.print_items.Given as goal

abbrev pub invariant-loop-item : goal.invariant-loop-item
invariant-loop-item l = record {
  text : l.into ++ items_text l.left ≡ l.fn.into ++ items_text l.fn.items;
  front : take (length l.fn.into) l.into ≡ l.fn.into;
  longer : length l.fn.into ≤ length l.into;
}

abbrev pub decreases-loop-item : goal.decreases-loop-item
decreases-loop-item l = length l.left
