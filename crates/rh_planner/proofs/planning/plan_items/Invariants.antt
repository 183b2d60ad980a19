use Rattle.std.proofs.Common.{◌≡◌, take}
use Rattle.rh_task_text.specs.Program.{upward}
use Rattle.rh_rules.specs.Above.{facts_above}
use Rattle.rh_rules.specs.Rules.{AllKeep}
use Rattle.rh_planner.specs.States.{HasFacts}
use Rattle.rh_planner.specs.Planned.{look_above}
use Rattle.rh_planner.proofs.planning.plan_items.Given as goal

abbrev pub invariant-loop-item : goal.invariant-loop-item
invariant-loop-item l = record {
  handed : l.planner.handed ≡ l.fn.planner.handed;
  kept : AllKeep (look_above l.fn.planner.handed) (upward (take l.item-index l.items));
  tables : HasFacts l.planner (facts_above (look_above l.fn.planner.handed) (upward (take l.item-index l.items)));
}
