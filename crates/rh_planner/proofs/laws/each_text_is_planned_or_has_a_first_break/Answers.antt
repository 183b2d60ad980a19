use Rattle.std.proofs.Common.{refl, inl, inr}
use Rattle.rh_task_text.specs.Program.{upward}
use Rattle.rh_rules.specs.Above.{promises_above, closed_above, nodes_above}
use Rattle.rh_planner.specs.Planned.{look_above}
use Rattle.rh_planner.proofs.Breaking.{kept_or_broken}
use Rattle.rh_planner.proofs.laws.each_text_is_planned_or_has_a_first_break.Goals as goal

pub returns : goal.returns
returns c = λ handed text. elim (kept_or_broken handed text) [
  | inl kept ↦ inl (nodes_above (look_above handed) (upward text.items), promises_above (upward text.items), closed_above (upward text.items), record { kept = kept; nodes = refl; promises = refl; matrices = refl })
  | inr break ↦ inr break
]
