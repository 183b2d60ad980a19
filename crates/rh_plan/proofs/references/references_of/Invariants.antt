use Rattle.std.proofs.Common.{◌≡◌, ◌≤◌, ◌+◌, ℕ, length, slice_index, Some, take}
use Rattle.std.specs.Prelude.{slice_get, if◌then◌else◌}
use Rattle.std.specs.List.{count_by}
use Rattle.rh_rules.specs.declared.node.PlannedPromise.{PlannedPromise}
use Rattle.rh_plan.specs.Derived.{is_number, is_shown}
use Rattle.rh_plan.proofs.references.references_of.Given as goal

abbrev pub invariant-loop-edge : goal.invariant-loop-edge
invariant-loop-edge l = record {
  value : (q : ℕ) (p : PlannedPromise) → slice_get l.promises q ≡ Some p → slice_index l.counts.items q ≡ 1 + count_by (λ e. is_number q e.promise) (take l.edge-index l.edges) + (if is_shown p then 1 else 0);
  low : (q : ℕ) → slice_index l.counts.items q ≤ 2 + l.edge-index;
  len : length l.counts.items ≡ length l.promises;
}
