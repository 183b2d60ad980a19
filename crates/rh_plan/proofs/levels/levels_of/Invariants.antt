use Rattle.std.proofs.Common.{◌≡◌, ◌≤◌, ℕ, List, length, map, slice_index}
use Rattle.rh_plan.specs.Derived.{levels_by}
use Rattle.rh_plan.proofs.levels.levels_of.Given as goal

-- the levels of the first n nodes: none is above their number
pub record AreLevels (sources targets levels : List ℕ) (n : ℕ) : Type 0 where
  pub value : levels ≡ levels_by sources targets n
  pub len : length levels ≡ n
  pub low : (v : ℕ) → slice_index levels v ≤ n

abbrev pub invariant-loop-node : goal.invariant-loop-node
invariant-loop-node l = AreLevels (map (λ e. e.from) l.edges) (map (λ e. e.to) l.edges) l.levels.items l.node
