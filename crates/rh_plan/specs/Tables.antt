-- What a plan keeps in tables.
use Rattle.std.specs.Prelude.{ℕ, ◌≡◌, ◌+◌, List, Some, length, map, slice_get, slice_index, if◌then◌else◌}
use Rattle.std.specs.List.{count_by}
use Rattle.rh_rules.specs.declared.node.PlannedPromise.{PlannedPromise}
use Rattle.rh_plan.specs.declared.edge.Edge.{Edge}
use Rattle.rh_plan.specs.declared.tables.Tables.{Tables}
use Rattle.rh_plan.specs.Plans.{PlanData}
use Rattle.rh_plan.specs.Derived.{is_number, is_shown, levels_by}
use Rattle.rh_plan.specs.Grouping.{IsGrouping}
use Rattle.rh_plan.specs.Lawful.{IsLawfulPlan}

-- the tables of these promises and edges, among n nodes
pub record AreTables (promises : List PlannedPromise) (edges : List Edge) (n : ℕ) (tables : Tables) : Type 0 where
  pub length_references : length tables.references.items ≡ length promises
  pub references : (q : ℕ) (p : PlannedPromise) → slice_get promises q ≡ Some p → slice_index tables.references.items q ≡ 1 + count_by (λ e. is_number q e.promise) edges + (if is_shown p then 1 else 0)
  pub levels : tables.levels.items ≡ levels_by (map (λ e. e.from) edges) (map (λ e. e.to) edges) n
  pub into : IsGrouping (map (λ e. e.to) edges) n tables.into
  pub out_of : IsGrouping (map (λ e. e.from) edges) n tables.out_of

-- a lawful plan with its tables
pub record IsPlanWith (plan : PlanData) (tables : Tables) : Type 0 where
  pub lawful : IsLawfulPlan plan
  pub kept : AreTables plan.promises plan.edges (length plan.nodes) tables
