-- What else is said of a plan, by its nodes, promises and edges. The code keeps these in tables.
use Rattle.std.specs.Prelude.{ℕ, zero, suc, ◌+◌, ◌*◌, ◌==◌, ◌||◌, ◌++◌, List, [], ◌∷◌, Bool, false, not, max, if◌then◌else◌, Option, Some, None, length, map, slice_index}
use Rattle.std.specs.List.{count_by, filter, fold, range_with_len}
use Rattle.rh_rules.specs.declared.node.Node.{Node}
use Rattle.rh_rules.specs.declared.node.Kind.{Kind}
use Rattle.rh_rules.specs.declared.node.Kind.TheVariants.{Task, Group, Scope}
use Rattle.rh_rules.specs.declared.node.PlannedPromise.{PlannedPromise}
use Rattle.rh_plan.specs.Plans.{PlanData}
use Rattle.rh_plan.specs.Judging.{attempts_of}

-- the report tells the words of declared promises without `temp`
abbrev pub is_shown : PlannedPromise → Bool
is_shown p = not (p.temp || p.scope)

abbrev pub is_number : ℕ → Option ℕ → Bool
is_number q None = false
is_number q (Some p) = p == q

-- How many references a promise has: its putter's own, which it also has where no node puts it, one for each node that awaits it, and the
-- report's where it is shown.
abbrev pub references : PlanData → ℕ → PlannedPromise → ℕ
references plan q p = 1 + count_by (λ e. is_number q e.promise) plan.edges + (if is_shown p then 1 else 0)

-- the places, in ascending order, at which a number stands in a list
abbrev pub places_of : ℕ → List ℕ → List ℕ
places_of v numbers = filter (λ at. slice_index numbers at == v) (range_with_len 0 (length numbers))

-- the nodes from which the edges come, and those to which they go, by the edges' numbers
abbrev pub sources : PlanData → List ℕ
sources plan = map (λ e. e.from) plan.edges

abbrev pub targets : PlanData → List ℕ
targets plan = map (λ e. e.to) plan.edges

-- the numbers of the edges into a node, and of those out of it, in ascending order
abbrev pub edges_in : PlanData → ℕ → List ℕ
edges_in plan v = places_of v (targets plan)

abbrev pub edges_out : PlanData → ℕ → List ℕ
edges_out plan v = places_of v (sources plan)

-- 0 without edges, else one more than the greatest level of their sources
abbrev pub level_after : List ℕ → List ℕ → List ℕ → ℕ
level_after sources levels edges = fold (λ l e. max l (slice_index levels (slice_index sources e) + 1)) 0 edges

-- The levels of the first n nodes, by the sources and the targets of the edges: that of a node rests on those of lower numbers.
unfoldable pub levels_by : List ℕ → List ℕ → ℕ → List ℕ
levels_by sources targets zero = []
levels_by sources targets (suc n) = levels_by sources targets n ++ level_after sources (levels_by sources targets n) (places_of n targets) ∷ []

abbrev pub levels : PlanData → ℕ → List ℕ
levels plan n = levels_by (sources plan) (targets plan) n

-- the greatest number of attempts: none of a group or a scope
abbrev pub attempts_of_kind : Node → Kind → ℕ
attempts_of_kind node Task = attempts_of node.scheme
attempts_of_kind node Group = 0
attempts_of_kind node Scope = 0

-- how many journal entries a node may need
abbrev pub need : Node → ℕ
need node = 2 + attempts_of_kind node node.kind + length node.puts + 2 * (length node.awaits + length node.puts)
