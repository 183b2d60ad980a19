-- The checks of a plan keep what the handed-in checks ask that they name.
use Rattle.std.proofs.Common.{◌≡◌, ℕ, List, [], ◌∷◌, ◌++◌, Option, Some, None, map, refl, sym, subst}
use Rattle.std.specs.Prelude.{option_to_list}
use Rattle.std.specs.List.{AllByRecursion}
use Rattle.rh_check.specs.declared.spec.Spec.{Spec}
use Rattle.rh_check.specs.Users.{HandedChecks, user_named}
use Rattle.rh_sparse.specs.Matrix.{MatrixData}
use Rattle.rh_task_text.specs.declared.statement.Statement.{Statement}
use Rattle.rh_task_text.specs.declared.statement.Statement.TheVariants as text
use Rattle.rh_task_text.specs.Program.{ProgramText, upward}
use Rattle.rh_rules.specs.declared.node.Node.{Node}
use Rattle.rh_rules.specs.declared.node.PlannedPromise.{PlannedPromise}
use Rattle.rh_rules.specs.Kept.{KeptCheck}
use Rattle.rh_rules.specs.Tables.{promise_number}
use Rattle.rh_rules.specs.Facets.{Turn, Opens, Closes, Stays, turn, facets}
use Rattle.rh_rules.specs.declared.block.OpenBlock.{OpenBlock}
use Rattle.rh_rules.specs.declared.block.OpenBlock.TheVariants.{TaskBlock, MatrixBlock, GroupBlock, ScopeBlock}
use Rattle.rh_rules.specs.Above.{Look, Facts, checks_above, checks_by, check_of, spec_asked, promises_above, matrices_above, locals_above, nodes_above, nodes_by, ended_node, facts_with}
use Rattle.rh_planner.specs.Planned.{look_above, IsDraftOf}
use Rattle.rh_tables.proofs.SoundTasks.{all_append}
use Rattle.rh_planner.proofs.DeclaredPromises.{all_at}
use Rattle.rh_plan.specs.Plans.{PlanData, plan_data, edges_from}
use Rattle.rh_plan.specs.Planned.{IsPlanOf}
use Rattle.rh_plan.specs.Users.{AreChecksOf}

-- the check keeps what its handed-in check asks
abbrev IsKept : Look → KeptCheck → Type 0
IsKept look c = c.user ≡ user_named look.handed.specs c.spec

abbrev AreKept : Look → List KeptCheck → Type 0
AreKept look checks = AllByRecursion (IsKept look) checks

kept_line : (look : Look) (number : List ℕ → ℕ) (spec : Spec) (o : Option (List ℕ)) → AreKept look (map (λ q. check_of look.handed (number q) spec) (option_to_list o))
kept_line look number spec None = tt
kept_line look number spec (Some q) = (refl, tt)

kept_checks : (look : Look) (above : List Statement) → AreKept look (checks_above look above)
kept_checks look [] = tt
kept_checks look (s ∷ above) = by_turn (kept_checks look above) (turn s)
  where
    by_turn : AreKept look (checks_above look above) → (t : Turn) → AreKept look (elim t [ Opens ↦ [] | Closes ↦ [] | Stays ↦ checks_above look above ++ checks_by look (promises_above above) (matrices_above above) (locals_above look above) s ])
    by_turn kept Opens = tt
    by_turn kept Closes = tt
    by_turn kept Stays = all_append (IsKept look) (checks_above look above) (checks_by look (promises_above above) (matrices_above above) (locals_above look above) s) kept
        (kept_line look (promise_number (promises_above above)) (spec_asked look.handed (matrices_above above) (locals_above look above) s) (facets s).checked)

kept_end : (look : Look) (f : Facts) (blocks : List OpenBlock) → AreKept look f.checks → AllByRecursion (λ (node : Node). AreKept look node.checks) (ended_node f blocks)
kept_end look f [] kept = tt
kept_end look f (TaskBlock name ∷ outer) kept = (kept, tt)
kept_end look f (ScopeBlock name first ∷ outer) kept = (tt, tt)
kept_end look f (GroupBlock number ∷ outer) kept = tt
kept_end look f (MatrixBlock ∷ outer) kept = tt

kept_by : (look : Look) (f : Facts) (s : Statement) → AreKept look f.checks → AllByRecursion (λ (node : Node). AreKept look node.checks) (nodes_by look f s)
kept_by look f (text.Group name awaits) kept = (tt, tt)
kept_by look f text.End kept = kept_end look f f.blocks kept
kept_by look f s kept = tt

kept_nodes : (look : Look) (above : List Statement) → AllByRecursion (λ (node : Node). AreKept look node.checks) (nodes_above look above)
kept_nodes look [] = tt
kept_nodes look (s ∷ above) = all_append (λ (node : Node). AreKept look node.checks) (nodes_above look above) (nodes_by look (facts_with look above (nodes_above look above)) s) (kept_nodes look above)
    (kept_by look (facts_with look above (nodes_above look above)) s (kept_checks look above))

pub planned_users : (handed : HandedChecks) (text : ProgramText) (plan : PlanData) → IsPlanOf handed text plan → AreChecksOf plan handed.specs
planned_users handed text plan is v node at =
    all_at (λ (n : Node). AreKept (look_above handed) n.checks) plan.nodes v node
    (subst (AllByRecursion (λ (n : Node). AreKept (look_above handed) n.checks)) (sym is.draft.nodes) (kept_nodes (look_above handed) (upward text.items))) at

pub plan_is : (handed : HandedChecks) (text : ProgramText) (ns : List Node) (ps : List PlannedPromise) (ms : List MatrixData) (plan : PlanData) → plan ≡ plan_data ns ps (edges_from ps 0 ns) ms → IsDraftOf handed text ns ps ms → IsPlanOf handed text plan
plan_is handed text ns ps ms plan is draft = subst (IsPlanOf handed text) (sym is) (record { draft = draft; whole = refl })
