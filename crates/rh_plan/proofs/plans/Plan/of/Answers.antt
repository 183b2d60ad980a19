use Rattle.std.proofs.Common.{◌≡◌, ◌<◌, ◌^◌, ◌∙◌, List, length, ap, sym, subst}
use Rattle.std.specs.List.{AllByRecursion}
use Rattle.rh_sparse.specs.Matrix.{MatrixData}
use Rattle.rh_rules.specs.declared.node.Node.{Node}
use Rattle.rh_rules.specs.declared.node.PlannedPromise.{PlannedPromise}
use Rattle.rh_rules.specs.Bodies.{shapes_of}
use Rattle.rh_rules.specs.Lawful.{AreLawful}
use Rattle.rh_plan.specs.declared.edge.Edge.{Edge}
use Rattle.rh_plan.specs.declared.tables.Tables.{Tables}
use Rattle.rh_plan.specs.Lawful.{IsForward}
use Rattle.rh_plan.specs.Plans.{edges_from, plan_data}
use Rattle.rh_plan.specs.Tables.{AreTables, IsPlanWith}
use Rattle.rh_plan.proofs.EdgesRise.{edges_rise, edges_few}
use Rattle.rh_plan.proofs.plans.Plan.of.Goals as goal

-- the plan of these nodes and promises, whose edges and tables are made from slices of them
plan_with : (matrices : List MatrixData) (nodes ns : List Node) (promises ps : List PlannedPromise) (edges : List Edge) (tables : Tables) → ns ≡ nodes → ps ≡ promises → AreLawful (shapes_of matrices) nodes promises → edges ≡ edges_from ps 0 ns → AreTables ps (edges_from ps 0 ns) (length ns) tables
    → IsPlanWith (plan_data nodes promises edges matrices) tables
plan_with matrices nodes ns promises ps edges tables same_nodes same_promises lawful is kept =
    let made : edges ≡ edges_from promises 0 nodes = is ∙ ap (λ (l : List PlannedPromise). edges_from l 0 ns) same_promises ∙ ap (edges_from promises 0) same_nodes in
    let by_promises = subst (λ (l : List PlannedPromise). AreTables l (edges_from l 0 ns) (length ns) tables) same_promises kept in
    let by_nodes = subst (λ (l : List Node). AreTables promises (edges_from promises 0 l) (length l) tables) same_nodes by_promises in
    record {
      lawful = record {
        parts = lawful;
        edges = made;
        forward = subst (λ (l : List Edge). AllByRecursion (IsForward (length nodes)) l) (sym made) (edges_rise (shapes_of matrices) nodes promises lawful);
        few_edges = subst (λ (l : List Edge). length l < 2 ^ 32) (sym made) (edges_few (shapes_of matrices) nodes promises lawful);
      };
      kept = subst (λ (l : List Edge). AreTables promises l (length nodes) tables) (sym made) by_nodes;
    }

pub edges_and_tables-requires-clause-few : goal.edges_and_tables-requires-clause-few
edges_and_tables-requires-clause-few c =
    subst (λ (l : List PlannedPromise). length (edges_from l 0 c.deref-2.result.now) < 2 ^ 32) (sym c.deref.ensures.value)
    (subst (λ (l : List Node). length (edges_from c.args.promises.items 0 l) < 2 ^ 32) (sym c.deref-2.ensures.value) (edges_few (shapes_of c.args.matrices) c.args.nodes.items c.args.promises.items c.requires))

pub edges_and_tables-requires-clause-forward : goal.edges_and_tables-requires-clause-forward
edges_and_tables-requires-clause-forward c =
    subst (λ (l : List PlannedPromise). AllByRecursion (IsForward (length c.deref-2.result.now)) (edges_from l 0 c.deref-2.result.now)) (sym c.deref.ensures.value)
    (subst (λ (l : List Node). AllByRecursion (IsForward (length l)) (edges_from c.args.promises.items 0 l)) (sym c.deref-2.ensures.value) (edges_rise (shapes_of c.args.matrices) c.args.nodes.items c.args.promises.items c.requires))

pub invariant_of-result : goal.invariant_of-result
invariant_of-result c =
    plan_with c.args.matrices c.args.nodes.items c.deref-2.result.now c.args.promises.items c.deref.result.now c.in_ok-edges.edges.items c.in_ok-edges.tables c.deref-2.ensures.value c.deref.ensures.value c.requires c.in_ok-edges.ensures.edges c.in_ok-edges.ensures.tables
