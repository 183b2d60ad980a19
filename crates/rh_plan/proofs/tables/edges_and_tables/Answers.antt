use Rattle.std.proofs.Common.{◌<◌, ◌^◌, ◌∙◌, List, length, sym, subst}
use Rattle.std.specs.List.{AllByRecursion}
use Rattle.rh_plan.specs.declared.edge.Edge.{Edge}
use Rattle.rh_plan.specs.Lawful.{IsForward}
use Rattle.rh_plan.specs.Tables.{AreTables}
use Rattle.rh_plan.proofs.tables.edges_and_tables.Goals as goal

pub tables_of-requires-clause-few : goal.tables_of-requires-clause-few
tables_of-requires-clause-few c = subst (λ (l : List Edge). length l < 2 ^ 32) (sym (c.deref.ensures.value ∙ c.in_ok-edges.ensures)) c.requires.few

pub tables_of-requires-clause-forward : goal.tables_of-requires-clause-forward
tables_of-requires-clause-forward c = subst (λ (l : List Edge). AllByRecursion (IsForward (length c.args.nodes.now)) l) (sym (c.deref.ensures.value ∙ c.in_ok-edges.ensures)) c.requires.forward

pub returns-clause-tables : goal.returns-clause-tables
returns-clause-tables c = subst (λ (l : List Edge). AreTables c.args.promises.now l (length c.args.nodes.now) c.in_ok-tables.tables) (c.deref.ensures.value ∙ c.in_ok-edges.ensures) c.in_ok-tables.ensures
