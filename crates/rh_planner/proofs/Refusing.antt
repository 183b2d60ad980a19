-- A statement that is refused is judged, whatever the planner has become.
use Rattle.std.proofs.Common.{◌≡◌, Some, sym}
use Rattle.std.proofs.lemmas.Option.{none-some}
use Rattle.rh_words.specs.declared.reason.Reason.{Reason}
use Rattle.rh_task_text.specs.declared.statement.Statement.{Statement}
use Rattle.rh_rules.specs.Rules.{reason_in}
use Rattle.rh_planner.specs.declared.planner.Planner.{Planner}
use Rattle.rh_planner.specs.Planned.{look_above}
use Rattle.rh_planner.specs.States.{Judges, facts_of}

pub judges_refused : (old : Planner) (s : Statement) (new : Planner) (reason : Reason) → new.handed ≡ old.handed → reason_in (look_above old.handed) (facts_of old) s ≡ Some reason → Judges old s new (Some reason)
judges_refused old s new reason handed is = record {
  reason = sym is;
  tables = λ e. absurd (none-some reason (sym e));
  handed = handed;
}
