-- A check of a declared promise is judged, where no reason of its task refuses it.
use Rattle.std.proofs.Common.{◌≡◌, ◌∙◌, ℕ, List, [], ◌∷◌, ◌++◌, Option, Some, None, cond, refl, sym, ap, subst, Result, Ok, Err}
use Rattle.std.specs.Prelude.{IfOk, unwrap_or}
use Rattle.rh_words.specs.declared.reason.OutOfMemory.{OutOfMemory}
use Rattle.rh_words.specs.declared.reason.Reason.{Reason}
use Rattle.rh_words.specs.declared.reason.Reason.TheVariants.{NoCheck}
use Rattle.rh_task_text.specs.declared.statement.Statement.{Statement}
use Rattle.rh_rules.specs.Kept.{KeptCheck}
use Rattle.rh_rules.specs.Tables.{promise_at, promise_number}
use Rattle.rh_rules.specs.Facets.{facets}
use Rattle.rh_rules.specs.Above.{asked_place, check_of, matrix_used}
use Rattle.rh_rules.specs.Rules.{is_unanswered}
use Rattle.rh_tables.specs.declared.line_use.LineUse.{LineUse}
use Rattle.rh_tables.specs.Making.{numbers_read}
use Rattle.rh_planner.specs.declared.planner.Planner.{Planner}
use Rattle.rh_planner.specs.States.{HasFacts, Judges, facts_of}
use Rattle.rh_planner.specs.Planned.{look_above}
use Rattle.rh_planner.proofs.CheckLines.{after_check, reason_asked, kept_is, task_part}

pub judges_checked : (result : Result (Option Reason) OutOfMemory) (old : Planner) (line : LineUse) (checks : List KeptCheck) (s : Statement) (q : List ℕ) (number : ℕ)
    → (facets s).checked ≡ Some q → promise_at q old.declared.promises ≡ Some number → task_part (facts_of old) q number s ≡ None
    → line.matrix.number ≡ matrix_used old.matrices.items s → line.numbers.items ≡ numbers_read old.task.locals.items s
    → IfOk result (λ a. a ≡ cond (is_unanswered old.handed s) (Some NoCheck) None)
    → IfOk result (λ a. a ≡ None → checks ≡ old.task.checks ++ check_of old.handed number ((facets s).spec (asked_place old.handed s) line.matrix.number line.numbers.items) ∷ [])
    → IfOk result (λ a. Judges old s (record old { task = record old.task { checks = checks }; line = line }) a)
judges_checked (Ok a) old line checks s q number checked at part matrix numbers reason added =
    let f = facts_of old in
    let same : number ≡ promise_number f.promises q = ap (λ (o : Option ℕ). unwrap_or o 0) (sym at) in
    record {
      reason = reason ∙ sym (reason_asked (look_above old.handed) f s q number checked at part);
      tables = λ none. subst (HasFacts (record old { task = record old.task { checks = checks }; line = line })) (sym (after_check (look_above old.handed) f s q checked)) (record {
        names = refl;
        promises = refl;
        matrices = refl;
        closed = refl;
        begun = refl;
        blocks = refl;
        count = refl;
        nodes = refl;
        inputs = refl;
        locals = refl;
        drops = refl;
        steps = refl;
        scheme = refl;
        checks = added none
            ∙ ap (λ (l : List KeptCheck). old.task.checks ++ l) (kept_is old.handed f.promises f.matrices f.locals s q number (asked_place old.handed s) line.matrix.number line.numbers.items _ _ checked same refl matrix numbers refl refl);
      });
      handed = refl;
    }
judges_checked (Err e) old line checks s q number checked at part matrix numbers reason added = tt
