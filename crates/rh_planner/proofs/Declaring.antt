-- A line that declares a promise is judged by its name and the limits of promises.
use Rattle.std.proofs.Common.{◌≡◌, ◌∙◌, ℕ, List, [], ◌∷◌, ◌++◌, Bool, true, false, ◌||◌, Option, None, refl, sym, ap, subst, Result, Ok, Err}
use Rattle.std.specs.Prelude.{IfOk}
use Rattle.rh_words.specs.declared.reason.OutOfMemory.{OutOfMemory}
use Rattle.rh_words.specs.declared.reason.Reason.{Reason}
use Rattle.rh_task_text.specs.declared.statement.Statement.TheVariants as text
use Rattle.rh_rules.specs.Tables.{declared_promise}
use Rattle.rh_rules.specs.Facets.{facets}
use Rattle.rh_rules.specs.Above.{Look, Facts}
use Rattle.rh_rules.specs.Rules.{reason_in}
use Rattle.rh_tables.specs.Declarations.{Declarations, declarations}
use Rattle.rh_tables.specs.Making.{promise_reason}
use Rattle.rh_planner.specs.declared.planner.Planner.{Planner}
use Rattle.rh_planner.specs.Planned.{look_above}
use Rattle.rh_planner.specs.States.{HasFacts, Judges, facts_of}
use Rattle.rh_planner.proofs.After.{after_promise}

or_false : (b : Bool) → (b || false) ≡ b
or_false true = refl
or_false false = refl

pub reason_promise : (look : Look) (f : Facts) (name : List ℕ) (len : ℕ) (temp : Bool) → reason_in look f (text.Promise name len temp) ≡ promise_reason f.names f.promises (declared_promise name len temp false)
unfolding facets
reason_promise look f name len temp = simp or_false

-- a scope has a promise of three words
pub reason_finish : (look : Look) (f : Facts) (name : List ℕ) → reason_in look f (text.Finish name) ≡ promise_reason f.names f.promises (declared_promise name 3 false true)
unfolding facets
reason_finish look f name = simp or_false

pub judges_promise : (result : Result (Option Reason) OutOfMemory) (old : Planner) (declared : Declarations) (name : List ℕ) (len : ℕ) (temp : Bool)
    → IfOk result (λ a. a ≡ promise_reason old.declared.names old.declared.promises (declared_promise name len temp false))
    → IfOk result (λ a. a ≡ None → declared ≡ declarations (old.declared.names ++ name ∷ []) (old.declared.promises ++ declared_promise name len temp false ∷ []))
    → IfOk result (λ a. Judges old (text.Promise name len temp) (record old { declared = declared }) a)
judges_promise (Ok a) old declared name len temp reason added = record {
  reason = reason ∙ sym (reason_promise (look_above old.handed) (facts_of old) name len temp);
  tables = λ none. subst (HasFacts (record old { declared = declared })) (sym (after_promise (look_above old.handed) (facts_of old) name len temp)) (record {
    names = ap (λ (t : Declarations). t.names) (added none);
    promises = ap (λ (t : Declarations). t.promises) (added none);
    matrices = refl;
    closed = refl;
    begun = refl;
    blocks = refl;
    count = refl;
    nodes = refl;
    inputs = refl;
    locals = refl;
    drops = refl;
    steps = refl;
    scheme = refl;
    checks = refl;
  });
  handed = refl;
}
judges_promise (Err e) old declared name len temp reason added = tt
