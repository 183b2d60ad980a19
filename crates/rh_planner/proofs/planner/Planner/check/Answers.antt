use Rattle.std.proofs.Common.{◌∙◌, ◌≤◌, ℕ, List, Some, None, ap, sym, refl, subst, length}
use Rattle.std.proofs.lemmas.List.{length-map}
use Rattle.std.specs.Prelude.{map, slice_index}
use Rattle.rh_words.specs.declared.limits.TheConstants.{MAX_MATRICES}
use Rattle.rh_rules.specs.declared.shape.NamedShape.{NamedShape}
use Rattle.rh_rules.specs.Tables.{lens_of, number_of}
use Rattle.rh_rules.specs.Facets.{facets}
use Rattle.rh_rules.specs.Above.{matrix_used}
use Rattle.rh_planner.specs.States.{facts_of}
use Rattle.rh_planner.specs.Planned.{look_above}
use Rattle.rh_planner.proofs.CheckLines.{reason_undeclared, reason_in_task, len_found, part_is}
use Rattle.rh_planner.proofs.Checking.{judges_checked}
use Rattle.rh_planner.proofs.Refusing.{judges_refused}
use Rattle.rh_planner.proofs.planner.Planner.check.Goals as goal

pub returns-in_default : goal.returns-in_default
returns-in_default c = judges_refused _ _ _ _ refl (reason_undeclared (look_above c.args.self.now.handed) (facts_of c.args.self.now) c.args.statement.now c.args.promise.now c.requires.checks (sym c.in_default.ensures.number))

pub returns-in-Some-2 : goal.returns-in-Some-2
returns-in-Some-2 c = judges_refused _ _ _ c.in-Some-2.reason refl
    (reason_in_task (look_above c.args.self.now.handed) (facts_of c.args.self.now) c.args.statement.now c.args.promise.now c.in-Some.number c.in-Some-2.reason c.requires.checks (sym c.in-Some.ensures.number) (part_is (facts_of c.args.self.now) c.args.promise.now c.in-Some.number c.args.statement.now _ c.deref.result.now (Some c.in-Some-2.reason) (len_found c.args.self.now.declared.promises c.promises.result.now c.args.promise.now c.in-Some.number c.index-promises-number.result (sym c.in-Some.ensures.number) c.in-Some.ensures.within c.promises.ensures) c.deref.ensures.value (sym c.in_ok-reason.ensures.reason ∙ c.in-Some-2.is)))

pub returns : goal.returns
returns c =
    let part = part_is (facts_of c.args.self.now) c.args.promise.now c.in-Some.number c.args.statement.now _ c.deref.result.now None (len_found c.args.self.now.declared.promises c.promises.result.now c.args.promise.now c.in-Some.number c.index-promises-number.result (sym c.in-Some.ensures.number) c.in-Some.ensures.within c.promises.ensures) c.deref.ensures.value (sym c.in_ok-reason.ensures.reason ∙ c.in_default-2.is) in
    let matrix = (c.in_ok-reason.ensures.matrix c.in_default-2.is).number ∙ ap (λ (l : List NamedShape). matrix_used l c.args.statement.now) c.deref.ensures.value in
    judges_checked c.add_check.result c.args.self.now c.check_reason.new.self c.add_check.new.checks c.args.statement.now c.args.promise.now c.in-Some.number c.requires.checks (sym c.in-Some.ensures.number) part matrix (c.in_ok-reason.ensures.numbers c.in_default-2.is) c.add_check.ensures.reason c.add_check.ensures.added

pub check_reason-requires : goal.check_reason-requires
check_reason-requires c = record {
  few = c.requires.room.locals;
  few_matrices = subst (λ (l : List NamedShape). length l ≤ MAX_MATRICES) (sym c.deref.ensures.value) c.requires.room.matrices;
}

pub add_check-requires : goal.add_check-requires
add_check-requires c =
    let ls = c.args.self.now.task.locals.items in
    let inputs = (facets c.args.statement.now).inputs in
    let none = c.in_default-2.is in
    let e = c.in_ok-reason.ensures in
    record {
      read = ap (λ (l : List ℕ). length l) (e.numbers none) ∙ length-map inputs (number_of ls);
      lens = ap (λ (l : List ℕ). length l) (e.lens none) ∙ length-map (map (number_of ls) inputs) (λ i. slice_index (lens_of ls) i) ∙ length-map inputs (number_of ls);
      within = c.requires.within;
      suits = e.suits none;
    }
