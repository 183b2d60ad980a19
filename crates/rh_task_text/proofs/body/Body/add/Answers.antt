use Rattle.std.proofs.Common.{◌≡◌, ◌++◌, ◌∷◌, [], List, sym, length, refl, subst, ◌∙◌, arith, slice_set, None, Err}
use Rattle.rh_words.specs.Refusals.{OnRefused}
use Rattle.rh_task_text.specs.declared.body.Below.{Below}
use Rattle.rh_task_text.specs.declared.statement.Item.{Item}
use Rattle.rh_task_text.specs.Blocks.{open_blocks, innermost, rows_here}
use Rattle.rh_task_text.specs.LineReadings.{SaysForm}
use Rattle.rh_task_text.specs.LineReasons.{statement_reason}
use Rattle.rh_task_text.specs.Program.{upward}
use Rattle.rh_task_text.specs.ReaderStates.{IsStateBelow, IsOverLimits, an_item}
use Rattle.rh_task_text.proofs.CountsOfLines.{rows_small, lets_small, checks_small}
use Rattle.rh_task_text.proofs.AddedStatements.{last_stated, taken_back, state_added, refused_by}
use Rattle.rh_task_text.proofs.body.Body.add.Goals as goal
use Rattle.rh_task_text.proofs.body.Body.add.Goals.{In_default, After-truncate}

pub add-requires-clause-rows : goal.add-requires-clause-rows
add-requires-clause-rows c =
    let rows = c.self.invariant.rows_are in
    let small = rows_small (upward c.self.inside.items.items) c.self.invariant.lawful in omega arith

pub add-requires-clause-lines : goal.add-requires-clause-lines
add-requires-clause-lines c =
    let lets = c.self.invariant.lets_are in
    let few_lets = lets_small (upward c.self.inside.items.items) c.self.invariant.lawful in
    let checks = c.self.invariant.checks_are in
    let few_checks = checks_small (upward c.self.inside.items.items) c.self.invariant.lawful in (omega arith, omega arith)

-- the items with the new one
stated : (c : In_default) → slice_set c.push.new.self.items c.len-at.result (an_item c.index_mut.result.now.line c.add.new.place) ≡ c.self.inside.items.items ++ an_item c.args.line c.add.new.place ∷ []
stated c =
    let at : c.len-at.result ≡ length c.self.inside.items.items = omega arith in
    last_stated c.self.inside.items.items c.push.new.self.items c.len-at.result c.args.line _ c.index_mut.result.now c.add.new.place at c.in_ok-push.ensures.items c.index_mut.ensures.value refl

-- the statement keeps its limits
limited : (c : In_default) → statement_reason (upward c.self.inside.items.items) c.add.new.place ≡ None
limited c = sym (c.in_default.ensures.within c.self.inside.items.items c.self.invariant)

pub invariant_of-self-in_default : goal.invariant_of-self-in_default
invariant_of-self-in_default c =
    let says = subst (λ (items : List Item). SaysForm (innermost (open_blocks (upward items))) (rows_here (upward items)) c.requires.says.0 c.args.head.kind c.args.values.now) (sym c.self.view_is) c.requires.says.1 in
    subst (λ (items : List Item). IsStateBelow items c.add.new.self.blocks c.add.new.self.rows c.add.new.self.lets c.add.new.self.checks) (sym (stated c))
    (state_added c.self.inside.items.items c.args.line c.add.new.place c.args.head c.requires.says.0 c.args.values.now _ _ _ _ _ _ _ _ c.self.invariant c.requires.head says c.in_default.ensures.states (limited c) c.in_default.ensures.follows)

pub returns-clause-ok : goal.returns-clause-ok
returns-clause-ok c = (
  c.add.new.place,
  c.in_default.ensures.states,
  subst (λ (items : List Item). statement_reason (upward items) c.add.new.place ≡ None) c.self.view_is (limited c),
  subst (λ (items : List Item). slice_set c.push.new.self.items c.len-at.result (an_item c.index_mut.result.now.line c.add.new.place) ≡ items ++ an_item c.args.line c.add.new.place ∷ []) c.self.view_is (stated c),
)

pub add-requires-clause-values : goal.add-requires-clause-values
add-requires-clause-values c = c.requires.says.1.fits

-- the items without the new one
back : (c : After-truncate) → c.truncate.new.self.items ≡ c.self.inside.items.items
back c =
    let at : c.len-at.result ≡ length c.self.inside.items.items = omega arith in
    c.truncate.ensures.items ∙ taken_back c.self.inside.items.items c.push.new.self.items c.len-at.result _ _ at c.in_ok-push.ensures.items

pub invariant_of-self-in-Err : goal.invariant_of-self-in-Err
invariant_of-self-in-Err c =
    let items = subst (λ (l : List Item). IsStateBelow l c.self.inside.below.blocks c.self.inside.below.rows c.self.inside.below.lets c.self.inside.below.checks) (sym (back c)) c.self.invariant in
    subst (λ (b : Below). IsStateBelow c.truncate.new.self.items b.blocks b.rows b.lets b.checks) (sym c.in-Err.ensures.err) items

pub returns-in-Err-clause-refused : goal.returns-in-Err-clause-refused
returns-in-Err-clause-refused c =
    let items = c.self.inside.items.items in
    let kind = c.args.head.kind in
    let values = c.args.values.now in
    subst (λ (l : List Item). OnRefused {X = Unit {0}} (Err c.in-Err.fault) (IsOverLimits l kind values)) c.self.view_is
    (refused_by {X = Unit {0}} (Err c.in-Err.fault) _ (IsOverLimits items kind values) (λ reason over. (c.add.new.place, over.0, sym (over.1 items c.self.invariant))) c.in-Err.ensures.refused)

pub returns-in-Err-clause-err : goal.returns-in-Err-clause-err
returns-in-Err-clause-err c = back c ∙ c.self.view_is
