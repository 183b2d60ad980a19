use Rattle.std.proofs.Common.{◌≡◌, ◌∷◌, ◌+◌, List, take, drop, ap, ◌∙◌, sym, refl, subst, Option, None}
use Rattle.rh_words.specs.declared.reason.Reason.{Reason}
use Rattle.rh_task_text.specs.declared.statement.Statement.{Statement}
use Rattle.rh_task_text.specs.Program.{AllStand, upward}
use Rattle.rh_rules.specs.Above.{facts_above}
use Rattle.rh_rules.specs.Rules.{AllKeep}
use Rattle.rh_planner.specs.Planned.{look_above}
use Rattle.rh_planner.specs.States.{HasFacts, Judges}
use Rattle.rh_planner.proofs.Wholes.{judged_next, judged_reason, upward_next, split_at}
use Rattle.rh_planner.proofs.Ready.{stand_at, room_at, closable_at, within_at, takes_row}
use Rattle.std.proofs.lemmas.List.{take_all}
use Rattle.rh_planner.proofs.planning.plan_items.Goals as goal

pub loop-item-init : goal.loop-item-init
loop-item-init c = record { handed = refl; kept = tt; tables = c.requires.none }

pub statement-requires-clause-room : goal.statement-requires-clause-room
statement-requires-clause-room c =
    let handed = c.args.planner.now.handed in
    let items = c.items-items.result.now in
    let i = c.loop-item.item-index in
    let stand : AllStand (c.item-item.result.statement ∷ upward (take i items)) = stand_at c.args.text.now items i c.item-item.result c.items-items.ensures.lawful c.items-items.ensures.value c.loop-item-test.true c.item-item.is in
    room_at handed (upward (take i items)) c.loop-item.planner stand.1 c.loop-item.invariant.kept (c.lawful_texts_keep_their_limits.ensures.lets (upward (take i items)) stand.1) c.loop-item.invariant.tables

pub statement-requires-clause-within : goal.statement-requires-clause-within
statement-requires-clause-within c =
    let items = c.items-items.result.now in
    let i = c.loop-item.item-index in
    within_at (upward (take i items)) c.item-item.result.statement (stand_at c.args.text.now items i c.item-item.result c.items-items.ensures.lawful c.items-items.ensures.value c.loop-item-test.true c.item-item.is)

pub statement-requires-clause-closable : goal.statement-requires-clause-closable
statement-requires-clause-closable c =
    let handed = c.args.planner.now.handed in
    let items = c.items-items.result.now in
    let i = c.loop-item.item-index in
    let stand : AllStand (c.item-item.result.statement ∷ upward (take i items)) = stand_at c.args.text.now items i c.item-item.result c.items-items.ensures.lawful c.items-items.ensures.value c.loop-item-test.true c.item-item.is in
    closable_at handed c.requires.paired (upward (take i items)) c.loop-item.planner stand.1 c.loop-item.invariant.kept c.loop-item.invariant.tables

pub statement-requires-clause-row : goal.statement-requires-clause-row
statement-requires-clause-row c =
    let handed = c.args.planner.now.handed in
    let items = c.items-items.result.now in
    let i = c.loop-item.item-index in
    let s = c.item-item.result.statement in
    let stand : AllStand (s ∷ upward (take i items)) = stand_at c.args.text.now items i c.item-item.result c.items-items.ensures.lawful c.items-items.ensures.value c.loop-item-test.true c.item-item.is in
    takes_row handed (upward (take i items)) s c.loop-item.planner stand c.loop-item.invariant.kept c.loop-item.invariant.tables

pub loop-item-preserved : goal.loop-item-preserved
loop-item-preserved c =
    let handed = c.args.planner.now.handed in
    let items = c.items-items.result.now in
    let i = c.loop-item.item-index in
    let s = c.item-item.result.statement in
    let above = upward (take i items) in
    let none : c.in_ok-reason.field-0 ≡ None = cc in
    let judges : Judges c.loop-item.planner s c.statement.new.self None = subst (λ (o : Option Reason). Judges c.loop-item.planner s c.statement.new.self o) none c.in_ok-reason.ensures in
    let next : upward (take (i + 1) items) ≡ s ∷ above = upward_next items i c.item-item.result c.loop-item-test.true c.item-item.is in
    record {
      handed = judges.handed ∙ c.loop-item.invariant.handed;
      kept = subst (λ (l : List Statement). AllKeep (look_above handed) l) (sym next) (judged_reason handed above s c.loop-item.planner c.statement.new.self None c.loop-item.invariant.handed c.loop-item.invariant.tables judges, c.loop-item.invariant.kept);
      tables = subst (λ (l : List Statement). HasFacts c.statement.new.self (facts_above (look_above handed) l)) (sym next) (judged_next handed above s c.loop-item.planner c.statement.new.self c.loop-item.invariant.handed c.loop-item.invariant.tables judges);
    }

pub returns-in-Some-clause-refused : goal.returns-in-Some-clause-refused
returns-in-Some-clause-refused c =
    let handed = c.args.planner.now.handed in
    let items = c.items-items.result.now in
    let i = c.loop-item.item-index in
    let s = c.item-item.result.statement in
    let judges : Judges c.loop-item.planner s c.statement.new.self c.in_ok-reason.field-0 = c.in_ok-reason.ensures in
    record {
      before = take i items;
      item = c.item-item.result;
      after = drop (i + 1) items;
      whole = sym c.items-items.ensures.value ∙ split_at items i c.item-item.result c.loop-item-test.true c.item-item.is;
      kept = c.loop-item.invariant.kept;
      broken = judged_reason handed (upward (take i items)) s c.loop-item.planner c.statement.new.self c.in_ok-reason.field-0 c.loop-item.invariant.handed c.loop-item.invariant.tables judges ∙ c.in-Some.is;
      at = refl;
    }

pub returns-clause-kept : goal.returns-clause-kept
returns-clause-kept c =
    let whole : upward (take c.loop-item.item-index c.items-items.result.now) ≡ upward c.args.text.now.items = ap upward (take_all c.loop-item.item-index c.items-items.result.now c.loop-item-test.false ∙ c.items-items.ensures.value) in
    subst (λ (l : List Statement). AllKeep (look_above c.args.planner.now.handed) l) whole c.loop-item.invariant.kept

pub returns-clause-tables : goal.returns-clause-tables
returns-clause-tables c =
    let whole : upward (take c.loop-item.item-index c.items-items.result.now) ≡ upward c.args.text.now.items = ap upward (take_all c.loop-item.item-index c.items-items.result.now c.loop-item-test.false ∙ c.items-items.ensures.value) in
    subst (λ (l : List Statement). HasFacts c.loop-item.planner (facts_above (look_above c.args.planner.now.handed) l)) whole c.loop-item.invariant.tables
