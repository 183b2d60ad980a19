use Rattle.std.proofs.Common.{List, subst}
use Rattle.std.specs.Prelude.{OnOk, Err}
use Rattle.rh_words.specs.Text.{words_of}
use Rattle.rh_words.specs.Refusals.{OnRefused}
use Rattle.rh_task_text.specs.declared.statement.Item.{Item}
use Rattle.rh_task_text.specs.Program.{IsReason, upward}
use Rattle.rh_task_text.specs.ReaderStates.{AddsLine, AddsStatement, IsOverLimits}
use Rattle.rh_task_text.proofs.AddedStatements.{added_line, over_line, refused_by, ok_by, said_here}
use Rattle.rh_task_text.proofs.LineAnswers.{refused_line}
use Rattle.rh_task_text.proofs.reader.Reader.statement.Goals as goal

pub add-requires-clause-says : goal.add-requires-clause-says
add-requires-clause-says c =
    let words = words_of c.args.line.now in
    (words, said_here c.self.inside.body c.innermost-here.result c.rows.result words c.in-Ok.head.kind c.read_words.new.values c.as_slice.result.now c.innermost-here.ensures c.rows.ensures c.as_slice.ensures c.in-Ok.ensures.ok)

pub returns-in-Ok-clause-ok : goal.returns-in-Ok-clause-ok
returns-in-Ok-clause-ok c =
    let items = c.self.inside.body in
    let kind = c.in-Ok.head.kind in
    let values = c.as_slice.result.now in
    let words = words_of c.args.line.now in
    let says = said_here items c.innermost-here.result c.rows.result words kind c.read_words.new.values values c.innermost-here.ensures c.rows.ensures c.as_slice.ensures c.in-Ok.ensures.ok in
    subst (λ (l : List Item). OnOk c.add.result (AddsLine l c.args.number c.args.line.now c.add.new.self)) c.self.view_is
    (ok_by c.add.result (AddsStatement items kind values c.args.number c.add.new.self) (AddsLine items c.args.number c.args.line.now c.add.new.self) (added_line items c.add.new.self c.args.number c.args.line.now kind values c.requires.printable says) c.add.ensures.ok)

pub returns-in-Ok-clause-refused : goal.returns-in-Ok-clause-refused
returns-in-Ok-clause-refused c =
    let items = c.self.inside.body in
    let kind = c.in-Ok.head.kind in
    let values = c.as_slice.result.now in
    let words = words_of c.args.line.now in
    let says = said_here items c.innermost-here.result c.rows.result words kind c.read_words.new.values values c.innermost-here.ensures c.rows.ensures c.as_slice.ensures c.in-Ok.ensures.ok in
    subst (λ (l : List Item). OnRefused c.add.result (IsReason (upward l) c.args.line.now)) c.self.view_is
    (refused_by c.add.result (IsOverLimits items kind values) (IsReason (upward items) c.args.line.now) (λ reason over. over_line items c.args.line.now kind values reason c.requires.printable c.requires.says says over) c.add.ensures.refused)

pub returns-in-Err-clause-refused : goal.returns-in-Err-clause-refused
returns-in-Err-clause-refused c =
    let items = c.self.inside.body in
    subst (λ (l : List Item). OnRefused {X = Unit {0}} (Err c.in-Err.fault) (IsReason (upward l) c.args.line.now)) c.self.view_is
    (refused_by {X = Unit {0}} (Err c.in-Err.fault) _ (IsReason (upward items) c.args.line.now) (λ reason refused. refused_line (upward items) c.args.line.now c.innermost-here.result c.rows.result reason c.innermost-here.ensures c.rows.ensures c.requires.printable c.requires.says refused) c.in-Err.ensures.refused)
