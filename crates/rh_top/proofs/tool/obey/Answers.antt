use Rattle.std.proofs.Common.{map, Global, rules}
use Rattle.std.specs.String.{string_bytes}
use Rattle.rh_outside.specs.States.{IsUntouched}
use Rattle.rh_check.specs.Users.{handed_checks}
use Rattle.rh_top.specs.Promise.{Call, call_of}
use Rattle.rh_top.specs.FileCommand.{command_data}
use Rattle.rh_top.proofs.CallEnds.{stopped, delivered}
use Rattle.rh_top.proofs.tool.obey.Goals as goal

pub returns-in-Ok : goal.returns-in-Ok
returns-in-Ok g c =
    let call : Call =
    call_of (map (string_bytes {Z = Global}) c.args.words.now) (handed_checks (g.C.Checks.names c.args.checks.now) (g.C.Checks.specs c.args.checks.now))
    (g.S.Shelf.state c.args.files.now) (g.S.Shelf.state c.compose.new.files)
    (g.O.Sink.state c.args.out.now) (g.O.Sink.state c.deliver.new.out)
    (g.E.Sink.state c.args.err.now) (g.E.Sink.state c.deliver.new.err) in
    delivered call (command_data c.in-Some.command) c.in-Some.ensures c.compose.ensures.files c.in-Ok.texts c.in-Ok.ensures.texts c.deliver.result c.deliver.ensures

pub returns-in-Err : goal.returns-in-Err
returns-in-Err g c =
    let call : Call =
    call_of (map (string_bytes {Z = Global}) c.args.words.now) (handed_checks (g.C.Checks.names c.args.checks.now) (g.C.Checks.specs c.args.checks.now))
    (g.S.Shelf.state c.args.files.now) (g.S.Shelf.state c.compose.new.files)
    (g.O.Sink.state c.args.out.now) (g.O.Sink.state c.args.out.now)
    (g.E.Sink.state c.args.err.now) (g.E.Sink.state c.tell.new.err) in
    let untouched : IsUntouched call.out call.out_after = search rules in
    stopped call (command_data c.in-Some.command) c.in-Some.ensures c.compose.ensures.files untouched c.in-Err.stop c.tell.result c.in-Err.ensures.texts c.tell.ensures
