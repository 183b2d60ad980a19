use Rattle.std.proofs.Common.{sym, subst}
use Rattle.std.specs.Option.{option_map}
use Rattle.rh_outside.specs.Shelves.{MayBe}
use Rattle.rh_check.specs.Users.{handed_checks}
use Rattle.rh_top.specs.FileCommand.{command_data}
use Rattle.rh_top.specs.Answer.{Source, program_of, IsTextOf}
use Rattle.rh_top.proofs.RunSteps.{runs_command}
use Rattle.rh_top.proofs.texts.compose.Goals as goal

pub returns-clause-texts : goal.returns-clause-texts
returns-clause-texts g c =
    let before = g.S.Shelf.state c.args.files.now in
    let (bytes, may, is) = c.in_ok-plan.ensures.plan in
    let there : IsTextOf (MayBe before) (program_of (command_data c.args.command.now)) bytes = subst (λ (s : Source). IsTextOf (MayBe before) s bytes) (sym c.program.ensures) may in
    runs_command (handed_checks (g.C.Checks.names c.args.checks.now) (g.C.Checks.specs c.args.checks.now)) before (g.S.Shelf.state c.load_plan.new.files) (g.S.Shelf.state c.run_under.new.files) (command_data c.args.command.now)
    c.in_ok-plan.plan (option_map (λ f. f.now) c.faults.result) c.run_under.result c.in_ok-plan.ensures.files c.in_ok-plan.ensures.counts (bytes, there, is) c.faults.ensures c.run_under.ensures.texts
