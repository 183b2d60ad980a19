use Rattle.std.proofs.Common.{◌≡◌, ◌∙◌, false, true, length, rules}
use Rattle.std.specs.Prelude.{◌||◌}
use Rattle.rh_rules.specs.Tables.{is_in}
use Rattle.rh_rules.specs.Above.{lens_read}
use Rattle.rh_rules.specs.Bodies.{promises_put}
use Rattle.rh_tables.specs.Making.{IsNamed, reads_unknown, names_no_matrix, numbers_read}
use Rattle.rh_tables.proofs.Reading.{check_by_use}
use Rattle.rh_tables.proofs.line_use.LineUse.check_reason.Goals as goal

pub returns-clause-reason : goal.returns-clause-reason
returns-clause-reason c =
    let ms = c.args.matrices.now in
    let t = c.args.task.now in
    let ls = t.locals.items in
    let s = c.args.statement.now in
    let put : is_in c.args.promise (promises_put t.body) ≡ true = search rules in
    let known : (reads_unknown (length t.inputs) ls s || names_no_matrix ms s) ≡ false = search rules in
    let named : IsNamed ms s c.look_up_inputs.new.self.matrix = search rules in
    let numbers : c.look_up_inputs.new.self.numbers.items ≡ numbers_read ls s = search rules in
    let lens : c.look_up_inputs.new.self.lens.items ≡ lens_read ls s = search rules in
    c.check_use_reason.ensures.reason ∙ check_by_use c.args.promise c.args.len t.body t.scheme t.checks (length t.inputs) ms ls t.drops.items s c.look_up_inputs.new.self.matrix c.look_up_inputs.new.self.numbers.items c.look_up_inputs.new.self.lens.items put known named numbers lens
