use Rattle.std.proofs.Common.{◌≡◌, ◌∙◌, false, rules}
use Rattle.rh_rules.specs.Above.{numbers_used, lens_used}
use Rattle.rh_tables.specs.Making.{IsNamed, uses_unknown}
use Rattle.rh_tables.proofs.Using.{put_by_use}
use Rattle.rh_tables.proofs.line_use.LineUse.put_reason.Goals as goal

pub returns-clause-reason : goal.returns-clause-reason
returns-clause-reason c =
    let ms = c.args.matrices.now in
    let ls = c.args.task.now.locals.items in
    let s = c.args.statement.now in
    let known : uses_unknown ms ls s ≡ false = search rules in
    let named : IsNamed ms s c.look_up.new.self.matrix = search rules in
    let numbers : c.look_up.new.self.numbers.items ≡ numbers_used ls s = search rules in
    let lens : c.look_up.new.self.lens.items ≡ lens_used ls s = search rules in
    c.put_use_reason.ensures.reason ∙ put_by_use c.args.promise.now ms ls c.args.task.now.drops.items s c.look_up.new.self.matrix c.look_up.new.self.numbers.items c.look_up.new.self.lens.items known named numbers lens
