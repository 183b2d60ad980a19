use Rattle.std.proofs.Common.{◌∙◌, ◌++◌, List, Option, ap, sym, refl}
use Rattle.std.specs.Prelude.{option_to_list}
use Rattle.rh_rules.specs.Tables.{LocalName}
use Rattle.rh_rules.specs.declared.body.Step.{Step}
use Rattle.rh_tables.proofs.Using.{local_by_use, step_by_use}
use Rattle.rh_tables.proofs.open_task.OpenTask.make.Goals as goal

pub returns : goal.returns
returns c =
    let old = c.args.self.now in
    let ms = c.args.matrices.now in
    let s = c.args.statement.now in
    let line = c.let_reason.new.self in
    let none = c.in_default.is in
    let e = c.in_ok-reason.ensures in
    record {
      reason = sym none ∙ e.reason;
      inputs = refl;
      drops = refl;
      scheme = refl;
      checks = refl;
      locals = λ _. c.in_ok-push.ensures.items ∙ ap (λ (l : List LocalName). old.locals.items ++ l) (local_by_use ms old.locals.items c.args.x s line.matrix line.lens.items c.made_len-len.result c.new.result c.requires.makes (e.matrix none) (e.lens none) c.made_len-len.ensures c.new.ensures);
      steps = λ _. c.in_ok-add_step.ensures ∙ ap (λ (o : Option Step). old.body ++ option_to_list o) (step_by_use ms old.locals.items s line.matrix line.numbers.items (e.matrix none) (e.numbers none));
    }
