use Rattle.std.proofs.Common.{◌∙◌, ◌&&◌, ap, cond, sym, Some}
use Rattle.rh_words.specs.NameKeys.{name_key, keys_eq}
use Rattle.rh_words.specs.declared.name_key.NameKey.{NameKey}
use Rattle.rh_rules.specs.declared.node.Kind.{Kind}
use Rattle.rh_rules.specs.Lawful.{is_task}
use Rattle.rh_plan.specs.FaultTables.{number_known}
use Rattle.rh_plan.proofs.task_numbers.note_task.Goals as goal

pub returns-in_ok-insert-in-Task : goal.returns-in_ok-insert-in-Task
returns-in_ok-insert-in-Task c = λ name.
    c.in_ok-insert-in-Task.ensures.updates.0 (name_key name)
    ∙ ap (λ (k : NameKey). cond (keys_eq k (name_key name)) (Some c.args.number) (number_known c.args.known.now name)) c.key.ensures
    ∙ ap (λ (k : Kind). cond (is_task k && keys_eq (name_key c.args.node.now.name) (name_key name)) (Some c.args.number) (number_known c.args.known.now name)) (sym c.in-Task.is)
