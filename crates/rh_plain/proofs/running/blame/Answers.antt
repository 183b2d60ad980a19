use Rattle.std.proofs.Common.{Bool, ◌∙◌, ap}
use Rattle.rh_plan.specs.Results.{blamed}
use Rattle.rh_plain.specs.Endings.{has_opened}
use Rattle.rh_plain.proofs.running.blame.Goals as goal

pub returns : goal.returns
returns c node at =
    c.blame.ensures node at
    ∙ ap (λ (b : Bool). blamed node.group b node.awaits c.args.present.now) (c.has_opened-opened.ensures ∙ ap (has_opened c.args.verdicts.now) (c.group_of.ensures node at))
