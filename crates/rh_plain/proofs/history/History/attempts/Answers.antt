use Rattle.std.proofs.Common.{◌+◌, ◌∷◌, [], ap, subst, ℕ, get_or}
use Rattle.std.proofs.lemmas.Option.{slice_get-get_or}
use Rattle.rh_plan.specs.declared.outcome.Trial.{Trial}
use Rattle.rh_plan.specs.declared.outcome.Trial.TheVariants.{Accepted}
use Rattle.rh_journal.specs.declared.event.Event.TheVariants.{Attempt}
use Rattle.rh_plain.specs.Drawing.{Draws}
use Rattle.rh_plain.proofs.Histories.{draws_attempts}
use Rattle.rh_plain.proofs.history.History.attempts.Goals as goal

pub loop-trial-preserved : goal.loop-trial-preserved
loop-trial-preserved c =
    let inv = c.loop-trial.invariant in
    let i : ℕ = c.loop-trial.trial-index in
    let trial : Trial = get_or c.args.trials.now i Accepted in (
      ap (λ (n : ℕ). n + 1) inv.0,
      draws_attempts c.args.plan.now c.args.self.now c.loop-trial.self c.draw.new.self c.args.node i c.args.trials.now trial (slice_get-get_or c.args.trials.now i Accepted c.loop-trial-test.true) inv.1
          (subst (λ (n : ℕ). Draws c.args.plan.now c.loop-trial.self c.draw.new.self (Attempt c.args.node n trial ∷ [])) inv.0 c.in_ok-draw.ensures),
    )
