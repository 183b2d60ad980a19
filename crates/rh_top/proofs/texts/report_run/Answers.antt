use Rattle.std.proofs.Common.{◌∙◌, ◌++◌, ℕ, List, ap}
use Rattle.rh_report.specs.Reports.{report_text}
use Rattle.rh_top.proofs.texts.report_run.Goals as goal

pub returns : goal.returns
returns g c =
    record {
      out = c.in_ok-failed.ensures.text ∙ ap (λ (l : List ℕ). l ++ report_text c.args.plan.now c.args.faults.now) c.new-out.ensures;
      failed = c.in_ok-failed.ensures.failed;
    }
