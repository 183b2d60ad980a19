use Rattle.rh_report.proofs.Gathered.{gathered_none}
use Rattle.rh_report.proofs.told.Told.new.Goals as goal

pub returns : goal.returns
returns c = gathered_none c.args.nodes c.args.promises _ c.in_ok-all_failed.ensures c.in_ok-no_attempts.ensures c.in_ok-no_puts.ensures
