use Rattle.rh_journal.proofs.OneThread.{one_thread_tells}
use Rattle.rh_journal.proofs.laws.one_thread_tells.Goals as goal

pub returns : goal.returns
returns c = one_thread_tells
