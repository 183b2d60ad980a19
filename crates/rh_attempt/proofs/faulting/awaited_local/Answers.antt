use Rattle.std.proofs.Common.{sym, ◌∙◌, tests, rules}
use Rattle.rh_attempt.proofs.Faults.{unnamed_local}
use Rattle.rh_attempt.proofs.faulting.awaited_local.Goals as goal

pub returns-then-not-names_local : goal.returns-then-not-names_local
returns-then-not-names_local c = c.awaited.ensures ∙ unnamed_local c.args.strikes.now c.args.local c.args.words.now (sym c.names_local.ensures ∙ c.if-not-names_local.true)

pub returns : goal.returns
returns = search (tests, rules)
