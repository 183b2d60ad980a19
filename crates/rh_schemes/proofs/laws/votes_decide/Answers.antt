use Rattle.rh_schemes.proofs.Votes.{votes}
use Rattle.rh_schemes.proofs.laws.votes_decide.Goals as goal

pub returns : goal.returns
returns c = votes
