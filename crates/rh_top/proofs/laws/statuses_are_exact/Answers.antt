use Rattle.rh_top.proofs.Statuses.{two_is_bad, bad_is_two, told_by_number, answered, calm, unanswered}
use Rattle.rh_top.proofs.laws.statuses_are_exact.Goals as goal

pub returns-clause-bad_words : goal.returns-clause-bad_words
returns-clause-bad_words c = λ call n promise.
    (two_is_bad call n promise.status promise.numbered promise.tells, bad_is_two call n promise.status promise.numbered promise.tells)

pub returns-clause-answered : goal.returns-clause-answered
returns-clause-answered c = λ call n a promise. answered call n promise.status promise.numbered promise.tells a

pub returns-clause-calm : goal.returns-clause-calm
returns-clause-calm c = λ call n a promise has. calm call n a (answered call n promise.status promise.numbered promise.tells a has)

pub returns-clause-unanswered : goal.returns-clause-unanswered
returns-clause-unanswered c = λ call n promise. unanswered call n promise.status promise.numbered promise.tells

pub returns-clause-numbered : goal.returns-clause-numbered
returns-clause-numbered c = λ call n status promise. told_by_number call n promise.status status promise.numbered promise.tells
