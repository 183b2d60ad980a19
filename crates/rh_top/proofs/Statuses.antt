-- The status of a call by its answer.
use Rattle.std.proofs.Common.{◌≡◌, ◌⊎◌, ℕ, ◌==◌, Bool, cond, refl, sym, ◌∙◌, ap, subst, inl, inr}
use Rattle.std.specs.Prelude.{if◌then◌else◌}
use Rattle.rh_top.specs.declared.status.Status.{Status}
use Rattle.rh_top.specs.declared.status.Status.TheVariants.{Done, TaskFailed, BadWords, ProgramRefused, FaultsRefused, StoreFailed, OutputFailed, OutOfMemory}
use Rattle.rh_top.specs.Command.{IsBadWords}
use Rattle.rh_top.specs.Answer.{Answer, bad_words, program_refused, faults_refused, writes}
use Rattle.rh_top.specs.Promise.{Call, Tells, status_number, answer_number}
use Rattle.rh_top.specs.Excuses.{HasAnswer, MayAnswer, LostRead, LostOutput, IsWriting, IsExcused}
use Rattle.rh_top.proofs.OneAnswer.{one_answer, bad_or_command}

-- the number of a call that finishes
abbrev finished_number : Bool → ℕ
finished_number some_failed = (if some_failed then 1 else 0)

-- what a call that tells this comes to
pub answered : (call : Call) (n : ℕ) (status : Status) → n ≡ status_number status → Tells call status → (a : Answer) → HasAnswer call a → (n ≡ answer_number a) ⊎ IsExcused call a n
answered call n Done e (c, named, fin) a is =
    inl (e ∙ ap finished_number (sym fin.failed) ∙ sym (ap answer_number (one_answer call.checks call.files call.words a (writes fin.work) is (c, named, fin.gives))))
answered call n TaskFailed e (c, named, fin) a is =
    inl (e ∙ ap finished_number (sym fin.failed) ∙ sym (ap answer_number (one_answer call.checks call.files call.words a (writes fin.work) is (c, named, fin.gives))))
answered call n BadWords e tells a is = inl (e ∙ sym (ap answer_number (one_answer call.checks call.files call.words a bad_words is tells.0)))
answered call n ProgramRefused e (r, (c, named, gives), says) a is =
    inl (e ∙ sym (ap answer_number (one_answer call.checks call.files call.words a (program_refused r) is (c, named, gives))))
answered call n FaultsRefused e (r, (c, named, gives), says) a is =
    inl (e ∙ sym (ap answer_number (one_answer call.checks call.files call.words a (faults_refused r) is (c, named, gives))))
answered call n StoreFailed e tells a is = inr (inr (inl (e, tells.0)))
answered call n OutputFailed e (c, named, broke) a is =
    let same = one_answer call.checks call.files call.words a (writes broke.work) is (c, named, broke.gives) in
    inr (inr (inr (subst IsWriting (sym same) tt, e, broke.out.rose)))
answered call n OutOfMemory e tells a is = inr (inl e)

-- where no count rose the status is the answer's or 7
pub calm : (call : Call) (n : ℕ) (a : Answer) → (n ≡ answer_number a) ⊎ IsExcused call a n → (LostRead call → ⊥) → (LostOutput call → ⊥) → (n ≡ answer_number a) ⊎ (n ≡ 7)
calm call n a (inl is) read out = inl is
calm call n a (inr (inl seven)) read out = inr seven
calm call n a (inr (inr (inl lost))) read out = absurd (read lost.1)
calm call n a (inr (inr (inr lost))) read out = absurd (out lost.2)

-- where nothing may be the answer the status is 5 or 7
pub unanswered : (call : Call) (n : ℕ) (status : Status) → n ≡ status_number status → Tells call status → ((a : Answer) → MayAnswer call a → ⊥) → ((n ≡ 5) × LostRead call) ⊎ (n ≡ 7)
unanswered call n Done e (c, named, fin) none = absurd (none (writes fin.work) (c, named, fin.gives))
unanswered call n TaskFailed e (c, named, fin) none = absurd (none (writes fin.work) (c, named, fin.gives))
unanswered call n BadWords e tells none = absurd (none bad_words tells.0)
unanswered call n ProgramRefused e (r, (c, named, gives), says) none = absurd (none (program_refused r) (c, named, gives))
unanswered call n FaultsRefused e (r, (c, named, gives), says) none = absurd (none (faults_refused r) (c, named, gives))
unanswered call n StoreFailed e tells none = inl (e, tells.0)
unanswered call n OutputFailed e (c, named, broke) none = absurd (none (writes broke.work) (c, named, broke.gives))
unanswered call n OutOfMemory e tells none = inr e

-- 2 comes only for bad words
pub two_is_bad : (call : Call) (n : ℕ) (status : Status) → n ≡ status_number status → Tells call status → n ≡ 2 → IsBadWords call.words
two_is_bad call n BadWords e tells two = tells.0
two_is_bad call n Done e tells two = absurd (cc (e, two))
two_is_bad call n TaskFailed e tells two = absurd (cc (e, two))
two_is_bad call n ProgramRefused e tells two = absurd (cc (e, two))
two_is_bad call n FaultsRefused e tells two = absurd (cc (e, two))
two_is_bad call n StoreFailed e tells two = absurd (cc (e, two))
two_is_bad call n OutputFailed e tells two = absurd (cc (e, two))
two_is_bad call n OutOfMemory e tells two = absurd (cc (e, two))

-- and always for them
pub bad_is_two : (call : Call) (n : ℕ) (status : Status) → n ≡ status_number status → Tells call status → IsBadWords call.words → n ≡ 2
bad_is_two call n BadWords e tells bad = e
bad_is_two call n Done e (c, named, fin) bad = absurd (bad_or_command call.words c bad named)
bad_is_two call n TaskFailed e (c, named, fin) bad = absurd (bad_or_command call.words c bad named)
bad_is_two call n FaultsRefused e (r, (c, named, gives), says) bad = absurd (bad_or_command call.words c bad named)
bad_is_two call n ProgramRefused e (r, (c, named, gives), says) bad = absurd (bad_or_command call.words c bad named)
bad_is_two call n StoreFailed e ((c, named, rose), says) bad = absurd (bad_or_command call.words c bad named)
bad_is_two call n OutputFailed e (c, named, broke) bad = absurd (bad_or_command call.words c bad named)
bad_is_two call n OutOfMemory e ((c, named), says) bad = absurd (bad_or_command call.words c bad named)

-- the status of a number
status_of : ℕ → Status
status_of n =
    cond (n == 0) Done (cond (n == 1) TaskFailed (cond (n == 2) BadWords (cond (n == 3) ProgramRefused
    (cond (n == 4) FaultsRefused (cond (n == 5) StoreFailed (cond (n == 6) OutputFailed OutOfMemory))))))

status_of-number : (status : Status) → status_of (status_number status) ≡ status
unfolding status_of
status_of-number Done = refl
status_of-number TaskFailed = refl
status_of-number BadWords = refl
status_of-number ProgramRefused = refl
status_of-number FaultsRefused = refl
status_of-number StoreFailed = refl
status_of-number OutputFailed = refl
status_of-number OutOfMemory = refl

-- what a status tells is told by its number
pub told_by_number : (call : Call) (n : ℕ) (status other : Status) → n ≡ status_number status → Tells call status → n ≡ status_number other → Tells call other
told_by_number call n status other e tells is =
    subst (λ (s : Status). Tells call s) (sym (status_of-number status) ∙ ap status_of (sym e ∙ is) ∙ status_of-number other) tells
