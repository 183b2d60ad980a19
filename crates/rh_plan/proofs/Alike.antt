-- Results that end alike and give the same values.
use Rattle.std.proofs.Common.{◌≡◌, ℕ, Bool, true, Option, Some, refl, ap, sym, ◌∙◌, subst}
use Rattle.std.proofs.lemmas.Bool.{false≢true}
use Rattle.std.specs.Option.{option_and_then}
use Rattle.rh_plan.specs.declared.outcome.Verdict.{Verdict}
use Rattle.rh_plan.specs.declared.outcome.Verdict.TheVariants.{Accepted, Corrected, Failed, Skipped, Opened, Closed, Ended}
use Rattle.rh_plan.specs.Buffers.{BufferData, words_put}
use Rattle.rh_plan.specs.Judging.{NodeResult}
use Rattle.rh_plan.specs.Results.{ending_of, is_accepted, is_failed, is_skipped, is_opened, value_put, value_by, passes_by}
use Rattle.rh_plan.proofs.Accepting.{Accepts}

pub record AreAlike (r s : NodeResult) : Type 0 where
  pub ending : ending_of r.verdict ≡ ending_of s.verdict
  pub values : (q : ℕ) → value_by q r ≡ value_by q s

pub alike_same : (r s : NodeResult) → r ≡ s → AreAlike r s
alike_same r s same = subst (λ (x : NodeResult). AreAlike r x) same (record { ending = refl; values = λ q. refl })

accepted_ending : (v : Verdict) → is_accepted v ≡ true → ending_of v ≡ Accepted 0
accepted_ending (Accepted k) is = refl
accepted_ending (Corrected i) is = refl
accepted_ending Failed is = absurd (false≢true is)
accepted_ending (Skipped c) is = absurd (false≢true is)
accepted_ending Opened is = absurd (false≢true is)
accepted_ending (Closed c) is = absurd (false≢true is)
accepted_ending (Ended a f s) is = absurd (false≢true is)

accepted_value : (q : ℕ) (o : Option BufferData) (v : Verdict) (b : BufferData) → is_accepted v ≡ true → o ≡ Some b → value_put q o v ≡ words_put q b.puts
accepted_value q o (Accepted k) b is at = ap (λ (x : Option BufferData). option_and_then (λ c. words_put q c.puts) x) at
accepted_value q o (Corrected i) b is at = ap (λ (x : Option BufferData). option_and_then (λ c. words_put q c.puts) x) at
accepted_value q o Failed b is at = absurd (false≢true is)
accepted_value q o (Skipped c) b is at = absurd (false≢true is)
accepted_value q o Opened b is at = absurd (false≢true is)
accepted_value q o (Closed c) b is at = absurd (false≢true is)
accepted_value q o (Ended a f s) b is at = absurd (false≢true is)

-- two results that accept one buffer are alike
pub accepted_alike : (r s : NodeResult) (b : BufferData) → Accepts r b → Accepts s b → AreAlike r s
accepted_alike r s b left right = record {
  ending = accepted_ending r.verdict left.accepted ∙ sym (accepted_ending s.verdict right.accepted);
  values = λ q. accepted_value q r.accepted r.verdict b left.accepted left.buffer ∙ sym (accepted_value q s.accepted s.verdict b right.accepted right.buffer);
}

-- tests that look at the ending alone
pub is_accepted-ending : (v : Verdict) → is_accepted v ≡ is_accepted (ending_of v)
is_accepted-ending (Accepted k) = refl
is_accepted-ending (Corrected i) = refl
is_accepted-ending Failed = refl
is_accepted-ending (Skipped c) = refl
is_accepted-ending Opened = refl
is_accepted-ending (Closed c) = refl
is_accepted-ending (Ended a f s) = refl

pub is_failed-ending : (v : Verdict) → is_failed v ≡ is_failed (ending_of v)
is_failed-ending (Accepted k) = refl
is_failed-ending (Corrected i) = refl
is_failed-ending Failed = refl
is_failed-ending (Skipped c) = refl
is_failed-ending Opened = refl
is_failed-ending (Closed c) = refl
is_failed-ending (Ended a f s) = refl

pub is_skipped-ending : (v : Verdict) → is_skipped v ≡ is_skipped (ending_of v)
is_skipped-ending (Accepted k) = refl
is_skipped-ending (Corrected i) = refl
is_skipped-ending Failed = refl
is_skipped-ending (Skipped c) = refl
is_skipped-ending Opened = refl
is_skipped-ending (Closed c) = refl
is_skipped-ending (Ended a f s) = refl

pub is_opened-ending : (v : Verdict) → is_opened v ≡ is_opened (ending_of v)
is_opened-ending (Accepted k) = refl
is_opened-ending (Corrected i) = refl
is_opened-ending Failed = refl
is_opened-ending (Skipped c) = refl
is_opened-ending Opened = refl
is_opened-ending (Closed c) = refl
is_opened-ending (Ended a f s) = refl

-- such a test answers the same of results that are alike
pub passes_alike : (test : Verdict → Bool) → ((v : Verdict) → test v ≡ test (ending_of v)) → (o p : Option NodeResult) (r s : NodeResult) → o ≡ Some r → p ≡ Some s → AreAlike r s → passes_by test o ≡ passes_by test p
passes_alike test looks o p r s left right alike =
    ap (passes_by test) left ∙ looks r.verdict ∙ ap test alike.ending ∙ sym (looks s.verdict) ∙ sym (ap (passes_by test) right)
