-- No reason means that each rule is kept.
use Rattle.std.proofs.Common.{◌≡◌, Bool, true, false, Option, Some, None, cond, refl, sym}
use Rattle.std.proofs.lemmas.Option.{none-some}
use Rattle.rh_words.specs.declared.reason.Reason.{Reason}
use Rattle.rh_task_text.specs.declared.statement.Statement.{Statement}
use Rattle.rh_rules.specs.Above.{Look, Facts}
use Rattle.rh_rules.specs.Rules.{reason_in, is_twice, is_unknown, is_early, is_owned, is_misfit, is_misschemed, is_after_drop, is_over, is_unanswered}

-- the statement breaks no rule, rule by rule
pub record Keeps (look : Look) (f : Facts) (s : Statement) : Type 0 where
  pub once : is_twice f s ≡ false
  pub known : is_unknown look f s ≡ false
  pub in_order : is_early look f s ≡ false
  pub unowned : is_owned f s ≡ false
  pub fitting : is_misfit f s ≡ false
  pub schemed : is_misschemed f s ≡ false
  pub held : is_after_drop f s ≡ false
  pub within : is_over f s ≡ false
  pub answered : is_unanswered look.handed s ≡ false

-- where a choice of a reason is none, its test is false and the rest is none
no_reason : (t : Bool) (r : Reason) (rest : Option Reason) → cond t (Some r) rest ≡ None → (t ≡ false) × (rest ≡ None)
no_reason true r rest e = absurd (none-some r (sym e))
no_reason false r rest e = (refl, e)

pub keeps : (look : Look) (f : Facts) (s : Statement) → reason_in look f s ≡ None → Keeps look f s
keeps look f s e =
    let (once, e1) = no_reason (is_twice f s) _ _ e in
    let (known, e2) = no_reason (is_unknown look f s) _ _ e1 in
    let (in_order, e3) = no_reason (is_early look f s) _ _ e2 in
    let (unowned, e4) = no_reason (is_owned f s) _ _ e3 in
    let (fitting, e5) = no_reason (is_misfit f s) _ _ e4 in
    let (schemed, e6) = no_reason (is_misschemed f s) _ _ e5 in
    let (held, e7) = no_reason (is_after_drop f s) _ _ e6 in
    let (within, e8) = no_reason (is_over f s) _ _ e7 in
    let (answered, e9) = no_reason (is_unanswered look.handed s) _ _ e8 in
    record { once = once; known = known; in_order = in_order; unowned = unowned; fitting = fitting; schemed = schemed; held = held; within = within; answered = answered }
