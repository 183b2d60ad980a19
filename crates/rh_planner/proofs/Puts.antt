-- What a `put` adds to the facts above, and why it is refused.
use Rattle.std.proofs.Common.{◌≡◌, ℕ, ◌+◌, List, [], ◌∷◌, ◌++◌, Bool, Option, Some, None, true, false, ◌||◌, refl, arith, append-nil, ap, ◌∙◌, subst}
use Rattle.std.specs.Prelude.{is_some, cond, not, slice_index, ◌==◌}
use Rattle.std.specs.Prelude.{unwrap_or}
use Rattle.std.specs.Option.{option_map}
use Rattle.std.proofs.lemmas.Bool.{false≢true}
use Rattle.std.proofs.lemmas.Option.{none-some}
use Rattle.rh_words.specs.declared.reason.Reason.{Reason}
use Rattle.rh_words.specs.declared.reason.Reason.TheVariants as reasons
use Rattle.rh_task_text.specs.declared.statement.Statement.{Statement}
use Rattle.rh_task_text.specs.declared.statement.Statement.TheVariants as text
use Rattle.rh_rules.specs.declared.node.PlannedPromise.{PlannedPromise}
use Rattle.rh_rules.specs.Tables.{if_any, putting, promise_at, promise_named, is_promise, is_own, is_put, promise_len}
use Rattle.rh_rules.specs.Facets.{facets}
use Rattle.rh_rules.specs.Above.{Look, Facts, shape_used, numbers_used, lens_used, put_step, with_row}
use Rattle.rh_rules.specs.Rules.{reason_in}
use Rattle.rh_tables.specs.Making.{put_reason, uses_unknown, uses_dropped}
use Rattle.rh_rules.specs.Tables.{put_all}
use Rattle.rh_planner.specs.Following.{after}
use Rattle.rh_planner.proofs.After.{no_row}

-- the facts with one more put
abbrev pub with_put : Facts → List ℕ → Statement → Facts
with_put f q s = record f { promises = put_all (putting q f.count ∷ []) f.promises; steps = f.steps ++ put_step f.promises (numbers_used f.locals s) q ∷ [] }

stays : (f : Facts) (q : List ℕ) (s : Statement) → record {
  names = f.names ++ [];
  promises = put_all (putting q f.count ∷ []) f.promises ++ [];
  matrices = f.matrices ++ [];
  closed = f.closed ++ [];
  begun = option_map (with_row None) f.begun;
  blocks = f.blocks;
  count = f.count + 0;
  nodes = f.nodes ++ [];
  inputs = f.inputs;
  locals = f.locals ++ [];
  drops = f.drops ++ [];
  steps = f.steps ++ put_step f.promises (numbers_used f.locals s) q ∷ [];
  scheme = f.scheme;
  checks = f.checks ++ [];
} ≡ with_put f q s
stays f q s = let none : f.count + 0 ≡ f.count = omega arith in simp (append-nil, none, no_row)

named : (x y : List ℕ) → Some x ≡ Some y → x ≡ y
named x y e = cc

pub after_put : (look : Look) (f : Facts) (s : Statement) (q : List ℕ) → (facets s).put_to ≡ Some q → after look f s ≡ with_put f q s
unfolding facets
after_put look f (text.Put promise x when) q e = stays f promise (text.Put promise x when) ∙ ap (λ n. with_put f n (text.Put promise x when)) (named promise q e)
after_put look f s q e = absurd (none-some q e)

or_false : (b : Bool) → (b || false) ≡ b
or_false true = refl
or_false false = refl

-- the reason of a `put`, by its promise
abbrev all_put_reason : Facts → List ℕ → Statement → Option Reason
all_put_reason f q s =
    cond (not (is_promise f.promises q) || uses_unknown f.matrices f.locals s) (Some reasons.Unknown)
    (cond (is_own f.promises q || is_put f.promises q) (Some reasons.Owner)
    (cond (not (slice_index (lens_used f.locals s) 0 == promise_len f.promises q) || not ((facets s).fits (shape_used f.matrices s) (lens_used f.locals s))) (Some reasons.Length)
    (cond (uses_dropped f.locals f.drops s) (Some reasons.Dropped) None)))

reason_by_name : (look : Look) (f : Facts) (s : Statement) (q : List ℕ) → (facets s).put_to ≡ Some q → reason_in look f s ≡ all_put_reason f q s
unfolding facets
reason_by_name look f (text.Put promise x when) q e = subst (λ (z : List ℕ). reason_in look f (text.Put promise x when) ≡ all_put_reason f z (text.Put promise x when)) (named promise q e) (simp or_false)
reason_by_name look f s q e = absurd (none-some q e)

by_promise : (known : Bool) (o : Option PlannedPromise) (p : PlannedPromise) (f : Facts) (s : Statement) → known ≡ true → o ≡ Some p →
    cond (not known || uses_unknown f.matrices f.locals s) (Some reasons.Unknown)
    (cond (if_any (λ x. x.scope) o || if_any (λ x. is_some x.putter) o) (Some reasons.Owner)
    (cond (not (slice_index (lens_used f.locals s) 0 == unwrap_or (option_map (λ x. x.len) o) 0) || not ((facets s).fits (shape_used f.matrices s) (lens_used f.locals s))) (Some reasons.Length)
    (cond (uses_dropped f.locals f.drops s) (Some reasons.Dropped) None))) ≡ put_reason p f.matrices f.locals f.drops s
by_promise true (Some x) p f s k e = ap (λ (y : PlannedPromise). put_reason y f.matrices f.locals f.drops s) (let same : x ≡ p = cc in same)
by_promise true None p f s k e = absurd (none-some p e)
by_promise false o p f s k e = absurd (false≢true k)

-- of a promise that is declared
pub reason_put : (look : Look) (f : Facts) (s : Statement) (q : List ℕ) (p : PlannedPromise) → (facets s).put_to ≡ Some q → is_promise f.promises q ≡ true → promise_named f.promises q ≡ Some p → reason_in look f s ≡ put_reason p f.matrices f.locals f.drops s
reason_put look f s q p e there is = reason_by_name look f s q e ∙ by_promise (is_promise f.promises q) (promise_named f.promises q) p f s there is

-- and of one that is not
pub reason_unknown : (look : Look) (f : Facts) (s : Statement) (q : List ℕ) → (facets s).put_to ≡ Some q → promise_at q f.promises ≡ None → reason_in look f s ≡ Some reasons.Unknown
reason_unknown look f s q e none = reason_by_name look f s q e
    ∙ ap (λ (o : Option ℕ). cond (not (is_some o) || uses_unknown f.matrices f.locals s) (Some reasons.Unknown)
    (cond (is_own f.promises q || is_put f.promises q) (Some reasons.Owner)
    (cond (not (slice_index (lens_used f.locals s) 0 == promise_len f.promises q) || not ((facets s).fits (shape_used f.matrices s) (lens_used f.locals s))) (Some reasons.Length)
    (cond (uses_dropped f.locals f.drops s) (Some reasons.Dropped) None)))) none
