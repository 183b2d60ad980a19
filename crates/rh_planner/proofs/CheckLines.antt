-- What a `check` line adds to the facts above, and why it is refused.
use Rattle.std.proofs.Common.{◌≡◌, ℕ, ◌+◌, ◌<◌, List, [], ◌∷◌, ◌++◌, Bool, true, false, ◌||◌, Option, Some, None, refl, arith, append-nil, sym, ap, ◌∙◌}
use Rattle.std.specs.Prelude.{is_some, cond, not, ◌&&◌, get_or, slice_get, option_and_then, unwrap_or, option_to_list, map, length}
use Rattle.std.specs.List.{list_any}
use Rattle.std.specs.Option.{option_map}
use Rattle.std.proofs.lemmas.Option.{none-some, same_Some, slice_get-get_or}
use Rattle.rh_words.specs.declared.reason.Reason.{Reason}
use Rattle.rh_words.specs.declared.reason.Reason.TheVariants as reasons
use Rattle.rh_task_text.specs.declared.statement.Statement.{Statement}
use Rattle.rh_task_text.specs.declared.statement.Statement.TheVariants as text
use Rattle.rh_check.specs.declared.spec.Spec.{Spec}
use Rattle.rh_check.specs.declared.spec.UserSpec.{UserSpec}
use Rattle.rh_check.specs.Users.{HandedChecks, user_named}
use Rattle.rh_rules.specs.declared.node.PlannedPromise.{PlannedPromise}
use Rattle.rh_rules.specs.declared.shape.NamedShape.{NamedShape}
use Rattle.rh_rules.specs.Kept.{KeptCheck}
use Rattle.rh_rules.specs.Tables.{LocalName, promise_at, promise_number, promise_len, is_in}
use Rattle.rh_rules.specs.Facets.{facets}
use Rattle.rh_rules.specs.Bodies.{promises_put}
use Rattle.rh_rules.specs.Above.{Look, Facts, checks_by, check_of, spec_asked, asked_place, matrix_used, shape_used, lens_read, with_row}
use Rattle.rh_rules.specs.Rules.{reason_in, is_put_here, is_await, is_dropped, may_check, is_second_product, is_unanswered}
use Rattle.rh_tables.specs.Making.{check_reason, numbers_read, names_no_matrix}
use Rattle.rh_planner.specs.Planned.{look_above}
use Rattle.rh_planner.specs.Following.{after}
use Rattle.rh_planner.proofs.After.{no_row}

-- the facts with more checks
abbrev pub with_check : Facts → List KeptCheck → Facts
with_check f checks = record f { checks = f.checks ++ checks }

stays : (f : Facts) (checks : List KeptCheck) → record {
  names = f.names ++ [];
  promises = f.promises ++ [];
  matrices = f.matrices ++ [];
  closed = f.closed ++ [];
  begun = option_map (with_row None) f.begun;
  blocks = f.blocks;
  count = f.count + 0;
  nodes = f.nodes ++ [];
  inputs = f.inputs;
  locals = f.locals ++ [];
  drops = f.drops ++ [];
  steps = f.steps ++ [];
  scheme = f.scheme;
  checks = f.checks ++ checks;
} ≡ with_check f checks
stays f checks = let none : f.count + 0 ≡ f.count = omega arith in simp (append-nil, none, no_row)

pub after_check : (look : Look) (f : Facts) (s : Statement) (q : List ℕ) → (facets s).checked ≡ Some q → after look f s ≡ with_check f (checks_by look f.promises f.matrices f.locals s)
unfolding facets
after_check look f (text.CheckRange promise lo hi) q e = stays f _
after_check look f (text.CheckTotal promise total) q e = stays f _
after_check look f (text.CheckLinear promise base inputs factors) q e = stays f _
after_check look f (text.CheckConserve promise l m r k s) q e = stays f _
after_check look f (text.CheckConserve2 promise north south west east m cols k s) q e = stays f _
after_check look f (text.CheckProduct promise a x) q e = stays f _
after_check look f (text.CheckUser promise check) q e = stays f _
after_check look f s q e = absurd (none-some q e)

or_false : (b : Bool) → (b || false) ≡ b
or_false true = refl
or_false false = refl

or_more : (a b c : Bool) → ((a || b) || c) ≡ (a || (b || c))
or_more true b c = refl
or_more false b c = refl

-- the reason of a check, by its promise
abbrev named_reason : Look → Facts → List ℕ → Statement → Option Reason
named_reason look f q s =
    cond (not (is_put_here f q) || (list_any (λ x. not (is_await f x)) (facets s).inputs || names_no_matrix f.matrices s)) (Some reasons.Unknown)
    (cond (not ((facets s).suits (shape_used f.matrices s) (promise_len f.promises q) (lens_read f.locals s))) (Some reasons.Length)
    (cond (not (may_check f.scheme) || is_second_product f s) (Some reasons.Scheme)
    (cond (list_any (is_dropped f) (facets s).inputs) (Some reasons.Dropped)
    (cond (is_unanswered look.handed s) (Some reasons.NoCheck) None))))

reason_named : (look : Look) (f : Facts) (s : Statement) (q : List ℕ) → (facets s).checked ≡ Some q → reason_in look f s ≡ named_reason look f q s
unfolding facets
reason_named look f (text.CheckRange promise lo hi) q e = ap (λ (z : List ℕ). reason_in look f (text.CheckRange z lo hi)) (same_Some promise q e) ∙ simp or_false
reason_named look f (text.CheckTotal promise total) q e = ap (λ (z : List ℕ). reason_in look f (text.CheckTotal z total)) (same_Some promise q e) ∙ simp or_false
reason_named look f (text.CheckLinear promise base inputs factors) q e = ap (λ (z : List ℕ). reason_in look f (text.CheckLinear z base inputs factors)) (same_Some promise q e) ∙ simp or_false
reason_named look f (text.CheckConserve promise l m r k s) q e = ap (λ (z : List ℕ). reason_in look f (text.CheckConserve z l m r k s)) (same_Some promise q e) ∙ simp or_false
reason_named look f (text.CheckConserve2 promise north south west east m cols k s) q e = ap (λ (z : List ℕ). reason_in look f (text.CheckConserve2 z north south west east m cols k s)) (same_Some promise q e) ∙ simp or_false
reason_named look f (text.CheckProduct promise a x) q e = ap (λ (z : List ℕ). reason_in look f (text.CheckProduct z a x)) (same_Some promise q e) ∙ simp (or_false, or_more)
reason_named look f (text.CheckUser promise check) q e = ap (λ (z : List ℕ). reason_in look f (text.CheckUser z check)) (same_Some promise q e) ∙ simp or_false
reason_named look f s q e = absurd (none-some q e)

-- of a promise that is not declared
pub reason_undeclared : (look : Look) (f : Facts) (s : Statement) (q : List ℕ) → (facets s).checked ≡ Some q → promise_at q f.promises ≡ None → reason_in look f s ≡ Some reasons.Unknown
reason_undeclared look f s q e none = reason_named look f s q e
    ∙ ap (λ (o : Option ℕ). cond (not (is_some o && is_in (unwrap_or o 0) (promises_put f.steps)) || (list_any (λ x. not (is_await f x)) (facets s).inputs || names_no_matrix f.matrices s)) (Some reasons.Unknown)
    (cond (not ((facets s).suits (shape_used f.matrices s) (promise_len f.promises q) (lens_read f.locals s))) (Some reasons.Length)
    (cond (not (may_check f.scheme) || is_second_product f s) (Some reasons.Scheme)
    (cond (list_any (is_dropped f) (facets s).inputs) (Some reasons.Dropped)
    (cond (is_unanswered look.handed s) (Some reasons.NoCheck) None))))) none

-- the reasons that need no handed-in checks, and the last one
abbrev pub task_part : Facts → List ℕ → ℕ → Statement → Option Reason
task_part f q i s = check_reason i (promise_len f.promises q) f.steps f.scheme f.checks (length f.inputs) f.matrices f.locals f.drops s

first_some : (a b c d : Bool) (x y z u : Reason) (rest : Option Reason) (r : Reason) → cond a (Some x) (cond b (Some y) (cond c (Some z) (cond d (Some u) None))) ≡ Some r → cond a (Some x) (cond b (Some y) (cond c (Some z) (cond d (Some u) rest))) ≡ Some r
first_some true b c d x y z u rest r e = e
first_some false true c d x y z u rest r e = e
first_some false false true d x y z u rest r e = e
first_some false false false true x y z u rest r e = e
first_some false false false false x y z u rest r e = absurd (none-some r e)

first_none : (a b c d : Bool) (x y z u : Reason) (rest : Option Reason) → cond a (Some x) (cond b (Some y) (cond c (Some z) (cond d (Some u) None))) ≡ None → cond a (Some x) (cond b (Some y) (cond c (Some z) (cond d (Some u) rest))) ≡ rest
first_none true b c d x y z u rest e = absurd (none-some x (sym e))
first_none false true c d x y z u rest e = absurd (none-some y (sym e))
first_none false false true d x y z u rest e = absurd (none-some z (sym e))
first_none false false false true x y z u rest e = absurd (none-some u (sym e))
first_none false false false false x y z u rest e = refl

-- by the number of the promise
by_number : (look : Look) (f : Facts) (s : Statement) (q : List ℕ) (i : ℕ) → promise_at q f.promises ≡ Some i → named_reason look f q s ≡
    cond (not (is_in i (promises_put f.steps)) || (list_any (λ x. not (is_await f x)) (facets s).inputs || names_no_matrix f.matrices s)) (Some reasons.Unknown)
    (cond (not ((facets s).suits (shape_used f.matrices s) (promise_len f.promises q) (lens_read f.locals s))) (Some reasons.Length)
    (cond (not (may_check f.scheme) || is_second_product f s) (Some reasons.Scheme)
    (cond (list_any (is_dropped f) (facets s).inputs) (Some reasons.Dropped)
    (cond (is_unanswered look.handed s) (Some reasons.NoCheck) None))))
by_number look f s q i at =
    ap (λ (o : Option ℕ). cond (not (is_some o && is_in (unwrap_or o 0) (promises_put f.steps)) || (list_any (λ x. not (is_await f x)) (facets s).inputs || names_no_matrix f.matrices s)) (Some reasons.Unknown)
    (cond (not ((facets s).suits (shape_used f.matrices s) (promise_len f.promises q) (lens_read f.locals s))) (Some reasons.Length)
    (cond (not (may_check f.scheme) || is_second_product f s) (Some reasons.Scheme)
    (cond (list_any (is_dropped f) (facets s).inputs) (Some reasons.Dropped)
    (cond (is_unanswered look.handed s) (Some reasons.NoCheck) None))))) at

-- of a declared promise: a reason of the task comes first
pub reason_in_task : (look : Look) (f : Facts) (s : Statement) (q : List ℕ) (i : ℕ) (r : Reason) → (facets s).checked ≡ Some q → promise_at q f.promises ≡ Some i → task_part f q i s ≡ Some r → reason_in look f s ≡ Some r
reason_in_task look f s q i r e at is = reason_named look f s q e ∙ by_number look f s q i at
    ∙ first_some (not (is_in i (promises_put f.steps)) || (list_any (λ x. not (is_await f x)) (facets s).inputs || names_no_matrix f.matrices s)) (not ((facets s).suits (shape_used f.matrices s) (promise_len f.promises q) (lens_read f.locals s))) (not (may_check f.scheme) || is_second_product f s) (list_any (is_dropped f) (facets s).inputs) _ _ _ _ (cond (is_unanswered look.handed s) (Some reasons.NoCheck) None) r is

-- and else that no handed-in check has the name
pub reason_asked : (look : Look) (f : Facts) (s : Statement) (q : List ℕ) (i : ℕ) → (facets s).checked ≡ Some q → promise_at q f.promises ≡ Some i → task_part f q i s ≡ None → reason_in look f s ≡ cond (is_unanswered look.handed s) (Some reasons.NoCheck) None
reason_asked look f s q i e at is = reason_named look f s q e ∙ by_number look f s q i at
    ∙ first_none (not (is_in i (promises_put f.steps)) || (list_any (λ x. not (is_await f x)) (facets s).inputs || names_no_matrix f.matrices s)) (not ((facets s).suits (shape_used f.matrices s) (promise_len f.promises q) (lens_read f.locals s))) (not (may_check f.scheme) || is_second_product f s) (list_any (is_dropped f) (facets s).inputs) _ _ _ _ (cond (is_unanswered look.handed s) (Some reasons.NoCheck) None) is

-- a declared promise has the length of the one at its place
pub len_declared : (ps : List PlannedPromise) (q : List ℕ) (i : ℕ) (p : PlannedPromise) → promise_at q ps ≡ Some i → slice_get ps i ≡ Some p → promise_len ps q ≡ p.len
len_declared ps q i p at there =
    ap (λ (o : Option ℕ). unwrap_or (option_map (λ (r : PlannedPromise). r.len) (option_and_then (λ k. slice_get ps k) o)) 0) at
    ∙ ap (λ (o : Option PlannedPromise). unwrap_or (option_map (λ (r : PlannedPromise). r.len) o) 0) there

-- the same as it is read from a list of the promises
pub len_found : (ps qs : List PlannedPromise) (q : List ℕ) (i : ℕ) (d : PlannedPromise) → promise_at q ps ≡ Some i → i < length ps → qs ≡ ps → promise_len ps q ≡ (get_or qs i d).len
len_found ps qs q i d at within same =
    len_declared ps q i (get_or ps i d) at (slice_get-get_or ps i d within) ∙ ap (λ (l : List PlannedPromise). (get_or l i d).len) (sym same)

-- the reasons that need no handed-in checks, by that length and a list of the matrices
pub part_is : (f : Facts) (q : List ℕ) (i : ℕ) (s : Statement) (n : ℕ) (ms : List NamedShape) (r : Option Reason) → promise_len f.promises q ≡ n → ms ≡ f.matrices
    → check_reason i n f.steps f.scheme f.checks (length f.inputs) ms f.locals f.drops s ≡ r → task_part f q i s ≡ r
part_is f q i s n ms r len same is = ap (λ (m : ℕ). check_reason i m f.steps f.scheme f.checks (length f.inputs) f.matrices f.locals f.drops s) len
    ∙ ap (λ (l : List NamedShape). check_reason i n f.steps f.scheme f.checks (length f.inputs) l f.locals f.drops s) (sym same) ∙ is

-- the check that a line adds
pub kept_is : (handed : HandedChecks) (ps : List PlannedPromise) (ms : List NamedShape) (ls : List LocalName) (s : Statement) (q : List ℕ) (number place matrix : ℕ) (numbers : List ℕ) (spec : Spec) (user : Option UserSpec) → (facets s).checked ≡ Some q
    → number ≡ promise_number ps q → place ≡ asked_place handed s → matrix ≡ matrix_used ms s → numbers ≡ numbers_read ls s → spec ≡ (facets s).spec place matrix numbers → user ≡ user_named handed.specs spec
    → (record { promise = number; spec = spec; user = user }) ∷ [] ≡ checks_by (look_above handed) ps ms ls s
kept_is handed ps ms ls s q number place matrix numbers spec user checked number_is place_is matrix_is numbers_is spec_is user_is =
    let asked : spec ≡ spec_asked handed ms ls s = spec_is ∙ ap (λ (p : ℕ). (facets s).spec p matrix numbers) place_is ∙ ap (λ (m : ℕ). (facets s).spec (asked_place handed s) m numbers) matrix_is
    ∙ ap (λ (l : List ℕ). (facets s).spec (asked_place handed s) (matrix_used ms s) l) numbers_is in
    let kept : Option UserSpec → KeptCheck = λ u. record { promise = number; spec = spec; user = u } in
    ap (λ (u : Option UserSpec). kept u ∷ []) user_is
    ∙ ap (λ (t : Spec). check_of handed number t ∷ []) asked
    ∙ ap (λ (n : ℕ). check_of handed n (spec_asked handed ms ls s) ∷ []) number_is
    ∙ sym (ap (λ (o : Option (List ℕ)). map (λ x. check_of handed (promise_number ps x) (spec_asked handed ms ls s)) (option_to_list o)) checked)

pub none_asked : (b : Bool) (n : ℕ) → cond b None (Some n) ≡ None → b ≡ true
none_asked true n e = refl
none_asked false n e = absurd (none-some n (sym e))

pub one_asked : (b : Bool) (n p : ℕ) → cond b None (Some n) ≡ Some p → (b ≡ false) × (p ≡ n)
one_asked true n p e = absurd (none-some p e)
one_asked false n p e = (refl, sym (same_Some n p e))
