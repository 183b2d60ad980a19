-- What each form of the lines of a task says: a step or a check.
use Rattle.std.proofs.Common.{◌≡◌, ℕ, zero, suc, ◌<◌, List, [], ◌∷◌, ◌++◌, true, false, not, Option, Some, None, map, length, refl, arith, ap, sym, ◌∙◌, subst}
use Rattle.std.specs.Prelude.{is_some, unwrap_or, slice_get, slice_index, option_to_list, nat_lt, take}
use Rattle.std.specs.List.{list_any}
use Rattle.std.proofs.lemmas.Bool.{false≢true}
use Rattle.std.proofs.lemmas.Bool.Decides.{nat_tests}
use Rattle.std.proofs.lemmas.List.{map-id, length-map}
use Rattle.std.proofs.lemmas.Option.{none-some, same_Some}
use Rattle.rh_task_text.specs.declared.statement.Statement.{Statement}
use Rattle.rh_task_text.specs.declared.statement.Statement.TheVariants as text
use Rattle.rh_rules.specs.declared.shape.NamedShape.{NamedShape}
use Rattle.rh_rules.specs.declared.body.Step.{Step}
use Rattle.rh_rules.specs.declared.node.PlannedPromise.{PlannedPromise}
use Rattle.rh_rules.specs.Tables.{LocalName, if_any, place_of, is_local, number_of, is_promise, promise_number, is_matrix, matrix_number}
use Rattle.rh_rules.specs.Facets.{facets, terms_of, sixteen_terms}
use Rattle.rh_rules.specs.Above.{Facts, matrix_used, numbers_used, put_step, check_of, spec_asked}
use Rattle.rh_rules.specs.Rules.{is_await, is_dropped, is_unanswered}
use Rattle.rh_planner.proofs.Puts.{with_put}
use Rattle.rh_tables.proofs.Using.{neither, not_false}
use Rattle.rh_plan.specs.PlanTexts.{IsNamed, IsFirstNamed, AreNamed, SaysStep, made_by, is_declaration, names_of, AreTerms, SaysCheck, is_check}
use Rattle.rh_plan.proofs.SaidParts.{at_left}
use Rattle.rh_check.specs.declared.spec.Term.{Term}
use Rattle.rh_check.specs.declared.spec.Spec.TheVariants.{Linear}
use Rattle.rh_check.specs.Users.{HandedChecks, user_place}
use Rattle.rh_rules.specs.Limits.{IsWithinLimits}
use Rattle.rh_planner.proofs.SoundChecks.{first_terms}
use Rattle.rh_planner.proofs.Grammar.{within}
use Rattle.rh_planner.proofs.RulesKept.{Rules}
use Rattle.rh_plan.proofs.SaidNames.{named_at, no_local, promise_named, first_named, shape_names, matrix_named, locals_named}

-- the step of a `let`
pub record IsLetSaid (ms : List NamedShape) (ps : List (List ℕ)) (ls : List LocalName) (s : Statement) (x : List ℕ) : Type 0 where
  pub step : Step
  pub is : (facets s).step (matrix_used ms s) (numbers_used ls s) ≡ Some step
  pub says : SaysStep (shape_names ms) ps (map (λ l. l.name) ls) s step
  pub made : made_by s ≡ x ∷ []
  pub other : is_declaration s ≡ false
  pub unchecked : is_check s ≡ false

one_used : (ls : List LocalName) (a : List ℕ) → list_any (λ x. not (is_local ls x)) (a ∷ []) ≡ false → IsNamed (map (λ l. l.name) ls) (number_of ls a) a
one_used ls a none = (locals_named ls (a ∷ []) none).0

two_used : (ls : List LocalName) (a b : List ℕ) → list_any (λ x. not (is_local ls x)) (a ∷ b ∷ []) ≡ false → IsNamed (map (λ l. l.name) ls) (number_of ls b) b
two_used ls a b none = (locals_named ls (a ∷ b ∷ []) none).1.0

first_used : (ls : List LocalName) (a b : List ℕ) → list_any (λ x. not (is_local ls x)) (a ∷ b ∷ []) ≡ false → IsNamed (map (λ l. l.name) ls) (number_of ls a) a
first_used ls a b none = (locals_named ls (a ∷ b ∷ []) none).0

pub let_said : (ms : List NamedShape) (ps : List (List ℕ)) (ls : List LocalName) (s : Statement) (x : List ℕ) → (facets s).made ≡ Some x → list_any (λ y. not (is_local ls y)) (facets s).used ≡ false → if_any (λ a. not (is_matrix ms a)) (facets s).matrix ≡ false → IsLetSaid ms ps ls s x
unfolding facets
let_said ms ps ls (text.LetLit x words) y e none there = record { step = _; is = refl; says = refl; made = ap (λ (z : List ℕ). z ∷ []) (same_Some x y e); other = refl; unchecked = refl }
let_said ms ps ls (text.LetGen x n start limit) y e none there = record { step = _; is = refl; says = refl; made = ap (λ (z : List ℕ). z ∷ []) (same_Some x y e); other = refl; unchecked = refl }
let_said ms ps ls (text.LetAdd x a c) y e none there = record { step = _; is = refl; says = (number_of ls a, number_of ls c, refl, first_used ls a c none, two_used ls a c none); made = ap (λ (z : List ℕ). z ∷ []) (same_Some x y e); other = refl; unchecked = refl }
let_said ms ps ls (text.LetSub x a c) y e none there = record { step = _; is = refl; says = (number_of ls a, number_of ls c, refl, first_used ls a c none, two_used ls a c none); made = ap (λ (z : List ℕ). z ∷ []) (same_Some x y e); other = refl; unchecked = refl }
let_said ms ps ls (text.LetMul x a c) y e none there = record { step = _; is = refl; says = (number_of ls a, number_of ls c, refl, first_used ls a c none, two_used ls a c none); made = ap (λ (z : List ℕ). z ∷ []) (same_Some x y e); other = refl; unchecked = refl }
let_said ms ps ls (text.LetScale x a k) y e none there = record { step = _; is = refl; says = (number_of ls a, refl, one_used ls a none); made = ap (λ (z : List ℕ). z ∷ []) (same_Some x y e); other = refl; unchecked = refl }
let_said ms ps ls (text.LetShift x a s) y e none there = record { step = _; is = refl; says = (number_of ls a, refl, one_used ls a none); made = ap (λ (z : List ℕ). z ∷ []) (same_Some x y e); other = refl; unchecked = refl }
let_said ms ps ls (text.LetCut x a from len) y e none there = record { step = _; is = refl; says = (number_of ls a, refl, one_used ls a none); made = ap (λ (z : List ℕ). z ∷ []) (same_Some x y e); other = refl; unchecked = refl }
let_said ms ps ls (text.LetJoin x parts) y e none there = record { step = _; is = refl; says = (map (number_of ls) parts, refl, locals_named ls parts none); made = ap (λ (z : List ℕ). z ∷ []) (same_Some x y e); other = refl; unchecked = refl }
let_said ms ps ls (text.LetSum x a) y e none there = record { step = _; is = refl; says = (number_of ls a, refl, one_used ls a none); made = ap (λ (z : List ℕ). z ∷ []) (same_Some x y e); other = refl; unchecked = refl }
let_said ms ps ls (text.LetCount x a) y e none there = record { step = _; is = refl; says = (number_of ls a, refl, one_used ls a none); made = ap (λ (z : List ℕ). z ∷ []) (same_Some x y e); other = refl; unchecked = refl }
let_said ms ps ls (text.LetStencil1 x l m r k s) y e none there = record { step = _; is = refl; says = (number_of ls l, number_of ls m, number_of ls r, refl, locals_named ls (l ∷ m ∷ r ∷ []) none); made = ap (λ (z : List ℕ). z ∷ []) (same_Some x y e); other = refl; unchecked = refl }
let_said ms ps ls (text.LetStencil2 x north south west east m cols k s) y e none there = record {
  step = _;
  is = refl;
  says = (number_of ls north, number_of ls south, number_of ls west, number_of ls east, number_of ls m, refl, locals_named ls (north ∷ south ∷ west ∷ east ∷ m ∷ []) none);
  made = ap (λ (z : List ℕ). z ∷ []) (same_Some x y e);
  other = refl;
  unchecked = refl;
}
let_said ms ps ls (text.LetProduct x a v) y e none there = record { step = _; is = refl; says = (matrix_number ms a, number_of ls v, refl, matrix_named ms a (not_false (is_matrix ms a) there), one_used ls v none); made = ap (λ (z : List ℕ). z ∷ []) (same_Some x y e); other = refl; unchecked = refl }
let_said ms ps ls s y e none there = absurd (none-some y e)

pub put_says : (ms : List (List ℕ)) (ps : List PlannedPromise) (ls : List LocalName) (q x : List ℕ) (when : Option (List ℕ)) → is_promise ps q ≡ true → AreNamed (map (λ l. l.name) ls) (map (number_of ls) (x ∷ option_to_list when)) (x ∷ option_to_list when)
    → SaysStep ms (names_of ps) (map (λ l. l.name) ls) (text.Put q x when) (put_step ps (map (number_of ls) (x ∷ option_to_list when)) q)
put_says ms ps ls q x None there used = (promise_number ps q, number_of ls x, None, refl, promise_named ps q there, used.0, tt)
put_says ms ps ls q x (Some y) there used = (promise_number ps q, number_of ls x, Some (number_of ls y), refl, promise_named ps q there, used.0, used.1.0)

pub put_known : (f : Facts) (q x : List ℕ) (when : Option (List ℕ)) → Rules f (text.Put q x when) → (is_promise f.promises q ≡ true) × AreNamed (map (λ l. l.name) f.locals) (map (number_of f.locals) (x ∷ option_to_list when)) (x ∷ option_to_list when)
unfolding facets
put_known f q x when r = (not_false (is_promise f.promises q) r.put_to, locals_named f.locals (x ∷ option_to_list when) r.used)

pub put_steps : (f : Facts) (q x : List ℕ) (when : Option (List ℕ)) → (with_put f q (text.Put q x when)).steps ≡ f.steps ++ put_step f.promises (map (number_of f.locals) (x ∷ option_to_list when)) q ∷ []
unfolding facets
put_steps f q x when = refl

-- an input is the promise of its await
pub named_there : (names : List (List ℕ)) (ns : List ℕ) (qs more : List (List ℕ)) (i : ℕ) (q : List ℕ) → AreNamed names ns qs → i < length ns → slice_get (qs ++ more) i ≡ Some q → IsNamed names (slice_index ns i) q
named_there names [] qs more i q are within at = absurd (omega arith)
named_there names (n ∷ ns) [] more i q are within at = absurd are
named_there names (n ∷ ns) (p ∷ qs) more zero q are within at = are.0 ∙ at
named_there names (n ∷ ns) (p ∷ qs) more (suc i) q are within at = named_there names ns qs more i q are.1 (omega arith) at

pub await_number : (f : Facts) (q : List ℕ) (o : Option ℕ) → place_of q f.locals ≡ o → if_any (λ i. nat_lt i (length f.inputs)) o ≡ true → (unwrap_or o 0 < length f.inputs) × IsNamed (map (λ l. l.name) f.locals) (unwrap_or o 0) q
await_number f q None at here = absurd (false≢true here)
await_number f q (Some i) at here = (grind (arith, nat_tests), named_at (λ (l : LocalName). l.name) f.locals q no_local i at)

pub drop_known : (f : Facts) (q : List ℕ) → Rules f (text.DropAwait q) → is_await f q ≡ true
unfolding facets
drop_known f q r = not_false (is_await f q) (neither (not (is_await f q)) (is_dropped f q) r.dropped).0

-- an await of the open task is named by its number
await_named : (f : Facts) (awaits made : List (List ℕ)) (q : List ℕ) → length f.inputs ≡ length awaits → map (λ l. l.name) f.locals ≡ awaits ++ made → is_await f q ≡ true → IsNamed awaits (number_of f.locals q) q
await_named f awaits made q many whole there =
    let (within, here) = await_number f q (place_of q f.locals) refl there in
    let at : slice_get (awaits ++ made) (number_of f.locals q) ≡ Some q = sym (ap (λ (l : List (List ℕ)). slice_get l (number_of f.locals q)) whole) ∙ here in
    at_left awaits made (number_of f.locals q) q (omega arith) at

are_terms : (f : Facts) (awaits made inputs : List (List ℕ)) (factors : List ℕ) → length f.inputs ≡ length awaits → map (λ l. l.name) f.locals ≡ awaits ++ made → list_any (λ q. not (is_await f q)) inputs ≡ false → length inputs ≡ length factors
    → AreTerms awaits (terms_of (map (number_of f.locals) inputs) factors) inputs factors
are_terms f awaits made [] [] many whole read same = tt
are_terms f awaits made [] (c ∷ factors) many whole read same = absurd (omega arith)
are_terms f awaits made (q ∷ inputs) [] many whole read same = absurd (omega arith)
are_terms f awaits made (q ∷ inputs) (c ∷ factors) many whole read same =
    let (here, rest) = neither (not (is_await f q)) (list_any (λ q. not (is_await f q)) inputs) read in
    (await_named f awaits made q many whole (not_false (is_await f q) here), refl, are_terms f awaits made inputs factors many whole rest (omega arith))

awaits_named : (f : Facts) (awaits made inputs : List (List ℕ)) → length f.inputs ≡ length awaits → map (λ l. l.name) f.locals ≡ awaits ++ made → list_any (λ q. not (is_await f q)) inputs ≡ false → AreNamed awaits (map (number_of f.locals) inputs) inputs
awaits_named f awaits made [] many whole read = tt
awaits_named f awaits made (q ∷ inputs) many whole read =
    let (here, rest) = neither (not (is_await f q)) (list_any (λ q. not (is_await f q)) inputs) read in
    (await_named f awaits made q many whole (not_false (is_await f q) here), awaits_named f awaits made inputs many whole rest)

first_user : (handed : HandedChecks) (name : List ℕ) → not (is_some (user_place handed name)) ≡ false → IsFirstNamed handed.names (unwrap_or (user_place handed name) 0) name
first_user handed name e =
    subst (λ (l : List (List ℕ)). IsFirstNamed l (unwrap_or (user_place handed name) 0) name) (map-id handed.names)
    (first_named (λ (n : List ℕ). n) handed.names name [] (user_place handed name) refl (not_false (is_some (user_place handed name)) e))

checks_named : (f : Facts) (promise q : List ℕ) → Some promise ≡ Some q → is_promise f.promises q ≡ true → IsNamed (names_of f.promises) (promise_number f.promises q) promise
checks_named f promise q e there = subst (λ (p : List ℕ). IsNamed (names_of f.promises) (promise_number f.promises q) p) (sym (same_Some promise q e)) (promise_named f.promises q there)

-- the check of a line of the open task
pub check_said : (us : HandedChecks) (f : Facts) (awaits made : List (List ℕ)) (s : Statement) (q : List ℕ) → length f.inputs ≡ length awaits → map (λ l. l.name) f.locals ≡ awaits ++ made → IsWithinLimits s
    → (facets s).checked ≡ Some q → is_promise f.promises q ≡ true → list_any (λ x. not (is_await f x)) (facets s).inputs ≡ false → if_any (λ a. not (is_matrix f.matrices a)) (facets s).matrix ≡ false → is_unanswered us s ≡ false
    → SaysCheck us (shape_names f.matrices) (names_of f.promises) awaits s (check_of us (promise_number f.promises q) (spec_asked us f.matrices f.locals s)) × (is_check s ≡ true) × (is_declaration s ≡ false)
unfolding facets
check_said us f awaits made (text.CheckRange promise lo hi) q many whole limits e there read matrix asked = ((checks_named f promise q e there, refl), refl, refl)
check_said us f awaits made (text.CheckTotal promise total) q many whole limits e there read matrix asked = ((checks_named f promise q e there, refl), refl, refl)
check_said us f awaits made (text.CheckLinear promise base inputs factors) q many whole limits e there read matrix asked =
    let ns : List ℕ = map (number_of f.locals) inputs in
    let counted : length ns ≡ length inputs = length-map inputs (number_of f.locals) in
    let pairs : length inputs ≡ length factors = limits.1 in
    let terms = are_terms f awaits made inputs factors many whole read pairs in
    let first : take (length inputs) (sixteen_terms ns factors) ≡ terms_of ns factors = ap (λ (n : ℕ). take n (sixteen_terms ns factors)) (sym counted) ∙ first_terms ns factors (omega arith) in (
      (
        checks_named f promise q e there,
        sixteen_terms ns factors,
        ap (λ (n : ℕ). Linear base (sixteen_terms ns factors) n) counted,
        subst (λ (l : List Term). AreTerms awaits l inputs factors) (sym first) terms,
      ),
      refl,
      refl,
    )
check_said us f awaits made (text.CheckConserve promise l m r k s) q many whole limits e there read matrix asked =
    ((checks_named f promise q e there, number_of f.locals l, number_of f.locals m, number_of f.locals r, refl, awaits_named f awaits made (l ∷ m ∷ r ∷ []) many whole read), refl, refl)
check_said us f awaits made (text.CheckConserve2 promise north south west east m cols k s) q many whole limits e there read matrix asked =
    ((checks_named f promise q e there, number_of f.locals north, number_of f.locals south, number_of f.locals west, number_of f.locals east, number_of f.locals m, refl, awaits_named f awaits made (north ∷ south ∷ west ∷ east ∷ m ∷ []) many whole read), refl, refl)
check_said us f awaits made (text.CheckProduct promise a x) q many whole limits e there read matrix asked =
    ((checks_named f promise q e there, matrix_number f.matrices a, number_of f.locals x, refl, matrix_named f.matrices a (not_false (is_matrix f.matrices a) matrix), (awaits_named f awaits made (x ∷ []) many whole read).0), refl, refl)
check_said us f awaits made (text.CheckUser promise check) q many whole limits e there read matrix asked = ((checks_named f promise q e there, unwrap_or (user_place us check) 0, refl, first_user us check asked, refl), refl, refl)
check_said us f awaits made s q many whole limits e there read matrix asked = absurd (none-some q e)
