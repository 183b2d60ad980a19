-- What a line uses, by the numbers of the locals.
use Rattle.std.proofs.Common.{◌≡◌, ℕ, List, [], ◌∷◌, Bool, true, false, ◌||◌, not, Option, Some, None, map, length, cond, refl, ap, sym, ◌∙◌}
use Rattle.std.specs.List.{list_any, position_or_len}
use Rattle.std.specs.Prelude.{is_some, option_to_list, unwrap_or, slice_get, option_and_then, nat_lt}
use Rattle.std.specs.Str.{bytes_eq}
use Rattle.std.proofs.lemmas.Bool.{false≢true, true≢false}
use Rattle.rh_task_text.specs.declared.statement.Statement.{Statement}
use Rattle.rh_rules.specs.Tables.{LocalName, local, if_any, is_in, place_of, is_local, number_of, promise_at, promise_named, promise_number, is_promise, is_put}
use Rattle.rh_rules.specs.declared.node.PlannedPromise.{PlannedPromise}
use Rattle.rh_rules.specs.declared.shape.Shape.{Shape}
use Rattle.rh_rules.specs.declared.shape.NamedShape.{NamedShape}
use Rattle.rh_rules.specs.Facets.{facets}
use Rattle.rh_rules.specs.Rules.{is_among_first}
use Rattle.rh_rules.specs.Above.{matrix_used, shape_used, numbers_used, lens_used, made_len, local_made}
use Rattle.rh_tables.specs.declared.matrices.Named.{Named}
use Rattle.rh_tables.specs.Making.{IsNamed, let_reason, put_reason, let_use_reason, put_use_reason, uses_unknown, uses_dropped, names_no_matrix}

pub not_false : (b : Bool) → not b ≡ false → b ≡ true
not_false true e = refl
not_false false e = absurd (true≢false e)

pub neither : (a b : Bool) → (a || b) ≡ false → (a ≡ false) × (b ≡ false)
neither true b e = absurd (true≢false e)
neither false b e = (refl, e)

at_place : (o : Option ℕ) (p : ℕ → Bool) → is_some o ≡ true → if_any p o ≡ p (unwrap_or o 0)
at_place None p there = absurd (false≢true there)
at_place (Some i) p there = refl

pub dropped_all : (ls : List LocalName) (drops : List ℕ) (xs : List (List ℕ)) → list_any (λ x. not (is_local ls x)) xs ≡ false → list_any (λ x. if_any (λ i. is_in i drops) (place_of x ls)) xs ≡ list_any (λ i. is_in i drops) (map (number_of ls) xs)
dropped_all ls drops [] e = refl
dropped_all ls drops (x ∷ xs) e =
    let (first, rest) = neither (not (is_local ls x)) (list_any (λ x. not (is_local ls x)) xs) e in
    ap (λ t. t || list_any (λ x. if_any (λ i. is_in i drops) (place_of x ls)) xs) (at_place (place_of x ls) (λ i. is_in i drops) (not_false (is_local ls x) first))
    ∙ ap (λ t. is_in (number_of ls x) drops || t) (dropped_all ls drops xs rest)

-- where all locals are there, the dropped ones are those of dropped numbers
pub uses_dropped_numbers : (ms : List NamedShape) (ls : List LocalName) (drops : List ℕ) (s : Statement) → uses_unknown ms ls s ≡ false → uses_dropped ls drops s ≡ list_any (λ i. is_in i drops) (numbers_used ls s)
uses_dropped_numbers ms ls drops s e = dropped_all ls drops (facets s).used (neither (list_any (λ x. not (is_local ls x)) (facets s).used) (names_no_matrix ms s) e).0

-- what is declared is found by its number
named_at : (ps : List PlannedPromise) (o : Option ℕ) → is_some o ≡ true → option_and_then (λ i. slice_get ps i) o ≡ slice_get ps (unwrap_or o 0)
named_at ps None there = absurd (false≢true there)
named_at ps (Some i) there = refl

pub promise_by_number : (ps : List PlannedPromise) (q : List ℕ) → is_promise ps q ≡ true → promise_named ps q ≡ slice_get ps (promise_number ps q)
promise_by_number ps q there = named_at ps (promise_at q ps) there

put_all_numbers : (ps : List PlannedPromise) (names : List (List ℕ)) → list_any (λ q. not (is_promise ps q)) names ≡ false
    → list_any (λ q. not (is_put ps q)) names ≡ list_any (λ i. not (if_any (λ p. is_some p.putter) (slice_get ps i))) (map (promise_number ps) names)
put_all_numbers ps [] e = refl
put_all_numbers ps (q ∷ names) e =
    let (first, rest) = neither (not (is_promise ps q)) (list_any (λ q. not (is_promise ps q)) names) e in
    ap (λ (o : Option PlannedPromise). not (if_any (λ p. is_some p.putter) o) || list_any (λ q. not (is_put ps q)) names) (promise_by_number ps q (not_false (is_promise ps q) first))
    ∙ ap (λ t. not (if_any (λ p. is_some p.putter) (slice_get ps (promise_number ps q))) || t) (put_all_numbers ps names rest)

-- where all names are promises, those that nothing puts are those of such numbers
pub is_put_numbers : (ps : List PlannedPromise) (names : List (List ℕ)) → list_any (λ q. not (is_promise ps q)) names ≡ false
    → list_any (λ q. not (is_put ps q)) names ≡ list_any (λ i. not (if_any (λ p. is_some p.putter) (slice_get ps i))) (map (promise_number ps) names)
is_put_numbers ps names e = put_all_numbers ps names e

-- a local is one of all locals
within_all : (t : Bool) (i n : ℕ) → nat_lt i n ≡ t → if_any (λ j. nat_lt j n) (cond t (Some i) None) ≡ is_some (cond t (Some i) None)
within_all true i n e = e
within_all false i n e = refl

among_one : (ls : List LocalName) (x : List ℕ) → is_among_first (length ls) ls x ≡ is_local ls x
among_one ls x = let i = position_or_len (λ t. bytes_eq t.name x) ls in within_all (nat_lt i (length ls)) i (length ls) refl

pub among_all : (ls : List LocalName) (xs : List (List ℕ)) → list_any (λ q. not (is_among_first (length ls) ls q)) xs ≡ list_any (λ x. not (is_local ls x)) xs
among_all ls [] = refl
among_all ls (x ∷ xs) =
    ap (λ t. not t || list_any (λ q. not (is_among_first (length ls) ls q)) xs) (among_one ls x)
    ∙ ap (λ t. not (is_local ls x) || t) (among_all ls xs)

-- the reason of a `let` whose locals are there, by what is looked up
pub let_by_use : (ms : List NamedShape) (ls : List LocalName) (drops : List ℕ) (x : List ℕ) (s : Statement) (m : Named) (numbers lens : List ℕ) → is_local ls x ≡ false → uses_unknown ms ls s ≡ false → IsNamed ms s m → numbers ≡ numbers_used ls s → lens ≡ lens_used ls s
    → let_use_reason m numbers lens drops s ≡ let_reason ms ls drops x s
let_by_use ms ls drops x s m numbers lens fresh known named numbers_is lens_is = rw (numbers_is, lens_is, named.shape, fresh, known, uses_dropped_numbers ms ls drops s known) refl

-- and that of a `put`
pub put_by_use : (p : PlannedPromise) (ms : List NamedShape) (ls : List LocalName) (drops : List ℕ) (s : Statement) (m : Named) (numbers lens : List ℕ) → uses_unknown ms ls s ≡ false → IsNamed ms s m → numbers ≡ numbers_used ls s → lens ≡ lens_used ls s
    → put_use_reason p m numbers lens drops s ≡ put_reason p ms ls drops s
put_by_use p ms ls drops s m numbers lens known named numbers_is lens_is = rw (numbers_is, lens_is, named.shape, known, uses_dropped_numbers ms ls drops s known) refl

-- the local that a `let` makes, by what is looked up
pub local_by_use : (ms : List NamedShape) (ls : List LocalName) (x : List ℕ) (s : Statement) (m : Named) (lens : List ℕ) (len : ℕ) (made : LocalName) → (facets s).made ≡ Some x → IsNamed ms s m → lens ≡ lens_used ls s → len ≡ (facets s).len m.shape lens → made ≡ local x len
    → made ∷ [] ≡ local_made ms ls s
local_by_use ms ls x s m lens len made makes named lens_is len_is made_is =
    ap (λ (t : LocalName). t ∷ []) (made_is ∙ ap (local x) (len_is ∙ ap (λ (h : Shape). (facets s).len h lens) named.shape ∙ ap (λ (l : List ℕ). (facets s).len (shape_used ms s) l) lens_is))
    ∙ sym (ap (λ (o : Option (List ℕ)). map (λ y. local y (made_len ms ls s)) (option_to_list o)) makes)

-- and its step, where it has one
pub step_by_use : (ms : List NamedShape) (ls : List LocalName) (s : Statement) (m : Named) (numbers : List ℕ) → IsNamed ms s m → numbers ≡ numbers_used ls s → (facets s).step m.number numbers ≡ (facets s).step (matrix_used ms s) (numbers_used ls s)
step_by_use ms ls s m numbers named numbers_is =
    ap (λ (i : ℕ). (facets s).step i numbers) named.number
    ∙ ap (λ (l : List ℕ). (facets s).step (matrix_used ms s) l) numbers_is
