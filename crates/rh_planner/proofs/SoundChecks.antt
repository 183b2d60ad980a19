-- A check that keeps the rules reads a put of its task and awaits that are there, and its handed-in check is kept.
use Rattle.std.proofs.Common.{◌≡◌, ℕ, ◌<◌, ◌≤◌, List, [], ◌∷◌, ◌++◌, Bool, true, false, not, Option, Some, None, length, map, take, drop, slice_index, ◌||◌, unwrap_or, refl, arith, ap, sym, ◌∙◌, subst, ◌*◌, ◌==◌, length-append}
use Rattle.std.specs.Prelude.{is_some, IsSomeAnd, slice_get, nat_eq, nat_lt}
use Rattle.std.specs.List.{AllByRecursion, list_any}
use Rattle.std.specs.Str.{bytes_eq}
use Rattle.std.proofs.lemmas.Bool.{false≢true, and_parts, eqb-true}
use Rattle.std.proofs.lemmas.Bool.Decides.{nat_tests}
use Rattle.std.proofs.lemmas.Option.{none-some, slice_get-get_or}
use Rattle.std.proofs.lemmas.List.{length-map, get_or_append_left}
use Rattle.std.proofs.lemmas.List.Quantifiers.{position-Some}
use Rattle.std.proofs.Math.Seq.{take-append_seam}
use Rattle.rh_check.specs.declared.spec.UserSpec.TheVariants as users
use Rattle.rh_check.specs.Users.{HandedChecks, ArePaired, user_place}
use Rattle.rh_task_text.specs.declared.statement.Statement.{Statement}
use Rattle.rh_task_text.specs.declared.statement.Statement.TheVariants as text
use Rattle.rh_rules.specs.declared.shape.Shape.{Shape}
use Rattle.rh_rules.specs.Kept.{KeptCheck}
use Rattle.rh_rules.specs.Tables.{LocalName, if_any, place_of, is_in, is_promise, number_of, lens_of, promise_number, is_matrix, matrix_number, matrix_shape}
use Rattle.rh_rules.specs.Facets.{facets, are_sides, terms_of, no_terms, sixteen_terms}
use Rattle.rh_rules.specs.Limits.{IsWithinLimits}
use Rattle.rh_rules.specs.declared.node.PlannedPromise.{PlannedPromise}
use Rattle.rh_rules.specs.Bodies.{HasWords, AreHalos, lens_at, promises_put}
use Rattle.rh_rules.specs.Lawful.{promise_lens, putter_of, IsAmong, IsFittingSpec}
use Rattle.rh_rules.specs.Above.{Facts, check_of, spec_asked, shape_used, lens_read}
use Rattle.rh_rules.specs.Rules.{is_put_here, is_among_first, is_await, is_unanswered}
use Rattle.rh_tables.proofs.Using.{neither, not_false}
use Rattle.rh_tables.proofs.SoundTasks.{IsShort, Grows, putter_within, inputs_grown, some_is}
use Rattle.rh_planner.proofs.SoundLets.{short_at, sides_fit, AreFirstShapes, matrix_there}

-- the check judges one of these puts and reads some of these awaits, by their lengths
pub record IsSoundCheck (shapes : List Shape) (ps : List PlannedPromise) (inputs puts : List ℕ) (check : KeptCheck) : Type 0 where
  pub put : IsAmong puts check.promise
  pub fits : IsFittingSpec shapes (lens_at (promise_lens ps) inputs) (slice_index (promise_lens ps) check.promise) check.user check.spec

-- what holds of all holds of one of them
among_has : (P : ℕ → Type 0) (xs : List ℕ) (y : ℕ) → AllByRecursion P xs → IsAmong xs y → P y
among_has P [] y all there = absurd (false≢true there)
among_has P (x ∷ xs) y all there = step (nat_eq x y) refl there (among_has P xs y all.1)
  where
    step : (b : Bool) → nat_eq x y ≡ b → (b || is_in y xs) ≡ true → (IsAmong xs y → P y) → P y
    step true same there rest = subst P (eqb-true x y same) all.0
    step false other there rest = rest there

-- a check of a put and awaits that are there stays sound when promises are declared and put
pub check_grown : (shapes : List Shape) (ps qs : List PlannedPromise) (v : ℕ) (inputs puts : List ℕ) (c : KeptCheck) → Grows ps qs → AllByRecursion (λ q. IsSomeAnd (putter_of ps q) (λ u. u < v)) inputs → AllByRecursion (λ q. putter_of ps q ≡ Some v) puts
    → IsSoundCheck shapes ps inputs puts c → IsSoundCheck shapes qs inputs puts c
check_grown shapes ps qs v inputs puts c grows awaited own sound =
    let (more, lens) = grows.lens in
    let there : c.promise < length (promise_lens ps) = putter_within ps c.promise v (among_has (λ q. putter_of ps q ≡ Some v) puts c.promise own sound.put) in
    let one : slice_index (promise_lens qs) c.promise ≡ slice_index (promise_lens ps) c.promise = ap (λ (l : List ℕ). slice_index l c.promise) lens ∙ get_or_append_left (promise_lens ps) more 0 c.promise there in
    let by_put = subst (λ (n : ℕ). IsFittingSpec shapes (lens_at (promise_lens ps) inputs) n c.user c.spec) (sym one) sound.fits in
    record {
      put = sound.put;
      fits = subst (λ (l : List ℕ). IsFittingSpec shapes l (slice_index (promise_lens qs) c.promise) c.user c.spec) (sym (inputs_grown ps qs v inputs grows awaited)) by_put;
    }

equal : (a b : ℕ) → (a == b) ≡ true → a ≡ b
equal a b e = eqb-true a b e

first_below : (o : Option ℕ) (n : ℕ) → if_any (λ i. nat_lt i n) o ≡ true → unwrap_or o 0 < n
first_below None n e = absurd (false≢true e)
first_below (Some i) n e = grind (arith, nat_tests)

-- the terms of awaits that are there
terms_read : (n : ℕ) (ls : List LocalName) (inputs : List (List ℕ)) (factors : List ℕ) → list_any (λ q. not (is_among_first n ls q)) inputs ≡ false → AllByRecursion (λ t. t.input < n) (terms_of (map (number_of ls) inputs) factors)
terms_read n ls [] factors e = tt
terms_read n ls (q ∷ inputs) [] e = tt
terms_read n ls (q ∷ inputs) (c ∷ factors) e =
    let (first, rest) = neither (not (is_among_first n ls q)) (list_any (λ q. not (is_among_first n ls q)) inputs) e in
    (first_below (place_of q ls) n (not_false (is_among_first n ls q) first), terms_read n ls inputs factors rest)

terms_counted : (ns cs : List ℕ) → length ns ≡ length cs → length (terms_of ns cs) ≡ length ns
terms_counted [] cs same = refl
terms_counted (n ∷ ns) [] same = absurd (omega arith)
terms_counted (n ∷ ns) (c ∷ cs) same = let rest = terms_counted ns cs (omega arith) in omega arith

pub first_terms : (ns cs : List ℕ) → length ns ≡ length cs → take (length ns) (sixteen_terms ns cs) ≡ terms_of ns cs
first_terms ns cs same =
    ap (λ (n : ℕ). take n (terms_of ns cs ++ drop (length ns) no_terms)) (sym (terms_counted ns cs same))
    ∙ take-append_seam (terms_of ns cs) (drop (length ns) no_terms)

-- the handed-in check of a name is kept
kept_there : (handed : HandedChecks) (o : Option ℕ) (name : List ℕ) → ArePaired handed → user_place handed name ≡ o → not (is_some o) ≡ false → is_some (slice_get handed.specs (unwrap_or o 0)) ≡ true
kept_there handed None name paired at e = absurd (false≢true (sym e))
kept_there handed (Some i) name paired at e =
    let h : i < length handed.names = (position-Some (λ (n : List ℕ). bytes_eq n name) handed.names i [] at).0 in
    ap is_some (slice_get-get_or handed.specs i (users.Total 0) (omega arith))

-- the length of the n-th await, by that of the local
await_len : (lens lens' more : List ℕ) (i : ℕ) → lens' ≡ lens ++ more → i < length lens → slice_index lens' i ≡ slice_index lens i
await_len lens lens' more i is there = ap (λ (l : List ℕ). slice_index l i) is ∙ get_or_append_left lens more 0 i there

-- an await that a check reads has words
await_words : (lens more : List ℕ) (n : ℕ) (ls : List LocalName) (x : List ℕ) → lens_of ls ≡ lens ++ more → n ≡ length lens → AllByRecursion IsShort (lens_of ls) → is_among_first n ls x ≡ true → HasWords lens (number_of ls x)
await_words lens more n ls x is long short first =
    let h : number_of ls x < n = first_below (place_of x ls) n first in
    let there : number_of ls x < length lens = omega arith in
    let all : AllByRecursion IsShort (lens ++ more) = subst (AllByRecursion IsShort) is short in
    let same : slice_index (lens ++ more) (number_of ls x) ≡ slice_index lens (number_of ls x) = get_or_append_left lens more 0 (number_of ls x) there in
    let wide : number_of ls x < length (lens ++ more) = (let l = length-append lens more in omega arith) in
    (there, subst (λ (k : ℕ). 0 < k) same (short_at (lens ++ more) (number_of ls x) all wide).0)

-- each of some awaits
awaits_words : (lens more : List ℕ) (n : ℕ) (ls : List LocalName) (xs : List (List ℕ)) → lens_of ls ≡ lens ++ more → n ≡ length lens → AllByRecursion IsShort (lens_of ls) → list_any (λ q. not (is_among_first n ls q)) xs ≡ false → AllByRecursion (λ x. HasWords lens (number_of ls x)) xs
awaits_words lens more n ls [] is long short e = tt
awaits_words lens more n ls (x ∷ xs) is long short e =
    let (first, rest) = neither (not (is_among_first n ls x)) (list_any (λ q. not (is_among_first n ls q)) xs) e in
    (await_words lens more n ls x is long short (not_false (is_among_first n ls x) first), awaits_words lens more n ls xs is long short rest)

pub check_sound : (shapes : List Shape) (handed : HandedChecks) (f : Facts) (s : Statement) (q : List ℕ) → ArePaired handed → AreFirstShapes shapes f.matrices → if_any (λ a. not (is_matrix f.matrices a)) (facets s).matrix ≡ false → IsWithinLimits s → (facets s).checked ≡ Some q
    → is_put_here f q ≡ true → list_any (λ x. not (is_await f x)) (facets s).inputs ≡ false → is_unanswered handed s ≡ false
    → (lens more : List ℕ) → lens ≡ lens_at (promise_lens f.promises) f.inputs → lens_of f.locals ≡ lens ++ more → AllByRecursion IsShort (lens_of f.locals)
    → (facets s).suits (shape_used f.matrices s) (slice_index (promise_lens f.promises) (promise_number f.promises q)) (lens_read f.locals s) ≡ true
    → IsSoundCheck shapes f.promises f.inputs (promises_put f.steps) (check_of handed (promise_number f.promises q) (spec_asked handed f.matrices f.locals s))
unfolding facets
check_sound shapes handed f (text.CheckRange promise lo hi) q paired first named within e put read asked lens more is all short suits = record { put = (and_parts (is_promise f.promises q) (is_in (promise_number f.promises q) (promises_put f.steps)) put).1; fits = tt }
check_sound shapes handed f (text.CheckTotal promise total) q paired first named within e put read asked lens more is all short suits = record { put = (and_parts (is_promise f.promises q) (is_in (promise_number f.promises q) (promises_put f.steps)) put).1; fits = tt }
check_sound shapes handed f (text.CheckLinear promise base inputs factors) q paired first named within e put read asked lens more is all short suits =
    let ns : List ℕ = map (number_of f.locals) inputs in
    let many : length ns ≡ length inputs = length-map inputs (number_of f.locals) in
    let few : length inputs ≤ 16 = within.0 in
    let pairs : length inputs ≡ length factors = within.1 in
    let terms = terms_read (length f.inputs) f.locals inputs factors read in
    record {
      put = (and_parts (is_promise f.promises q) (is_in (promise_number f.promises q) (promises_put f.steps)) put).1;
      fits = (
        omega arith,
        subst (λ (n : ℕ). AllByRecursion (λ t. t.input < n) (take (length ns) (sixteen_terms ns factors))) (sym (length-map f.inputs (λ q. slice_index (promise_lens f.promises) q)))
            (subst (AllByRecursion (λ t. t.input < length f.inputs)) (sym (first_terms ns factors (omega arith))) terms),
      );
    }
check_sound shapes handed f (text.CheckConserve promise l m r k s) q paired first named within e put read asked lens more is all short suits =
    let ls = f.locals in
    let long : length f.inputs ≡ length lens = sym (length-map f.inputs (λ i. slice_index (promise_lens f.promises) i)) ∙ ap length (sym is) in
    let words = awaits_words lens more (length f.inputs) ls (l ∷ m ∷ r ∷ []) all long short read in
    let same = equal (slice_index (promise_lens f.promises) (promise_number f.promises q)) (slice_index (lens_of ls) (number_of ls m)) suits in
    record {
      put = (and_parts (is_promise f.promises q) (is_in (promise_number f.promises q) (promises_put f.steps)) put).1;
      fits = subst (λ (ns : List ℕ). HasWords ns (number_of ls l) × HasWords ns (number_of ls m) × HasWords ns (number_of ls r) × (s ≤ 63) × (slice_index (promise_lens f.promises) (promise_number f.promises q) ≡ slice_index ns (number_of ls m))) is
          (words.0, words.1.0, words.1.1.0, within, same ∙ await_len lens (lens_of ls) more (number_of ls m) all words.1.0.0);
    }
check_sound shapes handed f (text.CheckConserve2 promise north south west east m cols k s) q paired first named within e put read asked lens more is all short suits =
    let ls = f.locals in
    let long : length f.inputs ≡ length lens = sym (length-map f.inputs (λ i. slice_index (promise_lens f.promises) i)) ∙ ap length (sym is) in
    let words = awaits_words lens more (length f.inputs) ls (north ∷ south ∷ west ∷ east ∷ m ∷ []) all long short read in
    let n = slice_index (promise_lens f.promises) (promise_number f.promises q) in
    let (as_long, sided) = and_parts (n == slice_index (lens_of ls) (number_of ls m)) (are_sides cols (lens_read ls (text.CheckConserve2 promise north south west east m cols k s))) suits in
    let sides = sides_fit cols (lens_read ls (text.CheckConserve2 promise north south west east m cols k s)) sided in
    let at = λ (x : List ℕ) (there : number_of ls x < length lens). await_len lens (lens_of ls) more (number_of ls x) all there in
    let is_north = at north words.0.0 in
    let is_south = at south words.1.0.0 in
    let is_west = at west words.1.1.0.0 in
    let is_east = at east words.1.1.1.0.0 in
    let is_m = at m words.1.1.1.1.0.0 in
    let halos : AreHalos lens (number_of ls north) (number_of ls south) (number_of ls west) (number_of ls east) (number_of ls m) cols = record {
      there = (words.0.0, words.1.0.0, words.1.1.0.0, words.1.1.1.0.0, words.1.1.1.1.0.0);
      columns = within.0;
      rows = words.1.1.0.1;
      north_len = sym is_north ∙ sides.north;
      south_len = sym is_south ∙ sides.south;
      east_len = sym is_east ∙ sym sides.east ∙ is_west;
      whole = sym is_m ∙ sym sides.whole ∙ ap (λ (k : ℕ). k * cols) is_west;
    } in
    record {
      put = (and_parts (is_promise f.promises q) (is_in (promise_number f.promises q) (promises_put f.steps)) put).1;
      fits = subst (λ (ns : List ℕ). AreHalos ns (number_of ls north) (number_of ls south) (number_of ls west) (number_of ls east) (number_of ls m) cols × (s ≤ 63) × (n ≡ slice_index ns (number_of ls m))) is
          (halos, within.1, equal n (slice_index (lens_of ls) (number_of ls m)) as_long ∙ is_m);
    }
check_sound shapes handed f (text.CheckProduct promise a x) q paired first named within e put read asked lens more is all short suits =
    let ls = f.locals in
    let m = matrix_there shapes f.matrices a first (not_false (is_matrix f.matrices a) named) in
    let long : length f.inputs ≡ length lens = sym (length-map f.inputs (λ i. slice_index (promise_lens f.promises) i)) ∙ ap length (sym is) in
    let words = awaits_words lens more (length f.inputs) ls (x ∷ []) all long short read in
    let n = slice_index (promise_lens f.promises) (promise_number f.promises q) in
    let (high, wide) = and_parts (n == (matrix_shape f.matrices a).rows) (slice_index (lens_of ls) (number_of ls x) == (matrix_shape f.matrices a).cols) suits in
    let cols : slice_index lens (number_of ls x) ≡ (matrix_shape f.matrices a).cols = sym (await_len lens (lens_of ls) more (number_of ls x) all words.0.0) ∙ equal _ _ wide in
    let there = some_is (λ (s : Shape). (slice_index lens (number_of ls x) ≡ s.cols) × (n ≡ s.rows)) (slice_get shapes (matrix_number f.matrices a)) (matrix_shape f.matrices a) m.at (cols, equal _ _ high) in
    record {
      put = (and_parts (is_promise f.promises q) (is_in (promise_number f.promises q) (promises_put f.steps)) put).1;
      fits = subst (λ (ns : List ℕ). (number_of ls x < length ns) × IsSomeAnd (slice_get shapes (matrix_number f.matrices a)) (λ s. (slice_index ns (number_of ls x) ≡ s.cols) × (n ≡ s.rows))) is (words.0.0, there);
    }
check_sound shapes handed f (text.CheckUser promise check) q paired first named within e put read asked lens more is all short suits = record {
  put = (and_parts (is_promise f.promises q) (is_in (promise_number f.promises q) (promises_put f.steps)) put).1;
  fits = kept_there handed (user_place handed check) check paired refl asked;
}
check_sound shapes handed f s q paired first named within e put read asked lens more is all short suits = absurd (none-some q e)
