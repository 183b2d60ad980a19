-- The names of the locals of a task: its awaits and the results of its `let` lines, each once.
use Rattle.std.proofs.Common.{◌≡◌, ℕ, zero, suc, ◌+◌, ◌<◌, List, [], ◌∷◌, ◌++◌, Bool, true, false, not, ◌||◌, Some, length, map, drop, refl, arith, ap, sym, ◌∙◌, subst, append_assoc, append-nil, length-append}
use Rattle.std.specs.Prelude.{slice_get, slice_index_or, IsSomeAnd}
use Rattle.std.specs.List.{AllByRecursion, IsDistinct, list_any}
use Rattle.std.specs.Str.{bytes_eq}
use Rattle.std.specs.Cmp.Lexicographic.{nat_list_eq_equiv}
use Rattle.std.proofs.lemmas.Bool.{false≢true, true≢false, and_parts}
use Rattle.std.proofs.lemmas.List.{map-append, length-map, drop-append-le, get_or_append_left}
use Rattle.std.proofs.lemmas.Map.Keys.{IsDistinct-push}
use Rattle.std.proofs.lemmas.Option.{none-some, same_Some}
use Rattle.std.proofs.Math.ListN.{drop_of_length-le}
use Rattle.rh_words.specs.Naming.{is_name}
use Rattle.rh_rules.specs.declared.node.PlannedPromise.{PlannedPromise}
use Rattle.rh_rules.specs.Tables.{LocalName, local, is_among, is_local, is_promise, promise_number}
use Rattle.rh_rules.specs.Lawful.{promise_lens, putter_of, names_at}
use Rattle.rh_rules.specs.Rules.{are_distinct}
use Rattle.rh_rules.specs.Above.{await_local, lets_of}
use Rattle.rh_tables.proofs.FirstPlaces.{is_some_position}
use Rattle.rh_tables.proofs.Using.{neither}
use Rattle.rh_planner.proofs.DeclaredPromises.{declared, mapped_at, name_is, same_name}
use Rattle.rh_tables.proofs.SoundTasks.{Grows, all_append, awaited_within}

abbrev pub name_of : LocalName → List ℕ
name_of t = t.name

-- The locals are the awaits, by the names of their promises, then the results of `let` lines, which have names. No name stands twice.
pub record AreNamedLocals (ps : List PlannedPromise) (inputs : List ℕ) (locals : List LocalName) : Type 0 where
  pub parts : map name_of locals ≡ names_at ps inputs ++ lets_of inputs locals
  pub once : IsDistinct bytes_eq (map name_of locals)
  pub lets : AllByRecursion (λ n. is_name n ≡ true) (lets_of inputs locals)

no_name : IsDistinct bytes_eq []
unfolding IsDistinct
no_name = tt

pub no_locals : (ps : List PlannedPromise) → AreNamedLocals ps [] []
no_locals ps = record { parts = refl; once = no_name; lets = tt }

-- there are as many names as locals
pub all_counted : (ps : List PlannedPromise) (inputs : List ℕ) (locals : List LocalName) → AreNamedLocals ps inputs locals → length inputs + length (lets_of inputs locals) ≡ length locals
all_counted ps inputs locals h =
    let whole : length (map name_of locals) ≡ length (names_at ps inputs ++ lets_of inputs locals) = ap length h.parts in
    let split = length-append (names_at ps inputs) (lets_of inputs locals) in
    let mapped : length (map name_of locals) ≡ length locals = length-map locals name_of in
    let awaited : length (names_at ps inputs) ≡ length inputs = length-map inputs (λ q. slice_index_or (map (λ p. p.name) ps) q []) in
    omega arith

-- the names of promises that are there stay
kept_names : (names more : List (List ℕ)) (numbers : List ℕ) → AllByRecursion (λ q. q < length names) numbers → map (λ q. slice_index_or (names ++ more) q []) numbers ≡ map (λ q. slice_index_or names q []) numbers
kept_names names more [] all = refl
kept_names names more (q ∷ numbers) all =
    let h : q < length names = all.0 in
    ap (λ (n : List ℕ). n ∷ map (λ q. slice_index_or (names ++ more) q []) numbers) (get_or_append_left names more [] q h)
    ∙ ap (λ (l : List (List ℕ)). slice_index_or names q [] ∷ l) (kept_names names more numbers all.1)

within_names : (ps : List PlannedPromise) (numbers : List ℕ) → AllByRecursion (λ q. q < length (promise_lens ps)) numbers → AllByRecursion (λ q. q < length (map (λ (p : PlannedPromise). p.name) ps)) numbers
within_names ps [] all = tt
within_names ps (q ∷ numbers) all =
    let h : q < length (promise_lens ps) = all.0 in
    let lens : length (promise_lens ps) ≡ length ps = length-map ps (λ p. p.len) in
    let names : length (map (λ (p : PlannedPromise). p.name) ps) ≡ length ps = length-map ps (λ p. p.name) in
    (omega arith, within_names ps numbers all.1)

pub names_grown : (ps qs : List PlannedPromise) (v : ℕ) (inputs : List ℕ) → Grows ps qs → AllByRecursion (λ q. IsSomeAnd (putter_of ps q) (λ u. u < v)) inputs → names_at qs inputs ≡ names_at ps inputs
names_grown ps qs v inputs grows awaited =
    let (more, names) = grows.names in
    ap (λ (l : List (List ℕ)). map (λ q. slice_index_or l q []) inputs) names ∙ kept_names (map (λ p. p.name) ps) more inputs (within_names ps inputs (awaited_within ps v inputs awaited))

pub locals_named_grown : (ps qs : List PlannedPromise) (v : ℕ) (inputs : List ℕ) (locals : List LocalName) → Grows ps qs → AllByRecursion (λ q. IsSomeAnd (putter_of ps q) (λ u. u < v)) inputs → AreNamedLocals ps inputs locals → AreNamedLocals qs inputs locals
locals_named_grown ps qs v inputs locals grows awaited h = record {
  parts = h.parts ∙ ap (λ (l : List (List ℕ)). l ++ lets_of inputs locals) (sym (names_grown ps qs v inputs grows awaited));
  once = h.once;
  lets = h.lets;
}

-- ---- a task is opened

name_here : (names : List (List ℕ)) (i : ℕ) (n : List ℕ) → slice_get names i ≡ Some n → slice_index_or names i [] ≡ n
name_here [] i n e = absurd (none-some n e)
name_here (m ∷ names) zero n e = same_Some m n e
name_here (m ∷ names) (suc i) n e = name_here names i n e

names_back : (ps : List PlannedPromise) (awaits : List (List ℕ)) → AllByRecursion (λ q. is_promise ps q ≡ true) awaits → names_at ps (map (promise_number ps) awaits) ≡ awaits
names_back ps [] known = refl
names_back ps (q ∷ awaits) known =
    let (p, d) = declared ps q known.0 in
    let here : slice_index_or (map (λ (x : PlannedPromise). x.name) ps) (promise_number ps q) [] ≡ q = name_here (map (λ (x : PlannedPromise). x.name) ps) (promise_number ps q) p.name (mapped_at (λ (x : PlannedPromise). x.name) ps (promise_number ps q) p d.at) ∙ d.named in
    ap (λ (n : List ℕ). n ∷ names_at ps (map (promise_number ps) awaits)) here
    ∙ ap (λ (l : List (List ℕ)). q ∷ l) (names_back ps awaits known.1)

await_names : (ps : List PlannedPromise) (awaits : List (List ℕ)) → map name_of (map (await_local ps) awaits) ≡ awaits
await_names ps [] = refl
await_names ps (q ∷ awaits) = ap (λ (l : List (List ℕ)). q ∷ l) (await_names ps awaits)

apart : (x : List ℕ) (names : List (List ℕ)) → is_among x names ≡ false → AllByRecursion (λ n. bytes_eq x n ≡ false) names
apart x [] e = tt
apart x (n ∷ names) e =
    let (first, rest) = neither (bytes_eq n x) (is_among x names) e in
    (other (bytes_eq x n) refl first, apart x names rest)
  where
    other : (b : Bool) → bytes_eq x n ≡ b → bytes_eq n x ≡ false → b ≡ false
    other true is differs = absurd (true≢false (sym (name_is n x (sym (same_name x n is))) ∙ differs))
    other false is differs = refl

pub once_distinct : (names : List (List ℕ)) → are_distinct names ≡ true → IsDistinct bytes_eq names
unfolding IsDistinct
once_distinct [] e = tt
once_distinct (x ∷ names) e =
    let (first, rest) = and_parts (not (is_among x names)) (are_distinct names) e in
    (apart x names (is_false (is_among x names) first), once_distinct names rest)
  where
    is_false : (b : Bool) → not b ≡ true → b ≡ false
    is_false true e = absurd (false≢true e)
    is_false false e = refl

pub locals_opened : (ps : List PlannedPromise) (awaits : List (List ℕ)) → AllByRecursion (λ q. is_promise ps q ≡ true) awaits → are_distinct awaits ≡ true → AreNamedLocals ps (map (promise_number ps) awaits) (map (await_local ps) awaits)
locals_opened ps awaits known distinct =
    let locals : List LocalName = map (await_local ps) awaits in
    let inputs : List ℕ = map (promise_number ps) awaits in
    let few : length inputs ≡ length awaits = length-map awaits (promise_number ps) in
    let many : length locals ≡ length awaits = length-map awaits (await_local ps) in
    let none : lets_of inputs locals ≡ [] = ap (map name_of) (drop_of_length-le locals (omega arith)) in
    record {
      parts = await_names ps awaits ∙ sym (names_back ps awaits known) ∙ sym (append-nil (names_at ps inputs)) ∙ ap (λ (l : List (List ℕ)). names_at ps inputs ++ l) (sym none);
      once = subst (IsDistinct bytes_eq) (sym (await_names ps awaits)) (once_distinct awaits distinct);
      lets = subst (AllByRecursion (λ n. is_name n ≡ true)) (sym none) tt;
    }

-- ---- one more local

fresh_name : (locals : List LocalName) (x : List ℕ) → is_local locals x ≡ false → list_any (bytes_eq x) (map name_of locals) ≡ false
fresh_name locals x e = none locals (sym (is_some_position (λ (t : LocalName). bytes_eq t.name x) locals) ∙ e)
  where
    none : (ls : List LocalName) → list_any (λ t. bytes_eq t.name x) ls ≡ false → list_any (bytes_eq x) (map name_of ls) ≡ false
    none [] h = refl
    none (t ∷ ls) h =
        let (first, rest) = neither (bytes_eq t.name x) (list_any (λ t. bytes_eq t.name x) ls) h in
        one (bytes_eq x t.name) refl first (none ls rest)
      where
        one : (b : Bool) → bytes_eq x t.name ≡ b → bytes_eq t.name x ≡ false → list_any (bytes_eq x) (map name_of ls) ≡ false → (b || list_any (bytes_eq x) (map name_of ls)) ≡ false
        one true is differs more = absurd (true≢false (sym (name_is t.name x (sym (same_name x t.name is))) ∙ differs))
        one false is differs more = more

pub locals_pushed : (ps : List PlannedPromise) (inputs : List ℕ) (locals : List LocalName) (x : List ℕ) (len : ℕ) → AreNamedLocals ps inputs locals → is_local locals x ≡ false → is_name x ≡ true → AreNamedLocals ps inputs (locals ++ local x len ∷ [])
locals_pushed ps inputs locals x len h fresh named =
    let counted = all_counted ps inputs locals h in
    let lets : lets_of inputs (locals ++ local x len ∷ []) ≡ lets_of inputs locals ++ x ∷ [] =
    ap (map name_of) (drop-append-le (length inputs) locals (local x len ∷ []) (omega arith)) ∙ map-append name_of (drop (length inputs) locals) (local x len ∷ []) in
    let names : map name_of (locals ++ local x len ∷ []) ≡ map name_of locals ++ x ∷ [] = map-append name_of locals (local x len ∷ []) in
    record {
      parts = names ∙ ap (λ (l : List (List ℕ)). l ++ x ∷ []) h.parts ∙ append_assoc (names_at ps inputs) (lets_of inputs locals) (x ∷ []) ∙ ap (λ (l : List (List ℕ)). names_at ps inputs ++ l) (sym lets);
      once = subst (IsDistinct bytes_eq) (sym names) (IsDistinct-push nat_list_eq_equiv (map name_of locals) x h.once (fresh_name locals x fresh));
      lets = subst (AllByRecursion (λ n. is_name n ≡ true)) (sym lets) (all_append (λ n. is_name n ≡ true) (lets_of inputs locals) (x ∷ []) h.lets (named, tt));
    }
