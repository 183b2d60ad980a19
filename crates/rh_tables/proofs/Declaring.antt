-- One more name, promise or put among what is declared.
use Rattle.std.proofs.Common.{◌≡◌, ℕ, ◌+◌, ◌<◌, ◌≤◌, List, [], ◌∷◌, ◌++◌, Bool, true, false, cond, ◌||◌, ◌&&◌, not, Option, Some, None, map, length, refl, ap, sym, ◌∙◌, subst, arith, suc, sum, set, get_or, length-append, ◌⊎◌, inl, inr}
use Rattle.std.proofs.Math.ListN.{length-set}
use Rattle.std.proofs.Math.Seq.{map-set_same}
use Rattle.std.specs.Prelude.{IfSome, slice_get, option_and_then, nat_lt, nat_le}
use Rattle.std.specs.Option.{is_some}
use Rattle.std.specs.Cmp.Lexicographic.{nat_list_eq_equiv}
use Rattle.std.specs.Str.{bytes_eq}
use Rattle.std.specs.HashMap.{HashMap}
use Rattle.std.specs.Map.{lookup}
use Rattle.rh_words.specs.declared.name_key.NameKey.{NameKey}
use Rattle.rh_words.specs.NameKeys.{name_key, keys_eq}
use Rattle.std.specs.List.{position, list_any, IsDistinct, AllByRecursion}
use Rattle.std.proofs.lemmas.Map.Keys.{IsDistinct-push, IsDistinct-head, IsDistinct-tail}
use Rattle.std.proofs.lemmas.List.Folds.{list_any-append}
use Rattle.std.proofs.lemmas.List.Quantifiers.{position-Some}
use Rattle.std.proofs.lemmas.List.{map-append}
use Rattle.std.proofs.lemmas.List.Sums.{sum-map, sum_by_push}
use Rattle.std.proofs.lemmas.Slice.Eq.{bytes_eq-Decides}
use Rattle.std.proofs.lemmas.Bool.{false≢true}
use Rattle.std.proofs.lemmas.Bool.Decides.{nat_tests}
use Rattle.rh_rules.specs.declared.node.PlannedPromise.{PlannedPromise}
use Rattle.rh_rules.specs.Tables.{putting, declared_promise, is_among, promise_at, is_put, if_any}
use Rattle.rh_rules.specs.Above.{words_in, shown_in}
use Rattle.rh_rules.specs.Rules.{is_promise_over}
use Rattle.rh_tables.specs.Declarations.{AreFound, IsNoted, at_name, number_found}
use Rattle.rh_words.specs.Naming.{is_name}
use Rattle.rh_words.specs.NameKeys.{KeysTellNames}
use Rattle.rh_rules.specs.Tables.{or_else, given}
use Rattle.rh_tables.proofs.FirstPlaces.{place_or, first_place, next_place, position_push, position-first, position_map, is_some_position}

abbrev Known : Type 0 → Type 0
Known S = HashMap NameKey (Option ℕ) S

same_name : (a b : List ℕ) → bytes_eq a b ≡ true → a ≡ b
same_name a b h = (bytes_eq-Decides a b).0 h

-- a look-up after an insertion, by the bytes
inserted_at : KeysTellNames → {S : Type 0} (old new : Known S) (name : List ℕ) (number : Option ℕ) → is_name name ≡ true → IsNoted old new name number → (q : List ℕ) → is_name q ≡ true → at_name new q ≡ cond (bytes_eq name q) (Some number) (at_name old q)
inserted_at law old new name number is h q named = h q ∙ ap (λ t. cond t (Some number) (at_name old q)) (law name q is named)

some_or : (t : Bool) (n : Option ℕ) (o : Option (Option ℕ)) (u : Bool) → is_some o ≡ u → is_some (cond t (Some n) o) ≡ (u || (t || false))
some_or true n o true h = refl
some_or true n o false h = refl
some_or false n o true h = h
some_or false n o false h = h

there_after : KeysTellNames → {S : Type 0} (old new : Known S) (names : List (List ℕ)) (name : List ℕ) (number : Option ℕ) → is_name name ≡ true → ((q : List ℕ) → is_name q ≡ true → is_some (at_name old q) ≡ is_among q names) → IsNoted old new name number
    → (q : List ℕ) → is_name q ≡ true → is_some (at_name new q) ≡ is_among q (names ++ name ∷ [])
there_after law old new names name number is there h q named =
    ap is_some (inserted_at law old new name number is h q named)
    ∙ some_or (bytes_eq name q) number (at_name old q) (is_among q names) (there q named)
    ∙ sym (list_any-append (λ n. bytes_eq n q) names (name ∷ []))

none_of : (o : Option (Option ℕ)) → is_some o ≡ false → number_found o ≡ None
none_of None e = refl
none_of (Some n) e = absurd (false≢true (sym e))

-- a name that is not declared has no promise
no_promise : {S : Type 0} → (known : Known S) (names : List (List ℕ)) (promises : List PlannedPromise) (w s : ℕ) → AreFound known names promises w s → (q : List ℕ) → is_name q ≡ true → is_among q names ≡ false → promise_at q promises ≡ None
no_promise known names promises w s found q is fresh = sym (found.number q is) ∙ none_of (at_name known q) (found.there q is ∙ fresh)

number_kept : (t : Bool) (o : Option (Option ℕ)) (p : Option ℕ) → number_found o ≡ p → (t ≡ true → p ≡ None) → number_found (cond t (Some None) o) ≡ p
number_kept true o p h fresh = sym (fresh refl)
number_kept false o p h fresh = h

pub name_found : KeysTellNames → {S : Type 0} (old new : Known S) (names : List (List ℕ)) (promises : List PlannedPromise) (w s : ℕ) (name : List ℕ) → is_name name ≡ true → AreFound old names promises w s → is_among name names ≡ false → IsNoted old new name None
    → AreFound new (names ++ name ∷ []) promises w s
name_found law old new names promises w s name is found fresh h = record {
  there = there_after law old new names name None is found.there h;
  number = λ q named. ap number_found (inserted_at law old new name None is h q named)
      ∙ number_kept (bytes_eq name q) (at_name old q) (promise_at q promises) (found.number q named)
      (λ e. subst (λ (n : List ℕ). promise_at n promises ≡ None) (same_name name q e) (no_promise old names promises w s found name is fresh));
  distinct = found.distinct;
  words = found.words;
  shown = found.shown;
  few = found.few;
  total = found.total;
  shown_total = found.shown_total;
}

-- a map of the same entries finds the same
pub same_found : {S : Type 0} (old new : Known S) (names : List (List ℕ)) (promises : List PlannedPromise) (w s : ℕ) → new.entries ≡ old.entries → AreFound old names promises w s → AreFound new names promises w s
same_found old new names promises w s same found = record {
  there = λ q named. ap (λ (es : List (NameKey × Option ℕ)). is_some (lookup (keys_eq (name_key q)) es)) same ∙ found.there q named;
  number = λ q named. ap (λ (es : List (NameKey × Option ℕ)). number_found (lookup (keys_eq (name_key q)) es)) same ∙ found.number q named;
  distinct = found.distinct;
  words = found.words;
  shown = found.shown;
  few = found.few;
  total = found.total;
  shown_total = found.shown_total;
}

number_added : (t : Bool) (n : ℕ) (o : Option (Option ℕ)) (p : Option ℕ) → number_found o ≡ p → (t ≡ true → p ≡ None) → number_found (cond t (Some (Some n)) o) ≡ place_or p (cond t (Some n) None)
number_added true n o p h fresh = ap (λ x. place_or x (Some n)) (sym (fresh refl))
number_added false n o p h fresh = h ∙ kept p
  where
    kept : (p : Option ℕ) → p ≡ place_or p None
    kept None = refl
    kept (Some i) = refl

pub sum_map_push : {X : Type 0} (f : X → ℕ) (xs : List X) (x : X) → sum (map f (xs ++ x ∷ [])) ≡ sum (map f xs) + f x
sum_map_push f xs x = sum-map f (xs ++ x ∷ []) ∙ sum_by_push f xs x ∙ ap (λ n. n + f x) (sym (sum-map f xs))

none_any : (o : Option ℕ) → o ≡ None → is_some o ≡ false
none_any o e = ap is_some e

list_any_names : (q : List ℕ) (ps : List PlannedPromise) → list_any (bytes_eq q) (map (λ p. p.name) ps) ≡ list_any (λ p. bytes_eq p.name q) ps
list_any_names q [] = refl
list_any_names q (p ∷ ps) = ap (λ t. t || list_any (bytes_eq q) (map (λ p. p.name) ps)) (nat_list_eq_equiv.symm q p.name) ∙ ap (λ t. bytes_eq p.name q || t) (list_any_names q ps)

neither : (a b : Bool) → (a || b) ≡ false → (a ≡ false) × (b ≡ false)
neither true b e = absurd (false≢true (sym e))
neither false b e = (refl, e)

-- where one more promise is not over a limit, there are fewer than the most
pub room_left : (promises : List PlannedPromise) (p : PlannedPromise) → is_promise_over promises p ≡ false → length promises < 16384
room_left promises p room =
    let (first, third) = neither (nat_le 16384 (length promises) || nat_lt 16777216 (words_in promises + p.len)) (nat_lt 1048576 (shown_in promises + shown_in (p ∷ []))) room in
    let (one, two) = neither (nat_le 16384 (length promises)) (nat_lt 16777216 (words_in promises + p.len)) first in
    grind (arith, nat_tests)

pub promise_found : KeysTellNames → {S : Type 0} (old new : Known S) (names : List (List ℕ)) (promises : List PlannedPromise) (w s : ℕ) (p : PlannedPromise) → is_name p.name ≡ true → AreFound old names promises w s → is_among p.name names ≡ false
    → IsNoted old new p.name (Some (length promises)) → is_promise_over promises p ≡ false
    → AreFound new (names ++ p.name ∷ []) (promises ++ p ∷ []) (w + p.len) (s + cond (not p.temp && not p.scope) p.len 0)
promise_found law old new names promises w s p is found fresh h room = record {
  there = there_after law old new names p.name (Some (length promises)) is found.there h;
  number = λ q named. ap number_found (inserted_at law old new p.name (Some (length promises)) is h q named)
      ∙ number_added (bytes_eq p.name q) (length promises) (at_name old q) (promise_at q promises) (found.number q named)
      (λ e. subst (λ (n : List ℕ). promise_at n promises ≡ None) (same_name p.name q e) absent)
      ∙ sym (position_push (λ x. bytes_eq x.name q) promises p);
  distinct = subst (IsDistinct bytes_eq) (sym (map-append (λ x. x.name) promises (p ∷ [])))
      (IsDistinct-push nat_list_eq_equiv (map (λ x. x.name) promises) p.name found.distinct
      (list_any_names p.name promises ∙ sym (is_some_position (λ x. bytes_eq x.name p.name) promises) ∙ none_any (promise_at p.name promises) absent));
  words = ap (λ n. n + p.len) found.words ∙ sym (sum_map_push (λ x. x.len) promises p);
  shown = ap (λ n. n + cond (not p.temp && not p.scope) p.len 0) found.shown ∙ sym (sum_map_push (λ x. cond (not x.temp && not x.scope) x.len 0) promises p);
  few = limits.0;
  total = limits.1;
  shown_total = limits.2;
}
  where
    absent : promise_at p.name promises ≡ None
    absent = no_promise old names promises w s found p.name is fresh

    limits : (length (promises ++ p ∷ []) ≤ 16384) × (w + p.len ≤ 16777216) × (s + cond (not p.temp && not p.scope) p.len 0 ≤ 1048576)
    limits =
        let (first, third) = neither (nat_le 16384 (length promises) || nat_lt 16777216 (words_in promises + p.len)) (nat_lt 1048576 (shown_in promises + shown_in (p ∷ []))) room in
        let (one, two) = neither (nat_le 16384 (length promises)) (nat_lt 16777216 (words_in promises + p.len)) first in
        let words : w ≡ words_in promises = found.words in
        let shown : s ≡ shown_in promises = found.shown in
        let len : length (promises ++ p ∷ []) ≡ length promises + 1 = length-append promises (p ∷ []) in
        (grind (arith, nat_tests), grind (arith, nat_tests), grind (arith, nat_tests))

-- nothing is found in an empty map
pub none_there : {S : Type 0} → (known : Known S) → known.entries ≡ [] → (q : List ℕ) → is_name q ≡ true → is_some (at_name known q) ≡ false
none_there known e q named = rw e refl

pub none_numbered : {S : Type 0} → (known : Known S) → known.entries ≡ [] → (q : List ℕ) → is_name q ≡ true → number_found (at_name known q) ≡ None
none_numbered known e q named = rw e refl

-- promises that do not have this name are not given this put
others_stay : (q : List ℕ) (node : ℕ) (ps : List PlannedPromise) → AllByRecursion (λ n. bytes_eq q n ≡ false) (map (λ p. p.name) ps) → ps ≡ map (given (putting q node)) ps
others_stay q node [] apart = refl
others_stay q node (p ∷ ps) apart =
    ap (λ (l : List PlannedPromise). p ∷ l) (others_stay q node ps apart.1)
    ∙ ap (λ t. cond t (record p { putter = or_else p.putter (Some node) }) p ∷ map (given (putting q node)) ps) (sym apart.0)

none_put : (o : Option ℕ) (node : ℕ) → is_some o ≡ false → Some node ≡ or_else o (Some node)
none_put None node e = refl
none_put (Some n) node e = absurd (false≢true (sym e))

next_some : (o : Option ℕ) (i : ℕ) → next_place o ≡ Some i → (j : ℕ) × (i ≡ suc j) × (o ≡ Some j)
next_some None i e = cc
next_some (Some j) i e = (j, cc, refl)

first_cases : (t : Bool) (o : Option ℕ) (i : ℕ) → cond t (Some 0) (next_place o) ≡ Some i → ((t ≡ true) × (i ≡ 0)) ⊎ ((t ≡ false) × ((j : ℕ) × (i ≡ suc j) × (o ≡ Some j)))
first_cases true o i e = inl (refl, cc)
first_cases false o i e = inr (refl, next_some o i e)

put_first : (q : List ℕ) (node i : ℕ) (ps : List PlannedPromise) (d : PlannedPromise) → IsDistinct bytes_eq (map (λ p. p.name) ps) → first_place (λ p. bytes_eq p.name q) ps ≡ Some i → if_any (λ p. is_some p.putter) (slice_get ps i) ≡ false
    → set ps i (record (get_or ps i d) { putter = Some node }) ≡ map (given (putting q node)) ps
put_first q node i [] d distinct found unput = cc
put_first q node i (p ∷ ps) d distinct found unput = elim (first_cases (bytes_eq p.name q) (first_place (λ p. bytes_eq p.name q) ps) i found) [
  | inl (same, zero_is) ↦
      let named : p.name ≡ q = same_name p.name q same in
      let head : if_any (λ p. is_some p.putter) (slice_get (p ∷ ps) 0) ≡ false = subst (λ (k : ℕ). if_any (λ (x : PlannedPromise). is_some x.putter) (slice_get (p ∷ ps) k) ≡ false) zero_is unput in
      let flipped : bytes_eq q p.name ≡ true = nat_list_eq_equiv.symm q p.name ∙ same in
      let apart = IsDistinct-head bytes_eq p.name (map (λ x. x.name) ps) distinct in
      ap (λ k. set (p ∷ ps) k (record (get_or (p ∷ ps) k d) { putter = Some node })) zero_is
      ∙ ap (λ (o : Option ℕ). record p { putter = o } ∷ ps) (none_put p.putter node head)
      ∙ ap (λ (l : List PlannedPromise). record p { putter = or_else p.putter (Some node) } ∷ l) (others_stay q node ps (subst (λ (n : List ℕ). AllByRecursion (λ m. bytes_eq n m ≡ false) (map (λ x. x.name) ps)) named apart))
      ∙ ap (λ t. cond t (record p { putter = or_else p.putter (Some node) }) p ∷ map (given (putting q node)) ps) (sym flipped)
  | inr (other, (j, suc_is, rest)) ↦
      let flipped : bytes_eq q p.name ≡ false = nat_list_eq_equiv.symm q p.name ∙ other in
      ap (λ k. set (p ∷ ps) k (record (get_or (p ∷ ps) k d) { putter = Some node })) suc_is
      ∙ ap (λ (l : List PlannedPromise). p ∷ l) (put_first q node j ps d (IsDistinct-tail bytes_eq p.name (map (λ x. x.name) ps) distinct) rest (subst (λ (k : ℕ). if_any (λ (x : PlannedPromise). is_some x.putter) (slice_get (p ∷ ps) k) ≡ false) suc_is unput))
      ∙ ap (λ t. cond t (record p { putter = or_else p.putter (Some node) }) p ∷ map (given (putting q node)) ps) (sym flipped)
]

-- another putter changes neither the names nor the lengths
pub put_found : {S : Type 0} → (known : Known S) (names : List (List ℕ)) (ps : List PlannedPromise) (w s i : ℕ) (y d : PlannedPromise) → AreFound known names ps w s
    → y.name ≡ (get_or ps i d).name → y.len ≡ (get_or ps i d).len → y.temp ≡ (get_or ps i d).temp → y.scope ≡ (get_or ps i d).scope → AreFound known names (set ps i y) w s
put_found known names ps w s i y d found name len temp scope =
    let same_names : map (λ p. p.name) (set ps i y) ≡ map (λ p. p.name) ps = map-set_same (λ p. p.name) ps i y d name in
    let same_shown : cond (not y.temp && not y.scope) y.len 0 ≡ cond (not (get_or ps i d).temp && not (get_or ps i d).scope) (get_or ps i d).len 0 = rw (temp, scope, len) refl in
    record {
      there = found.there;
      number = λ q named. found.number q named
          ∙ sym (position_map (λ p. p.name) (λ n. bytes_eq n q) ps)
          ∙ ap (λ l. position (λ n. bytes_eq n q) l) (sym same_names)
          ∙ position_map (λ p. p.name) (λ n. bytes_eq n q) (set ps i y);
      distinct = subst (IsDistinct bytes_eq) (sym same_names) found.distinct;
      words = found.words ∙ ap sum (sym (map-set_same (λ p. p.len) ps i y d len));
      shown = found.shown ∙ ap sum (sym (map-set_same (λ p. cond (not p.temp && not p.scope) p.len 0) ps i y d same_shown));
      few = let same : length (set ps i y) ≡ length ps = length-set ps i y in rw same found.few;
      total = found.total;
      shown_total = found.shown_total;
    }

-- the promise of a name with a putter
pub put_named : (ps : List PlannedPromise) (q : List ℕ) (node i : ℕ) (y d : PlannedPromise) → IsDistinct bytes_eq (map (λ p. p.name) ps) → y ≡ record (get_or ps i d) { putter = Some node } → promise_at q ps ≡ Some i → is_put ps q ≡ false
    → set ps i y ≡ map (given (putting q node)) ps
put_named ps q node i y d distinct is found unput =
    ap (λ (x : PlannedPromise). set ps i x) is
    ∙ put_first q node i ps d distinct (sym (position-first (λ p. bytes_eq p.name q) ps) ∙ found) (subst (λ (o : Option ℕ). if_any (λ (p : PlannedPromise). is_some p.putter) (option_and_then (λ k. slice_get ps k) o) ≡ false) found unput)

-- the place of a promise is within the list
pub place_within : (ps : List PlannedPromise) (q : List ℕ) (o : Option ℕ) → o ≡ promise_at q ps → IfSome o (λ i. i < length ps)
place_within ps q None e = tt
place_within ps q (Some i) e = (position-Some (λ (p : PlannedPromise). bytes_eq p.name q) ps i (declared_promise [] 0 false false) (sym e)).0
