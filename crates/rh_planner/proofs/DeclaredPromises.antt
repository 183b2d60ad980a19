-- A promise that is declared, by its name and by its number.
use Rattle.std.proofs.Common.{◌≡◌, ℕ, zero, suc, ◌<◌, List, [], ◌∷◌, ◌++◌, Bool, true, false, Option, Some, None, length, map, get_or, slice_index, refl, arith, ap, sym, ◌∙◌, subst}
use Rattle.std.specs.Prelude.{slice_get, option_and_then, is_some, unwrap_or}
use Rattle.std.specs.List.{AllByRecursion, IsDistinct}
use Rattle.std.specs.Option.{option_map}
use Rattle.std.specs.Str.{bytes_eq}
use Rattle.std.proofs.lemmas.Bool.{false≢true, true≢false}
use Rattle.std.proofs.lemmas.Option.{none-some, same_Some, slice_get-get_or}
use Rattle.std.proofs.lemmas.List.Quantifiers.{position-Some}
use Rattle.std.proofs.lemmas.Slice.Eq.{bytes_eq-Decides}
use Rattle.std.proofs.lemmas.Map.Keys.{IsDistinct-head, IsDistinct-tail}
use Rattle.rh_rules.specs.declared.node.PlannedPromise.{PlannedPromise}
use Rattle.rh_rules.specs.Tables.{promise_at, promise_named, is_promise, promise_number, promise_len, is_put, is_own, if_any, declared_promise}
use Rattle.rh_rules.specs.Lawful.{promise_lens, putter_of}
use Rattle.rh_tables.proofs.SoundTasks.{scope_of}

pub some_of : {X : Type 0} (o : Option X) → is_some o ≡ true → (x : X) × (o ≡ Some x)
some_of None e = absurd (false≢true e)
some_of (Some x) e = (x, refl)

pub none_of : {X : Type 0} (o : Option X) → is_some o ≡ false → o ≡ None
none_of None e = refl
none_of (Some x) e = absurd (true≢false e)

pub all_at : {X : Type 0} (P : X → Type 0) (xs : List X) (i : ℕ) (x : X) → AllByRecursion P xs → slice_get xs i ≡ Some x → P x
all_at P [] i x all e = absurd (none-some x e)
all_at P (y ∷ xs) zero x all e = subst P (same_Some y x e) all.0
all_at P (y ∷ xs) (suc i) x all e = all_at P xs i x all.1 e

-- what stands in a list stands in a longer one
pub slice_get_append : {X : Type 0} (xs ys : List X) (i : ℕ) (x : X) → slice_get xs i ≡ Some x → slice_get (xs ++ ys) i ≡ Some x
slice_get_append [] ys i x e = absurd (none-some x e)
slice_get_append (a ∷ xs) ys zero x e = e
slice_get_append (a ∷ xs) ys (suc i) x e = slice_get_append xs ys i x e

-- what stands in a list after a function of each
pub mapped_at : {X Y : Type 0} (f : X → Y) (xs : List X) (i : ℕ) (x : X) → slice_get xs i ≡ Some x → slice_get (map f xs) i ≡ Some (f x)
mapped_at f [] i x e = absurd (none-some x e)
mapped_at f (y ∷ xs) zero x e = ap (λ z. Some (f z)) (same_Some y x e)
mapped_at f (y ∷ xs) (suc i) x e = mapped_at f xs i x e

pub mapped_from : {X Y : Type 0} (f : X → Y) (xs : List X) (i : ℕ) (y : Y) → slice_get (map f xs) i ≡ Some y → (x : X) × (slice_get xs i ≡ Some x) × (f x ≡ y)
mapped_from f [] i y e = absurd (none-some y e)
mapped_from f (x ∷ xs) zero y e = (x, refl, same_Some (f x) y e)
mapped_from f (x ∷ xs) (suc i) y e = mapped_from f xs i y e

-- a number of a list of numbers, by its place
pub index_at : (ns : List ℕ) (i n : ℕ) → slice_get ns i ≡ Some n → (i < length ns) × (slice_index ns i ≡ n)
index_at [] i n e = absurd (none-some n e)
index_at (m ∷ ns) zero n e = (omega arith, same_Some m n e)
index_at (m ∷ ns) (suc i) n e = let h = index_at ns i n e in (let k : i < length ns = h.0 in omega arith, h.1)

pub putter_parts : (ps : List PlannedPromise) (q u : ℕ) → putter_of ps q ≡ Some u → (p : PlannedPromise) × (slice_get ps q ≡ Some p) × (p.putter ≡ Some u)
putter_parts [] q u e = absurd (none-some u e)
putter_parts (p ∷ ps) zero u e = (p, refl, e)
putter_parts (p ∷ ps) (suc q) u e = putter_parts ps q u e

pub putter_at : (ps : List PlannedPromise) (q : ℕ) (p : PlannedPromise) → slice_get ps q ≡ Some p → putter_of ps q ≡ p.putter
putter_at ps q p e = ap (λ (o : Option PlannedPromise). option_and_then (λ x. x.putter) o) e

-- what is known of a promise at its place
pub scope_at : (ps : List PlannedPromise) (q : ℕ) (p : PlannedPromise) → slice_get ps q ≡ Some p → scope_of ps q ≡ Some p.scope
scope_at ps q p e = ap (λ (o : Option PlannedPromise). option_and_then (λ x. Some x.scope) o) e

pub scope_parts : (ps : List PlannedPromise) (q : ℕ) (b : Bool) → scope_of ps q ≡ Some b → (p : PlannedPromise) × (slice_get ps q ≡ Some p) × (p.scope ≡ b)
scope_parts [] q b e = absurd (none-some b e)
scope_parts (p ∷ ps) zero b e = (p, refl, same_Some p.scope b e)
scope_parts (p ∷ ps) (suc q) b e = scope_parts ps q b e

pub same_name : (a b : List ℕ) → bytes_eq a b ≡ true → a ≡ b
same_name a b h = (bytes_eq-Decides a b).0 h

pub name_is : (a b : List ℕ) → a ≡ b → bytes_eq a b ≡ true
name_is a b e = (bytes_eq-Decides a b).1 e

-- The promise of a declared name.
pub record IsDeclaredAs (ps : List PlannedPromise) (q : List ℕ) (p : PlannedPromise) : Type 0 where
  pub at : slice_get ps (promise_number ps q) ≡ Some p
  pub named : p.name ≡ q
  pub within : promise_number ps q < length (promise_lens ps)
  pub long : slice_index (promise_lens ps) (promise_number ps q) ≡ p.len
  pub len : promise_len ps q ≡ p.len
  pub put : is_put ps q ≡ is_some p.putter
  pub own : is_own ps q ≡ p.scope

pub declared : (ps : List PlannedPromise) (q : List ℕ) → is_promise ps q ≡ true → (p : PlannedPromise) × IsDeclaredAs ps q p
declared ps q there =
    let (i, place) = some_of (promise_at q ps) there in
    let d : PlannedPromise = declared_promise [] 0 false false in
    let h = position-Some (λ (p : PlannedPromise). bytes_eq p.name q) ps i d place in
    let number : promise_number ps q ≡ i = ap (λ (o : Option ℕ). unwrap_or o 0) place in
    let here : slice_get ps i ≡ Some (get_or ps i d) = slice_get-get_or ps i d h.0 in
    let at : slice_get ps (promise_number ps q) ≡ Some (get_or ps i d) = ap (λ (k : ℕ). slice_get ps k) number ∙ here in
    let named : promise_named ps q ≡ Some (get_or ps i d) = ap (λ (o : Option ℕ). option_and_then (λ k. slice_get ps k) o) place ∙ here in
    let lens = index_at (promise_lens ps) (promise_number ps q) (get_or ps i d).len (mapped_at (λ (p : PlannedPromise). p.len) ps (promise_number ps q) (get_or ps i d) at) in (
      get_or ps i d,
      record {
        at = at;
        named = same_name (get_or ps i d).name q h.1;
        within = lens.0;
        long = lens.1;
        len = ap (λ (o : Option PlannedPromise). unwrap_or (option_map (λ p. p.len) o) 0) named;
        put = ap (λ (o : Option PlannedPromise). if_any (λ p. is_some p.putter) o) named;
        own = ap (λ (o : Option PlannedPromise). if_any (λ p. p.scope) o) named;
      },
    )

-- of distinct names each has one place
pub one_place : (ps : List PlannedPromise) (i j : ℕ) (p r : PlannedPromise) → IsDistinct bytes_eq (map (λ p. p.name) ps) → slice_get ps i ≡ Some p → slice_get ps j ≡ Some r → p.name ≡ r.name → i ≡ j
one_place [] i j p r distinct at bt same = absurd (none-some p at)
one_place (x ∷ ps) zero zero p r distinct at bt same = refl
one_place (x ∷ ps) zero (suc j) p r distinct at bt same =
    let apart = all_at (λ m. bytes_eq x.name m ≡ false) (map (λ p. p.name) ps) j r.name (IsDistinct-head bytes_eq x.name (map (λ p. p.name) ps) distinct) (mapped_at (λ (p : PlannedPromise). p.name) ps j r bt) in
    absurd (true≢false (sym (name_is x.name r.name (ap (λ (p : PlannedPromise). p.name) (same_Some x p at) ∙ same)) ∙ apart))
one_place (x ∷ ps) (suc i) zero p r distinct at bt same =
    let apart = all_at (λ m. bytes_eq x.name m ≡ false) (map (λ p. p.name) ps) i p.name (IsDistinct-head bytes_eq x.name (map (λ p. p.name) ps) distinct) (mapped_at (λ (p : PlannedPromise). p.name) ps i p at) in
    absurd (true≢false (sym (name_is x.name p.name (ap (λ (p : PlannedPromise). p.name) (same_Some x r bt) ∙ sym same)) ∙ apart))
one_place (x ∷ ps) (suc i) (suc j) p r distinct at bt same = ap suc (one_place ps i j p r (IsDistinct-tail bytes_eq x.name (map (λ p. p.name) ps) distinct) at bt same)
