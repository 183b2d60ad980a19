-- What one more put does to the promises.
use Rattle.std.proofs.Common.{◌≡◌, ℕ, List, [], ◌∷◌, Bool, true, false, cond, Option, Some, None, map, refl, ap, sym, ◌∙◌, ◌⊎◌, inl, inr, append-nil}
use Rattle.std.specs.Prelude.{slice_get}
use Rattle.std.specs.Str.{bytes_eq}
use Rattle.std.specs.List.{AllByRecursion}
use Rattle.std.proofs.lemmas.Option.{none-some, same_Some}
use Rattle.rh_rules.specs.declared.node.PlannedPromise.{PlannedPromise}
use Rattle.rh_rules.specs.Tables.{Putting, or_else, given}
use Rattle.rh_rules.specs.Lawful.{promise_lens, putter_of}
use Rattle.rh_tables.proofs.SoundTasks.{Grows}
use Rattle.rh_planner.proofs.DeclaredPromises.{mapped_at, mapped_from, putter_parts, putter_at, scope_at, scope_parts}

-- what does not speak of the putter stays
pub stays_given : {Y : Type 0} (f : PlannedPromise → Y) → ((p : PlannedPromise) (o : Option ℕ) → f (record p { putter = o }) ≡ f p) → (t : Putting) (ps : List PlannedPromise) → map f (map (given t) ps) ≡ map f ps
stays_given f h t [] = refl
stays_given f h t (p ∷ ps) =
    ap (λ y. y ∷ map f (map (given t) ps)) (one (bytes_eq t.promise p.name))
    ∙ ap (λ l. f p ∷ l) (stays_given f h t ps)
  where
    one : (b : Bool) → f (cond b (record p { putter = or_else p.putter (Some t.node) }) p) ≡ f p
    one true = h p (or_else p.putter (Some t.node))
    one false = refl

pub all_given : (P : PlannedPromise → Type 0) → ((p : PlannedPromise) (o : Option ℕ) → P p → P (record p { putter = o })) → (t : Putting) (ps : List PlannedPromise) → AllByRecursion P ps → AllByRecursion P (map (given t) ps)
all_given P h t [] all = tt
all_given P h t (p ∷ ps) all = (one (bytes_eq t.promise p.name), all_given P h t ps all.1)
  where
    one : (b : Bool) → P (cond b (record p { putter = or_else p.putter (Some t.node) }) p)
    one true = h p (or_else p.putter (Some t.node)) all.0
    one false = all.0

kept : (b : Bool) (p : PlannedPromise) (n u : ℕ) → p.putter ≡ Some u → (cond b (record p { putter = or_else p.putter (Some n) }) p).putter ≡ Some u
kept true p n u e = ap (λ (o : Option ℕ). or_else o (Some n)) e
kept false p n u e = e

given_scope : (b : Bool) (p : PlannedPromise) (n : ℕ) → (cond b (record p { putter = or_else p.putter (Some n) }) p).scope ≡ p.scope
given_scope true p n = refl
given_scope false p n = refl

pub put_grows : (t : Putting) (ps : List PlannedPromise) → Grows ps (map (given t) ps)
put_grows t ps = record {
  putters = λ q u e.
      let (p, at, put) = putter_parts ps q u e in
      putter_at (map (given t) ps) q (given t p) (mapped_at (given t) ps q p at) ∙ kept (bytes_eq t.promise p.name) p t.node u put;
  scopes = λ q b e.
      let (p, at, is) = scope_parts ps q b e in
      scope_at (map (given t) ps) q (given t p) (mapped_at (given t) ps q p at) ∙ ap Some (given_scope (bytes_eq t.promise p.name) p t.node ∙ is);
  lens = ([], stays_given (λ p. p.len) (λ p o. refl) t ps ∙ sym (append-nil (promise_lens ps)));
  names = ([], stays_given (λ p. p.name) (λ p o. refl) t ps ∙ sym (append-nil (map (λ p. p.name) ps)));
}

new : (b : Bool) (p : PlannedPromise) (n : ℕ) → b ≡ true → p.putter ≡ None → (cond b (record p { putter = or_else p.putter (Some n) }) p).putter ≡ Some n
new true p n b e = ap (λ (o : Option ℕ). or_else o (Some n)) e
new false p n b e = cc

-- the promise of this name has the putter
pub put_new : (t : Putting) (ps : List PlannedPromise) (q : ℕ) (p : PlannedPromise) → slice_get ps q ≡ Some p → bytes_eq t.promise p.name ≡ true → p.putter ≡ None → putter_of (map (given t) ps) q ≡ Some t.node
put_new t ps q p at same none = putter_at (map (given t) ps) q (given t p) (mapped_at (given t) ps q p at) ∙ new (bytes_eq t.promise p.name) p t.node same none

or_new : (o : Option ℕ) (n v : ℕ) → or_else o (Some n) ≡ Some v → (o ≡ Some v) ⊎ (n ≡ v)
or_new None n v e = inr (same_Some n v e)
or_new (Some m) n v e = inl e

split : (b : Bool) (p : PlannedPromise) (n v : ℕ) → (cond b (record p { putter = or_else p.putter (Some n) }) p).putter ≡ Some v → (p.putter ≡ Some v) ⊎ ((b ≡ true) × (n ≡ v))
split true p n v e = elim (or_new p.putter n v e) [ inl old ↦ inl old | inr is ↦ inr (refl, is) ]
split false p n v e = inl e

-- a putter was there, or is that of the put
pub put_split : (t : Putting) (ps : List PlannedPromise) (q v : ℕ) → putter_of (map (given t) ps) q ≡ Some v → (putter_of ps q ≡ Some v) ⊎ ((p : PlannedPromise) × (slice_get ps q ≡ Some p) × (bytes_eq t.promise p.name ≡ true) × (t.node ≡ v))
put_split t ps q v e =
    let (y, at, put) = putter_parts (map (given t) ps) q v e in
    let (p, here, is) = mapped_from (given t) ps q y at in
    elim (split (bytes_eq t.promise p.name) p t.node v (ap (λ (x : PlannedPromise). x.putter) is ∙ put)) [
      | inl old ↦ inl (putter_at ps q p here ∙ old)
      | inr both ↦ inr (p, here, both.0, both.1)
    ]

-- a promise of another name stays as it is
pub given_other : (t : Putting) (ps : List PlannedPromise) (i : ℕ) (p : PlannedPromise) → slice_get ps i ≡ Some p → bytes_eq t.promise p.name ≡ false → slice_get (map (given t) ps) i ≡ Some p
given_other t ps i p at other = mapped_at (given t) ps i p at ∙ ap (λ (b : Bool). Some (cond b (record p { putter = or_else p.putter (Some t.node) }) p)) other

or_none : (o : Option ℕ) (n : ℕ) → or_else o (Some n) ≡ None → ⊥
or_none None n e = none-some n (sym e)
or_none (Some m) n e = none-some m (sym e)

unput_stays : (b : Bool) (p y : PlannedPromise) (n : ℕ) → cond b (record p { putter = or_else p.putter (Some n) }) p ≡ y → y.putter ≡ None → (b ≡ false) × (y ≡ p)
unput_stays true p y n is none = absurd (or_none p.putter n (ap (λ (x : PlannedPromise). x.putter) is ∙ none))
unput_stays false p y n is none = (refl, sym is)

-- what nothing puts after a put is of another name, and was so before
pub unput_given : (t : Putting) (ps : List PlannedPromise) (i : ℕ) (y : PlannedPromise) → slice_get (map (given t) ps) i ≡ Some y → y.putter ≡ None → (p : PlannedPromise) × (slice_get ps i ≡ Some p) × (y ≡ p) × (p.putter ≡ None)
unput_given t ps i y at none =
    let (p, here, is) = mapped_from (given t) ps i y at in
    let same = unput_stays (bytes_eq t.promise p.name) p y t.node is none in
    (p, here, same.1, ap (λ (x : PlannedPromise). x.putter) (sym same.1) ∙ none)

pub unput_apart : (t : Putting) (ps : List PlannedPromise) (i : ℕ) (y : PlannedPromise) → slice_get (map (given t) ps) i ≡ Some y → y.putter ≡ None → bytes_eq t.promise y.name ≡ false
unput_apart t ps i y at none =
    let (p, here, is) = mapped_from (given t) ps i y at in
    let same = unput_stays (bytes_eq t.promise p.name) p y t.node is none in
    ap (λ (x : PlannedPromise). bytes_eq t.promise x.name) same.1 ∙ same.0
