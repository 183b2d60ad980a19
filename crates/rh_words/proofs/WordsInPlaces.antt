-- Words that pass in their places say values that fit them, and the other way round.
use Rattle.std.proofs.Common.{◌≡◌, ℕ, List, [], ◌∷◌, Option, Some, None, Bool, true, false, refl, ap, sym, ◌∙◌, subst, cond}
use Rattle.std.specs.Prelude.{◌&&◌, not, is_some}
use Rattle.std.proofs.lemmas.Slice.Eq.{bytes_eq-Decides}
use Rattle.rh_words.specs.Number.{number_of}
use Rattle.rh_words.specs.Naming.{is_name}
use Rattle.rh_words.specs.declared.value.Place.{Place}
use Rattle.rh_words.specs.declared.value.Place.TheVariants.{WordPlace, NamePlace, NumberPlace, MaskPlace, PairPlace}
use Rattle.rh_words.specs.Keywords.{keyword_text}
use Rattle.rh_words.specs.declared.value.Value.{Value}
use Rattle.rh_words.specs.declared.value.Value.TheVariants.{AWord, AName, ANumber, AMask, APair}
use Rattle.rh_words.specs.Values.{SaysWord, SayWords, pair_of, IsAt}
use Rattle.rh_words.specs.Places.{pass, has_count, passes_name, passes_number, passes_word, places_reason, FitPlaces}

pub both : (a b : Bool) → (a && b) ≡ true → (a ≡ true) × (b ≡ true)
both true b e = (refl, e)
both false b e = cc

some_of : {X : Type 0} (o : Option X) → is_some o ≡ true → (x : X) × (o ≡ Some x)
some_of None e = cc
some_of (Some x) e = (x, refl)

-- what the word says in its place
one_value : (p : Place) (w : List ℕ) → passes_name p w ≡ true → passes_number p w ≡ true → passes_word p w ≡ true → (v : Value) × SaysWord w v × IsAt p v
one_value (WordPlace k) w a b c = (AWord k, (bytes_eq-Decides w (keyword_text k)).0 c, refl)
one_value NamePlace w a b c = (AName w, (refl, a), (w, refl))
one_value NumberPlace w a b c = let n = some_of (number_of w) b in (ANumber n.0, n.1, (n.0, refl))
one_value MaskPlace w a b c = let n = some_of (number_of w) b in (AMask n.0, n.1, (n.0, refl))
one_value PairPlace w a b c = let n = some_of (pair_of w) b in (APair n.0.0 n.0.1, n.1, (n.0.0, n.0.1, refl))

abbrev pub Valued : List Place → List Place → List Place → List (List ℕ) → Type 0
Valued now next again ws = (vs : List Value) × SayWords ws vs × FitPlaces now next again vs

-- words that pass say values of the shape
pub valued : (now next again : List Place) (ws : List (List ℕ)) → pass passes_name now next again ws ≡ true → pass passes_number now next again ws ≡ true → pass passes_word now next again ws ≡ true → has_count now next again ws ≡ true → Valued now next again ws
valued [] next again [] a b c d = ([], refl, tt)
valued (p ∷ now) next again [] a b c d = cc
valued (p ∷ now) next again (w ∷ ws) a b c d =
    let a2 = both _ _ a in
    let b2 = both _ _ b in
    let c2 = both _ _ c in
    let v = one_value p w a2.0 b2.0 c2.0 in
    let vs = valued now next again ws a2.1 b2.1 c2.1 d in
    (v.0 ∷ vs.0, (w, ws, refl, v.1, vs.1), (v.2, vs.2))
valued [] (p ∷ next) again (w ∷ ws) a b c d =
    let a2 = both _ _ a in
    let b2 = both _ _ b in
    let c2 = both _ _ c in
    let v = one_value p w a2.0 b2.0 c2.0 in
    let vs = valued next again again ws a2.1 b2.1 c2.1 d in
    (v.0 ∷ vs.0, (w, ws, refl, v.1, vs.1), (v.2, vs.2))
valued [] [] again (w ∷ ws) a b c d = cc

abbrev pub Passes : Place → List ℕ → Type 0
Passes p w = (passes_name p w ≡ true) × (passes_number p w ≡ true) × (passes_word p w ≡ true)

one_pass : (p : Place) (w : List ℕ) (v : Value) → SaysWord w v → IsAt p v → Passes p w
one_pass (WordPlace k) w v says at = let said = subst (λ (u : Value). SaysWord w u) at says in (refl, refl, (bytes_eq-Decides w (keyword_text k)).1 said)
one_pass NamePlace w v says (name, at) = let said = subst (λ (u : Value). SaysWord w u) at says in (subst (λ (n : List ℕ). is_name n ≡ true) (sym said.0) said.1, refl, refl)
one_pass NumberPlace w v says (n, at) = let said = subst (λ (u : Value). SaysWord w u) at says in (refl, rw said refl, refl)
one_pass MaskPlace w v says (n, at) = let said = subst (λ (u : Value). SaysWord w u) at says in (refl, rw said refl, refl)
one_pass PairPlace w v says (j, n, at) = let said = subst (λ (u : Value). SaysWord w u) at says in (refl, ap (λ (o : Option (ℕ × ℕ)). is_some o) said, refl)

abbrev pub PassAll : List Place → List Place → List Place → List (List ℕ) → Type 0
PassAll now next again ws = (pass passes_name now next again ws ≡ true) × (pass passes_number now next again ws ≡ true) × (pass passes_word now next again ws ≡ true) × (has_count now next again ws ≡ true)

joined : (a b : Bool) → a ≡ true → b ≡ true → (a && b) ≡ true
joined true b e f = f
joined false b e f = cc

-- words that say values of the shape pass
pub passed : (now next again : List Place) (ws : List (List ℕ)) (vs : List Value) → SayWords ws vs → FitPlaces now next again vs → PassAll now next again ws
passed [] next again ws [] says shaped = subst (λ (l : List (List ℕ)). PassAll [] next again l) (sym says) (refl, refl, refl, refl)
passed (p ∷ now) next again ws [] says shaped = absurd shaped
passed (p ∷ now) next again ws (v ∷ vs) (w, rest, is, here, there) shaped =
    let one = one_pass p w v here shaped.0 in
    let more = passed now next again rest vs there shaped.1 in
    subst (λ (l : List (List ℕ)). PassAll (p ∷ now) next again l) (sym is) (joined _ _ one.0 more.0, joined _ _ one.1 more.1, joined _ _ one.2 more.2, more.3)
passed [] (p ∷ next) again ws (v ∷ vs) (w, rest, is, here, there) shaped =
    let one = one_pass p w v here shaped.0 in
    let more = passed next again again rest vs there shaped.1 in
    subst (λ (l : List (List ℕ)). PassAll [] (p ∷ next) again l) (sym is) (joined _ _ one.0 more.0, joined _ _ one.1 more.1, joined _ _ one.2 more.2, more.3)
passed [] [] again ws (v ∷ vs) says shaped = absurd shaped

refused : {X : Type 0} (b : Bool) (x : X) (o : Option X) → cond (not b) (Some x) o ≡ None → (b ≡ true) × (o ≡ None)
refused true x o e = (refl, e)
refused false x o e = cc

step : {X : Type 0} (b : Bool) (x : X) (o : Option X) → b ≡ true → o ≡ None → cond (not b) (Some x) o ≡ None
step true x o e f = f
step false x o e f = cc

-- words that say values that fit the places are without a reason
pub fitted : (here more again : List Place) (ws : List (List ℕ)) (vs : List Value) → SayWords ws vs → FitPlaces here more again vs → places_reason here more again ws ≡ None
fitted here more again ws vs says fits =
    let all = passed here more again ws vs says fits in
    step _ _ _ all.0 (step _ _ _ all.1 (step _ _ _ (joined _ _ all.2 all.3) refl))

-- words without a reason say values that fit the places
pub unreasoned : (here more again : List Place) (ws : List (List ℕ)) → places_reason here more again ws ≡ None → Valued here more again ws
unreasoned here more again ws e =
    let a = refused _ _ _ e in
    let b = refused _ _ _ a.1 in
    let c = refused _ _ _ b.1 in
    let d = both _ _ c.0 in
    valued here more again ws a.0 b.0 d.0 d.1

some_same : {X : Type 0} (x y : X) → Some x ≡ Some y → x ≡ y
some_same x y e = cc

-- what a word says in its place
said_at : (p : Place) (w : List ℕ) (v u : Value) → SaysWord w v → SaysWord w u → IsAt p v → IsAt p u → v ≡ u
said_at (WordPlace k) w v u a b x y = x ∙ sym y
said_at NamePlace w v u a b (n, x) (m, y) =
    let one = subst (λ (t : Value). SaysWord w t) x a in
    let other = subst (λ (t : Value). SaysWord w t) y b in
    x ∙ ap AName (sym one.0 ∙ other.0) ∙ sym y
said_at NumberPlace w v u a b (n, x) (m, y) =
    let one = subst (λ (t : Value). SaysWord w t) x a in
    let other = subst (λ (t : Value). SaysWord w t) y b in
    x ∙ ap ANumber (some_same n m (sym one ∙ other)) ∙ sym y
said_at MaskPlace w v u a b (n, x) (m, y) =
    let one = subst (λ (t : Value). SaysWord w t) x a in
    let other = subst (λ (t : Value). SaysWord w t) y b in
    x ∙ ap AMask (some_same n m (sym one ∙ other)) ∙ sym y
said_at PairPlace w v u a b (j, n, x) (k, m, y) =
    let one = subst (λ (t : Value). SaysWord w t) x a in
    let other = subst (λ (t : Value). SaysWord w t) y b in
    x ∙ ap (λ (t : ℕ × ℕ). APair t.0 t.1) (some_same (j, n) (k, m) (sym one ∙ other)) ∙ sym y

-- words say one list of values in their places
pub said_once : (here more again : List Place) (ws : List (List ℕ)) (vs us : List Value) → SayWords ws vs → SayWords ws us → FitPlaces here more again vs → FitPlaces here more again us → vs ≡ us
said_once here more again ws [] [] a b f g = refl
said_once here more again ws [] (u ∷ us) a (w, rest, is, here_u, there_u) f g = let none = a in cc
said_once here more again ws (v ∷ vs) [] (w, rest, is, here_v, there_v) b f g = let none = b in cc
said_once (p ∷ here) more again ws (v ∷ vs) (u ∷ us) (w, rest, is, here_v, there_v) (w2, rest2, is2, here_u, there_u) f g =
    let first : w2 ≡ w = cc in
    let tail : rest2 ≡ rest = cc in
    let one = said_at p w v u here_v (subst (λ (x : List ℕ). SaysWord x u) first here_u) f.0 g.0 in
    let more_same = said_once here more again rest vs us there_v (subst (λ (x : List (List ℕ)). SayWords x us) tail there_u) f.1 g.1 in
    ap (λ (x : Value). x ∷ vs) one ∙ ap (λ (l : List Value). u ∷ l) more_same
said_once [] (p ∷ more) again ws (v ∷ vs) (u ∷ us) (w, rest, is, here_v, there_v) (w2, rest2, is2, here_u, there_u) f g =
    let first : w2 ≡ w = cc in
    let tail : rest2 ≡ rest = cc in
    let one = said_at p w v u here_v (subst (λ (x : List ℕ). SaysWord x u) first here_u) f.0 g.0 in
    let more_same = said_once more again again rest vs us there_v (subst (λ (x : List (List ℕ)). SayWords x us) tail there_u) f.1 g.1 in
    ap (λ (x : Value). x ∷ vs) one ∙ ap (λ (l : List Value). u ∷ l) more_same
said_once [] [] again ws (v ∷ vs) (u ∷ us) a b f g = absurd f
