-- What words say is what words can say.
use Rattle.std.proofs.Common.{◌≡◌, ℕ, ◌+◌, ◌<◌, ◌^◌, List, [], ◌∷◌, Option, Some, None, Bool, true, false, cond, length, take, drop, refl, ap, ◌∙◌, subst}
use Rattle.std.specs.Prelude.{codes, ◌&&◌, ◌==◌, nat_lt, nat_le, nat_eq, position}
use Rattle.std.specs.List.{list_all, starts_with}
use Rattle.std.specs.Char.{is_digit}
use Rattle.std.specs.Str.Parse.{digits_value}
use Rattle.std.proofs.lemmas.Bool.{ltb-true}
use Rattle.rh_words.specs.Number.{number_of, digits_number}
use Rattle.rh_words.specs.declared.value.Value.{Value}
use Rattle.rh_words.specs.declared.value.Value.TheVariants.{AWord, AName, ANumber, AMask, APair}
use Rattle.rh_words.specs.Values.{◌>>=◌, pair_of, SayWords, AreSayable}

bind_some : {A B : Type 0} (o : Option A) (f : A → Option B) (y : B) → (o >>= f) ≡ Some y → (x : A) × (o ≡ Some x) × (f x ≡ Some y)
bind_some None f y e = cc
bind_some (Some x) f y e = (x, refl, e)

guarded : {A : Type 0} (b : Bool) (x y : A) → cond b (Some x) None ≡ Some y → (b ≡ true) × (x ≡ y)
guarded true x y e = (refl, cc)
guarded false x y e = cc

and_right : (a b : Bool) → (a && b) ≡ true → b ≡ true
and_right true b e = e
and_right false b e = cc

digits_small : (radix most : ℕ) (digits : List ℕ) (n : ℕ) → digits_number radix most digits ≡ Some n → n < 2 ^ 64
digits_small radix most digits n e =
    let g = guarded (nat_lt 0 (length digits) && nat_le (length digits) most && list_all (λ c. is_digit c radix) digits && nat_lt (digits_value radix digits) (2 ^ 64)) (digits_value radix digits) n e in
    subst (λ (v : ℕ). v < 2 ^ 64) g.1 (ltb-true (digits_value radix digits) (2 ^ 64) (and_right _ _ g.0))

number_small : (word : List ℕ) (n : ℕ) → number_of word ≡ Some n → n < 2 ^ 64
number_small word n e = by_base (starts_with nat_eq word (codes "0x")) e where
  by_base : (b : Bool) → cond b (digits_number 16 16 (drop 2 word)) (digits_number 10 20 word) ≡ Some n → n < 2 ^ 64
  by_base true e = digits_small 16 16 (drop 2 word) n e
  by_base false e = digits_small 10 20 word n e

-- both numbers of a pair are below 2 ^ 64
pair_small : (word : List ℕ) (j v : ℕ) → pair_of word ≡ Some (j, v) → (j < 2 ^ 64) × (v < 2 ^ 64)
unfolding pair_of
pair_small word j v e =
    let at = bind_some (position (λ b. b == 58) word) _ _ e in
    let a = bind_some (number_of (take at.0 word)) _ _ at.2 in
    let b = bind_some (number_of (drop (at.0 + 1) word)) _ _ a.2 in
    let pair : Some (a.0, b.0) ≡ Some (j, v) = b.2 in
    let same : (a.0, b.0) ≡ (j, v) = cc in
    let first : a.0 ≡ j = ap (λ (p : ℕ × ℕ). p.0) same in
    let second : b.0 ≡ v = ap (λ (p : ℕ × ℕ). p.1) same in
    (number_small (take at.0 word) j (a.1 ∙ ap Some first), number_small (drop (at.0 + 1) word) v (b.1 ∙ ap Some second))

-- words say what words can say
pub said_sayable : (ws : List (List ℕ)) (vs : List Value) → SayWords ws vs → AreSayable vs
said_sayable ws [] h = tt
said_sayable ws (AWord k ∷ vs) (w, rest, is, here, there) = (tt, said_sayable rest vs there)
said_sayable ws (AName name ∷ vs) (w, rest, is, here, there) = (here.1, said_sayable rest vs there)
said_sayable ws (ANumber n ∷ vs) (w, rest, is, here, there) = (number_small w n here, said_sayable rest vs there)
said_sayable ws (AMask n ∷ vs) (w, rest, is, here, there) = (number_small w n here, said_sayable rest vs there)
said_sayable ws (APair j v ∷ vs) (w, rest, is, here, there) = (pair_small w j v here, said_sayable rest vs there)
