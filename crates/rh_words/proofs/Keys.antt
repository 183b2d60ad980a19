-- Keys of names: eight bytes are a number, and the number is those bytes.
use Rattle.std.proofs.Common.{◌≡◌, ℕ, zero, suc, ◌+◌, ◌-◌, ◌<◌, ◌≤◌, List, [], ◌∷◌, ◌++◌, Bool, true, false, length, get_or, take, drop, replicate, w64, refl, ap, sym, ◌∙◌, subst, arith, drop-cons, length-drop, length-append, add-zero}
use Rattle.std.specs.Prelude.{◌&&◌, nat_eq, nat_le}
use Rattle.std.specs.Str.{bytes_eq}
use Rattle.std.specs.Cmp.Lexicographic.{nat_list_eq_equiv}
use Rattle.std.specs.Int.{to_be_bytes}
use Rattle.std.specs.List.{list_all}
use Rattle.std.proofs.lemmas.Bool.{leb-true, false≢true, and_parts}
use Rattle.std.proofs.lemmas.Slice.Eq.{bytes_eq-Decides}
use Rattle.std.proofs.lemmas.Nat.{be_bytes_8}
use Rattle.std.proofs.lemmas.List.{take_all, length-take-le, length-replicate}
use Rattle.std.proofs.lemmas.Bool.Decides.{nat_tests}
use Rattle.std.proofs.Math.Seq.{take-add}
use Rattle.rh_words.specs.Naming.{is_name, begins_name, continues_name}
use Rattle.rh_words.specs.NameKeys.{padded_name, key_word, name_key, keys_eq, KeysTellNames}
use Rattle.rh_words.specs.declared.name_key.NameKey.{NameKey}
use Rattle.rh_words.proofs.WordsInPlaces.{both}

next : (bs : List ℕ) (at k n : ℕ) → at + k < length bs → take (suc n) (drop (at + k) bs) ≡ get_or bs (at + k) 0 ∷ take n (drop (at + suc k) bs)
next bs at k n h =
    let e : suc (at + k) ≡ at + suc k = omega arith in
    ap (λ (l : List ℕ). take (suc n) l) (drop-cons bs (at + k) 0 h) ∙ ap (λ (j : ℕ). get_or bs (at + k) 0 ∷ take n (drop j bs)) e

-- eight bytes one by one
pub eight : (bs : List ℕ) (at : ℕ) → at + 8 ≤ length bs → take 8 (drop at bs) ≡ get_or bs at 0 ∷ get_or bs (at + 1) 0 ∷ get_or bs (at + 2) 0 ∷ get_or bs (at + 3) 0 ∷ get_or bs (at + 4) 0 ∷ get_or bs (at + 5) 0 ∷ get_or bs (at + 6) 0 ∷ get_or bs (at + 7) 0 ∷ []
eight bs at fits =
    let onto : ℕ → List ℕ → List ℕ = λ k l. get_or bs (at + k) 0 ∷ l in
    ap (λ (j : ℕ). take 8 (drop j bs)) (sym (add-zero at))
    ∙ next bs at 0 7 (omega arith)
    ∙ ap (onto 0) (next bs at 1 6 (omega arith)
    ∙ ap (onto 1) (next bs at 2 5 (omega arith)
    ∙ ap (onto 2) (next bs at 3 4 (omega arith)
    ∙ ap (onto 3) (next bs at 4 3 (omega arith)
    ∙ ap (onto 4) (next bs at 5 2 (omega arith)
    ∙ ap (onto 5) (next bs at 6 1 (omega arith)
    ∙ ap (onto 6) (next bs at 7 0 (omega arith))))))))
    ∙ ap (λ (j : ℕ). get_or bs j 0 ∷ get_or bs (at + 1) 0 ∷ get_or bs (at + 2) 0 ∷ get_or bs (at + 3) 0 ∷ get_or bs (at + 4) 0 ∷ get_or bs (at + 5) 0 ∷ get_or bs (at + 6) 0 ∷ get_or bs (at + 7) 0 ∷ []) (add-zero at)

-- each is below 256
abbrev IsBytes : List ℕ → Type 0
IsBytes [] = Unit {0}
IsBytes (b ∷ bs) = (b < 256) × IsBytes bs

bytes_take : (n : ℕ) (bs : List ℕ) → IsBytes bs → IsBytes (take n bs)
bytes_take zero bs h = tt
bytes_take (suc n) [] h = tt
bytes_take (suc n) (b ∷ bs) h = (h.0, bytes_take n bs h.1)

bytes_drop : (n : ℕ) (bs : List ℕ) → IsBytes bs → IsBytes (drop n bs)
bytes_drop zero bs h = h
bytes_drop (suc n) [] h = tt
bytes_drop (suc n) (b ∷ bs) h = bytes_drop n bs h.1

bytes_at : (bs : List ℕ) → IsBytes bs → (i : ℕ) → get_or bs i 0 < 256
bytes_at [] h i = omega arith
bytes_at (b ∷ bs) h zero = h.0
bytes_at (b ∷ bs) h (suc i) = bytes_at bs h.1 i

-- each is above 0 and below 256
abbrev IsNoZero : List ℕ → Type 0
IsNoZero [] = Unit {0}
IsNoZero (b ∷ bs) = (0 < b) × (b < 256) × IsNoZero bs

bytes_padded : (bs : List ℕ) (n : ℕ) → IsNoZero bs → IsBytes (bs ++ replicate n 0)
bytes_padded [] zero h = tt
bytes_padded [] (suc n) h = (omega arith, bytes_padded [] n h)
bytes_padded (b ∷ bs) n h = (h.1, bytes_padded bs n h.2)

-- before zeros, what has none is determined
unpadded : (xs ys : List ℕ) (n m : ℕ) → IsNoZero xs → IsNoZero ys → xs ++ replicate n 0 ≡ ys ++ replicate m 0 → xs ≡ ys
unpadded [] [] n m a b e = refl
unpadded [] (y ∷ ys) zero m a b e = cc
unpadded [] (y ∷ ys) (suc n) m a b e = let zero_is : 0 ≡ y = ap (λ (l : List ℕ). get_or l 0 7) e in absurd (omega (arith, b.0))
unpadded (x ∷ xs) [] n zero a b e = cc
unpadded (x ∷ xs) [] n (suc m) a b e = let zero_is : x ≡ 0 = ap (λ (l : List ℕ). get_or l 0 7) e in absurd (omega (arith, a.0))
unpadded (x ∷ xs) (y ∷ ys) n m a b e =
    let first : x ≡ y = ap (λ (l : List ℕ). get_or l 0 7) e in
    let rest : xs ≡ ys = unpadded xs ys n m a.2 b.2 (ap (λ (l : List ℕ). drop 1 l) e) in
    rw (first, rest) refl

continues_byte : (c : ℕ) → continues_name c ≡ true → (0 < c) × (c < 256)
continues_byte c h = (grind (arith, nat_tests), grind (arith, nat_tests))

begins_byte : (c : ℕ) → begins_name c ≡ true → (0 < c) × (c < 256)
begins_byte c h = (grind (arith, nat_tests), grind (arith, nat_tests))

name_bytes : (n : List ℕ) → is_name n ≡ true → IsNoZero n × (length n ≤ 32)
name_bytes [] e = cc
name_bytes (c ∷ cs) e =
    let a = both (begins_name c && nat_le (length (c ∷ cs)) 32) (list_all continues_name cs) e in
    let b = both (begins_name c) (nat_le (length (c ∷ cs)) 32) a.0 in
    let here = begins_byte c b.0 in
    let few = leb-true (length (c ∷ cs)) 32 b.1 in
    ((here.0, here.1, all_continue cs a.1), omega arith) where
      all_continue : (ds : List ℕ) → list_all continues_name ds ≡ true → IsNoZero ds
      all_continue [] h = tt
      all_continue (d ∷ ds) h = let t = both (continues_name d) (list_all continues_name ds) h in let x = continues_byte d t.0 in (x.0, x.1, all_continue ds t.1)

-- eight bytes by their number
part_same : (p q : List ℕ) (at : ℕ) → length p ≡ 32 → length q ≡ 32 → at ≤ 24 → IsBytes p → IsBytes q → key_word p at ≡ key_word q at → take 8 (drop at p) ≡ take 8 (drop at q)
part_same p q at whole whole2 fits small small2 e =
    let len : length (take 8 (drop at p)) ≡ 8 = length-take-le 8 (drop at p) (simp length-drop (omega arith)) in
    let len2 : length (take 8 (drop at q)) ≡ 8 = length-take-le 8 (drop at q) (simp length-drop (omega arith)) in
    let front = be_bytes_8 (take 8 (drop at p)) (key_word p at) len (bytes_at (take 8 (drop at p)) (bytes_take 8 (drop at p) (bytes_drop at p small))) refl in
    let front2 = be_bytes_8 (take 8 (drop at q)) (key_word q at) len2 (bytes_at (take 8 (drop at q)) (bytes_take 8 (drop at q) (bytes_drop at q small2))) refl in
    sym front ∙ ap (λ (n : ℕ). to_be_bytes w64 n) e ∙ front2

abbrev parts : List ℕ → List ℕ
parts p = ((take 8 (drop 0 p) ++ take 8 (drop 8 p)) ++ take 8 (drop 16 p)) ++ take 8 (drop 24 p)

in_parts : (p : List ℕ) → length p ≡ 32 → p ≡ parts p
in_parts p whole =
    sym (take_all 32 p (omega arith)) ∙ take-add 24 8 p ∙ ap (λ (l : List ℕ). l ++ take 8 (drop 24 p)) (take-add 16 8 p ∙ ap (λ (l : List ℕ). l ++ take 8 (drop 16 p)) (take-add 8 8 p))

-- names with equal keys are equal
keys_apart : (n m : List ℕ) → is_name n ≡ true → is_name m ≡ true → name_key n ≡ name_key m → n ≡ m
keys_apart n m a b e =
    let x = name_bytes n a in
    let y = name_bytes m b in
    let short = x.1 in
    let short2 = y.1 in
    let whole : length (padded_name n) ≡ 32 = rw (length-append, length-replicate) (omega arith) in
    let whole2 : length (padded_name m) ≡ 32 = rw (length-append, length-replicate) (omega arith) in
    let small = bytes_padded n (32 - length n) x.0 in
    let small2 = bytes_padded m (32 - length m) y.0 in
    let first = part_same (padded_name n) (padded_name m) 0 whole whole2 (omega arith) small small2 (ap (λ (k : NameKey). k.first) e) in
    let second = part_same (padded_name n) (padded_name m) 8 whole whole2 (omega arith) small small2 (ap (λ (k : NameKey). k.second) e) in
    let third = part_same (padded_name n) (padded_name m) 16 whole whole2 (omega arith) small small2 (ap (λ (k : NameKey). k.third) e) in
    let fourth = part_same (padded_name n) (padded_name m) 24 whole whole2 (omega arith) small small2 (ap (λ (k : NameKey). k.fourth) e) in
    let same : parts (padded_name n) ≡ parts (padded_name m) = ap (λ (l : List ℕ). ((l ++ take 8 (drop 8 (padded_name n))) ++ take 8 (drop 16 (padded_name n))) ++ take 8 (drop 24 (padded_name n))) first
    ∙ ap (λ (l : List ℕ). ((take 8 (drop 0 (padded_name m)) ++ l) ++ take 8 (drop 16 (padded_name n))) ++ take 8 (drop 24 (padded_name n))) second
    ∙ ap (λ (l : List ℕ). ((take 8 (drop 0 (padded_name m)) ++ take 8 (drop 8 (padded_name m))) ++ l) ++ take 8 (drop 24 (padded_name n))) third
    ∙ ap (λ (l : List ℕ). ((take 8 (drop 0 (padded_name m)) ++ take 8 (drop 8 (padded_name m))) ++ take 8 (drop 16 (padded_name m))) ++ l) fourth in
    unpadded n m (32 - length n) (32 - length m) x.0 y.0 (in_parts (padded_name n) whole ∙ same ∙ sym (in_parts (padded_name m) whole2))

numbers_equal : (a b : ℕ) → nat_eq a b ≡ true → a ≡ b
numbers_equal a b e = grind (arith, nat_tests)

number_is : (a : ℕ) → nat_eq a a ≡ true
number_is a = grind (arith, nat_tests)

key_eq : (a b : NameKey) → keys_eq a b ≡ true → a ≡ b
key_eq a b e =
    let (first, rest) = and_parts (nat_eq a.first b.first) _ e in
    let (second, more) = and_parts (nat_eq a.second b.second) _ rest in
    let (third, fourth) = and_parts (nat_eq a.third b.third) (nat_eq a.fourth b.fourth) more in
    rw (numbers_equal a.first b.first first, numbers_equal a.second b.second second, numbers_equal a.third b.third third, numbers_equal a.fourth b.fourth fourth) refl

key_same : (a : NameKey) → keys_eq a a ≡ true
key_same a = rw (number_is a.first, number_is a.second, number_is a.third, number_is a.fourth) refl

-- the keys of two names are equal exactly where the names are one
pub keys_equal : KeysTellNames
keys_equal n m a b = by (bytes_eq n m) (keys_eq (name_key n) (name_key m)) refl refl
  where
    by : (t u : Bool) → bytes_eq n m ≡ t → keys_eq (name_key n) (name_key m) ≡ u → keys_eq (name_key n) (name_key m) ≡ bytes_eq n m
    by true true h k = k ∙ sym h
    by false false h k = k ∙ sym h
    by true false h k =
        let same : n ≡ m = (bytes_eq-Decides n m).0 h in
        absurd (false≢true (sym k ∙ subst (λ (x : List ℕ). keys_eq (name_key n) (name_key x) ≡ true) same (key_same (name_key n))))
    by false true h k =
        let same : n ≡ m = keys_apart n m a b (key_eq (name_key n) (name_key m) k) in
        absurd (false≢true (sym h ∙ subst (λ (x : List ℕ). bytes_eq n x ≡ true) same (nat_list_eq_equiv.refl n)))
