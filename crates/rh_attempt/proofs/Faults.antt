-- The faults of a local, one after another.
use Rattle.std.proofs.Common.{◌≡◌, ◌≢◌, ℕ, zero, suc, ◌+◌, ◌<◌, ◌==◌, ◌&&◌, ◌||◌, List, [], ◌∷◌, ◌++◌, Bool, true, false, cond, Option, Some, None, length, take, drop, get_or, slice_index, refl, arith, ap, sym, ◌∙◌, subst, inl, inr}
use Rattle.std.proofs.lemmas.Bool.{false≢true, cases_Bool, cases_lt, and_parts, and_from, or_parts, eqb-true, eq-eqb, ne_eqb, lt-ltb, le-ltb, cond-true, cond-false}
use Rattle.std.proofs.lemmas.List.{take_more, drop_more, take-append-drop}
use Rattle.std.specs.Prelude.{nat_lt, bit_xor}
use Rattle.std.specs.List.{AllByRecursion, find, slice_set}
use Rattle.std.specs.Option.{option_map, unwrap_or}
use Rattle.rh_injector.specs.declared.faults.Strike.{Strike}
use Rattle.rh_injector.specs.Faults.{below_or, is_before, comes_before, faults_in, IsAscending, IsFaultList}
use Rattle.rh_plan.specs.Faulted.{faulted, faulted_from, faulted_word}
use Rattle.rh_attempt.specs.Faulting.{AreApart, with_fault, names_local}

-- the fault is at this word of this local
abbrev pub is_at : ℕ → ℕ → Strike → Bool
is_at local at s = s.local == local && s.word == at

-- the words of a local, the first of which has this place, after one fault
abbrev pub fault_from : Strike → ℕ → ℕ → List ℕ → List ℕ
fault_from s local at [] = []
fault_from s local at (w ∷ words) = cond (is_at local at s) (bit_xor w s.mask) w ∷ fault_from s local (at + 1) words

abbrev AreOthers : Strike → List Strike → Type 0
AreOthers s faults = AllByRecursion (λ t. (s.local == t.local && s.word == t.word) ≡ false) faults

all_right : {X : Type 0} (P : X → Type 0) (xs ys : List X) → AllByRecursion P (xs ++ ys) → AllByRecursion P ys
all_right P [] ys all = all
all_right P (x ∷ xs) ys all = all_right P xs ys all.1

-- a fault has another place than those before it
others_before : (xs ys : List Strike) (s : Strike) → AreApart (xs ++ s ∷ ys) → AreOthers s xs
others_before [] ys s apart = tt
others_before (x ∷ xs) ys s apart = ((all_right (λ t. (t.local == x.local && t.word == x.word) ≡ false) xs (s ∷ ys) apart.0).0, others_before xs ys s apart.1)

other_at : (local at : ℕ) (s x : Strike) → (s.local == x.local && s.word == x.word) ≡ false → is_at local at x ≡ true → is_at local at s ≡ false
other_at local at s x other here = elim (cases_Bool (is_at local at s)) [
  | inr misses ↦ misses
  | inl hits ↦
      let (xl, xw) = and_parts (x.local == local) (x.word == at) here in
      let (sl, sw) = and_parts (s.local == local) (s.word == at) hits in
      let locals : s.local ≡ x.local = eqb-true s.local local sl ∙ sym (eqb-true x.local local xl) in
      let words : s.word ≡ x.word = eqb-true s.word at sw ∙ sym (eqb-true x.word at xw) in
      absurd (false≢true (sym other ∙ and_from (s.local == x.local) (s.word == x.word) (eq-eqb s.local x.local locals) (eq-eqb s.word x.word words)))
]

one_word : (b : Bool) (s : Strike) (w : ℕ) → unwrap_or (option_map (λ t. bit_xor w t.mask) (cond b (Some s) None)) w ≡ cond b (bit_xor w s.mask) w
one_word true s w = refl
one_word false s w = refl

-- a word after one fault more
word_more : (xs : List Strike) (s : Strike) (local at w : ℕ) → AreOthers s xs → faulted_word (xs ++ s ∷ []) local at w ≡ cond (is_at local at s) (bit_xor (faulted_word xs local at w) s.mask) (faulted_word xs local at w)
word_more [] s local at w others = one_word (is_at local at s) s w
word_more (x ∷ xs) s local at w others = elim (cases_Bool (is_at local at x)) [
  | inl here ↦
      let f = λ (o : Option Strike). unwrap_or (option_map (λ (t : Strike). bit_xor w t.mask) o) w in
      let left : faulted_word (x ∷ xs ++ s ∷ []) local at w ≡ bit_xor w x.mask = ap f (cond-true (is_at local at x) (Some x) (find (is_at local at) (xs ++ s ∷ [])) here) in
      let right : faulted_word (x ∷ xs) local at w ≡ bit_xor w x.mask = ap f (cond-true (is_at local at x) (Some x) (find (is_at local at) xs) here) in
      left ∙ sym right ∙ sym (cond-false (is_at local at s) (bit_xor (faulted_word (x ∷ xs) local at w) s.mask) (faulted_word (x ∷ xs) local at w) (other_at local at s x others.0 here))
  | inr misses ↦
      let f = λ (o : Option Strike). unwrap_or (option_map (λ (t : Strike). bit_xor w t.mask) o) w in
      let left : faulted_word (x ∷ xs ++ s ∷ []) local at w ≡ faulted_word (xs ++ s ∷ []) local at w = ap f (cond-false (is_at local at x) (Some x) (find (is_at local at) (xs ++ s ∷ [])) misses) in
      let right : faulted_word (x ∷ xs) local at w ≡ faulted_word xs local at w = ap f (cond-false (is_at local at x) (Some x) (find (is_at local at) xs) misses) in
      left ∙ word_more xs s local at w others.1 ∙ ap (λ (v : ℕ). cond (is_at local at s) (bit_xor v s.mask) v) (sym right)
]

words_more : (xs : List Strike) (s : Strike) (local at : ℕ) (words : List ℕ) → AreOthers s xs → faulted_from (xs ++ s ∷ []) local at words ≡ fault_from s local at (faulted_from xs local at words)
words_more xs s local at [] others = refl
words_more xs s local at (w ∷ words) others =
    ap (λ (v : ℕ). v ∷ faulted_from (xs ++ s ∷ []) local (at + 1) words) (word_more xs s local at w others)
    ∙ ap (λ (l : List ℕ). cond (is_at local at s) (bit_xor (faulted_word xs local at w) s.mask) (faulted_word xs local at w) ∷ l) (words_more xs s local (at + 1) words others)

-- a fault of another word, or of another local, changes no word
untouched : (s : Strike) (local at : ℕ) (words : List ℕ) → ((k : ℕ) → k < length words → is_at local (at + k) s ≡ false) → fault_from s local at words ≡ words
untouched s local at [] none = refl
untouched s local at (w ∷ words) none =
    let here : is_at local at s ≡ false = ap (λ (n : ℕ). is_at local n s) (omega arith) ∙ none 0 (omega arith) in
    ap (λ (v : ℕ). v ∷ fault_from s local (at + 1) words) (cond-false (is_at local at s) (bit_xor w s.mask) w here)
    ∙ ap (λ (l : List ℕ). w ∷ l) (untouched s local (at + 1) words (λ k h. ap (λ (n : ℕ). is_at local n s) (omega arith) ∙ none (k + 1) (omega arith)))

other_word : (s : Strike) (local at : ℕ) → s.word ≢ at → is_at local at s ≡ false
other_word s local at ne = elim (cases_Bool (s.local == local)) [
  | inl same ↦ ap (λ (b : Bool). b && (s.word == at)) same ∙ ne_eqb s.word at ne
  | inr other ↦ ap (λ (b : Bool). b && (s.word == at)) other
]

set_word : (s : Strike) (local at k : ℕ) (words : List ℕ) → (s.local == local) ≡ true → s.word ≡ at + k → k < length words → fault_from s local at words ≡ slice_set words k (bit_xor (slice_index words k) s.mask)
set_word s local at k [] same is within = absurd (omega arith)
set_word s local at zero (w ∷ words) same is within =
    let here : is_at local at s ≡ true = and_from (s.local == local) (s.word == at) same (eq-eqb s.word at (omega arith)) in
    ap (λ (v : ℕ). v ∷ fault_from s local (at + 1) words) (cond-true (is_at local at s) (bit_xor w s.mask) w here)
    ∙ ap (λ (l : List ℕ). bit_xor w s.mask ∷ l) (untouched s local (at + 1) words (λ j h. other_word s local (at + 1 + j) (omega arith)))
set_word s local at (suc k) (w ∷ words) same is within =
    ap (λ (v : ℕ). v ∷ fault_from s local (at + 1) words) (cond-false (is_at local at s) (bit_xor w s.mask) w (other_word s local at (omega arith)))
    ∙ ap (λ (l : List ℕ). w ∷ l) (set_word s local (at + 1) k words same (omega arith) (omega arith))

fault_is : (s : Strike) (local : ℕ) (words : List ℕ) → fault_from s local 0 words ≡ with_fault s local words
fault_is s local words = elim (cases_Bool (s.local == local)) [
  | inr other ↦
      untouched s local 0 words (λ k h. ap (λ (b : Bool). b && (s.word == 0 + k)) other)
      ∙ sym (cond-false (s.local == local && nat_lt s.word (length words)) (slice_set words s.word (bit_xor (slice_index words s.word) s.mask)) words (ap (λ (b : Bool). b && nat_lt s.word (length words)) other))
  | inl same ↦ elim (cases_lt s.word (length words)) [
    | inl within ↦
        set_word s local 0 s.word words same (omega arith) within
        ∙ sym (cond-true (s.local == local && nat_lt s.word (length words)) (slice_set words s.word (bit_xor (slice_index words s.word) s.mask)) words (and_from (s.local == local) (nat_lt s.word (length words)) same (lt-ltb s.word (length words) within)))
    | inr past ↦
        untouched s local 0 words (λ k h. other_word s local (0 + k) (omega arith))
        ∙ sym (cond-false (s.local == local && nat_lt s.word (length words)) (slice_set words s.word (bit_xor (slice_index words s.word) s.mask)) words (ap (λ (b : Bool). b && nat_lt s.word (length words)) same ∙ le-ltb s.word (length words) past))
  ]
]

-- a local after one fault more
pub faulted_more : (strikes : List Strike) (local : ℕ) (words before after : List ℕ) (i : ℕ) (d : Strike) → AreApart strikes → i < length strikes → before ≡ faulted (take i strikes) local words → after ≡ with_fault (get_or strikes i d) local before → after ≡ faulted (take (i + 1) strikes) local words
faulted_more strikes local words before after i d apart within is is_after =
    let s : Strike = get_or strikes i d in
    let split : take i strikes ++ s ∷ drop (i + 1) strikes ≡ strikes = ap (λ (l : List Strike). take i strikes ++ l) (sym (drop_more strikes i d within)) ∙ take-append-drop i strikes in
    let others = others_before (take i strikes) (drop (i + 1) strikes) s (subst AreApart (sym split) apart) in
    is_after ∙ ap (with_fault s local) is
    ∙ sym (fault_is s local (faulted (take i strikes) local words))
    ∙ sym (words_more (take i strikes) s local 0 words others)
    ∙ ap (λ (l : List Strike). faulted l local words) (sym (take_more strikes i d within))

-- without faults a local is as it was made
pub faulted_none : (local : ℕ) (words : List ℕ) → faulted [] local words ≡ words
faulted_none local words = none_from 0 words
  where
    none_from : (at : ℕ) (words : List ℕ) → faulted_from [] local at words ≡ words
    none_from at [] = refl
    none_from at (w ∷ words) = ap (λ (l : List ℕ). w ∷ l) (none_from (at + 1) words)

unnamed_word : (strikes : List Strike) (local at : ℕ) → names_local strikes local ≡ false → find (is_at local at) strikes ≡ None
unnamed_word [] local at none = refl
unnamed_word (s ∷ strikes) local at none =
    let (here, rest) = or_parts (s.local == local) (names_local strikes local) none in
    cond-false (is_at local at s) (Some s) (find (is_at local at) strikes) (ap (λ (b : Bool). b && (s.word == at)) here) ∙ unnamed_word strikes local at rest

-- a local that no fault names is as it was made
pub unnamed_local : (strikes : List Strike) (local : ℕ) (words : List ℕ) → names_local strikes local ≡ false → words ≡ faulted strikes local words
unnamed_local strikes local words none = sym (unnamed_from 0 words)
  where
    unnamed_from : (at : ℕ) (words : List ℕ) → faulted_from strikes local at words ≡ words
    unnamed_from at [] = refl
    unnamed_from at (w ∷ words) =
        ap (λ (o : Option Strike). unwrap_or (option_map (λ (s : Strike). bit_xor w s.mask) o) w ∷ faulted_from strikes local (at + 1) words) (unnamed_word strikes local at none)
        ∙ ap (λ (l : List ℕ). w ∷ l) (unnamed_from (at + 1) words)

below_itself : (a : ℕ) (rest : Bool) → below_or a a rest ≡ rest
below_itself a rest = ap (λ (b : Bool). b || (a == a && rest)) (le-ltb a a (omega arith)) ∙ ap (λ (b : Bool). b && rest) (eq-eqb a a refl)

-- of two faults of one attempt of a task, one of which comes before the other, they have not one place
apart_in : (v k : ℕ) (s t : Strike) → (s.node == v && s.attempt == k) ≡ true → (t.node == v && t.attempt == k) ≡ true → comes_before s t ≡ true → (t.local == s.local && t.word == s.word) ≡ false
apart_in v k s t here there before = elim (cases_Bool (t.local == s.local && t.word == s.word)) [
  | inr misses ↦ misses
  | inl hits ↦
      let (sv, sk) = and_parts (s.node == v) (s.attempt == k) here in
      let (tv, tk) = and_parts (t.node == v) (t.attempt == k) there in
      let (local, word) = and_parts (t.local == s.local) (t.word == s.word) hits in
      let node : t.node ≡ s.node = eqb-true t.node v tv ∙ sym (eqb-true s.node v sv) in
      let attempt : t.attempt ≡ s.attempt = eqb-true t.attempt k tk ∙ sym (eqb-true s.attempt k sk) in
      let itself : comes_before s t ≡ is_before s s.node s.attempt s.local s.word =
      ap (λ (n : ℕ). is_before s n t.attempt t.local t.word) node
      ∙ ap (λ (n : ℕ). is_before s s.node n t.local t.word) attempt
      ∙ ap (λ (n : ℕ). is_before s s.node s.attempt n t.word) (eqb-true t.local s.local local)
      ∙ ap (λ (n : ℕ). is_before s s.node s.attempt s.local n) (eqb-true t.word s.word word) in
      let never : is_before s s.node s.attempt s.local s.word ≡ false =
      below_itself s.node (below_or s.attempt s.attempt (below_or s.local s.local (nat_lt s.word s.word)))
      ∙ below_itself s.attempt (below_or s.local s.local (nat_lt s.word s.word))
      ∙ below_itself s.local (nat_lt s.word s.word)
      ∙ le-ltb s.word s.word (omega arith) in
      absurd (false≢true (sym never ∙ sym itself ∙ before))
]

-- a fault of an attempt has a place of its own among the later ones
later_apart : (v k : ℕ) (s : Strike) (rest : List Strike) → (s.node == v && s.attempt == k) ≡ true → ((j : ℕ) (d : Strike) → j < length rest → comes_before s (get_or rest j d) ≡ true) → AllByRecursion (λ t. (t.local == s.local && t.word == s.word) ≡ false) (faults_in rest v k)
later_apart v k s [] here before = tt
later_apart v k s (t ∷ rest) here before =
    let others = later_apart v k s rest here (λ j d within. before (suc j) d (omega arith)) in
    let P : List Strike → Type 0 = AllByRecursion (λ (r : Strike). (r.local == s.local && r.word == s.word) ≡ false) in
    elim (cases_Bool (t.node == v && t.attempt == k)) [
      | inr other ↦ subst P (sym (cond-false (t.node == v && t.attempt == k) (t ∷ faults_in rest v k) (faults_in rest v k) other)) others
      | inl there ↦ subst P (sym (cond-true (t.node == v && t.attempt == k) (t ∷ faults_in rest v k) (faults_in rest v k) there)) (apart_in v k s t here there (before 0 t (omega arith)), others)
    ]

-- the faults of an attempt, among faults in order, have places of their own
pub attempt_apart : (faults : List Strike) (v k : ℕ) → IsAscending faults → AreApart (faults_in faults v k)
attempt_apart [] v k order = tt
attempt_apart (s ∷ faults) v k order =
    let others = attempt_apart faults v k (λ i j d below within. order (suc i) (suc j) d (omega arith) (omega arith)) in
    elim (cases_Bool (s.node == v && s.attempt == k)) [
      | inr other ↦ subst AreApart (sym (cond-false (s.node == v && s.attempt == k) (s ∷ faults_in faults v k) (faults_in faults v k) other)) others
      | inl here ↦
          subst AreApart (sym (cond-true (s.node == v && s.attempt == k) (s ∷ faults_in faults v k) (faults_in faults v k) here))
          (later_apart v k s faults here (λ j d within. order 0 (suc j) d (omega arith) (omega arith)), others)
    ]

-- the same of the faults that are read
pub read_apart : (faults strikes : List Strike) (v k : ℕ) → IsFaultList faults → strikes ≡ faults_in faults v k → AreApart strikes
read_apart faults strikes v k lawful is = subst AreApart (sym is) (attempt_apart faults v k lawful.ascending)
