-- The words of a canonical line say what it was printed from.
use Rattle.std.proofs.Common.{◌≡◌, ℕ, suc, ◌+◌, ◌<◌, ◌^◌, List, [], ◌∷◌, ◌++◌, Some, Bool, true, false, map, length, take, drop, refl, ap, ◌∙◌, arith, append-nil, length-append}
use Rattle.std.specs.Prelude.{◌&&◌, ◌==◌, nat_le, nat_lt, position}
use Rattle.std.specs.List.{list_all, position_or_len}
use Rattle.std.proofs.lemmas.Bool.Decides.{nat_tests}
use Rattle.std.specs.Fmt.{decimal, digits}
use Rattle.std.specs.Str.Parse.{AllDigits}
use Rattle.std.specs.Char.{digit_value}
use Rattle.std.proofs.lemmas.Bool.{ne_eqb, lt-ltb, le-leb, leb-true}
use Rattle.std.proofs.lemmas.Fmt.{decimal_is_IsNumeral, digits_is_IsNumeral}
use Rattle.rh_words.specs.Text.{words_of, onto_first, is_printable, is_printable_byte}
use Rattle.rh_words.specs.Number.{hexadecimal}
use Rattle.rh_words.specs.Naming.{is_name, begins_name, continues_name}
use Rattle.rh_words.proofs.Printed.{number_of-decimal, number_of-hexadecimal}
use Rattle.rh_words.specs.declared.keyword.Keyword.{Keyword}
use Rattle.rh_words.specs.declared.keyword.Keyword.TheVariants.{PromiseWord, TempWord, MatrixWord, RowWord, TaskWord, PlainWord, ReplicateWord, AbftWord, ReplayWord, AwaitWord, FinishWord, GroupWord, EndWord, LetWord, LitWord, GenWord, AddWord, SubWord, MulWord, ScaleWord, ShiftWord, CutWord, JoinWord, SumWord, CountWord, Stencil1Word, Stencil2Word, ProductWord, PutWord, WhenWord, DropWord, CheckWord, RangeWord, TotalWord, LinearWord, ConserveWord, Conserve2Word, UserWord, FaultWord}
use Rattle.rh_words.specs.declared.value.Value.{Value}
use Rattle.rh_words.specs.declared.value.Value.TheVariants.{AWord, AName, ANumber, AMask, APair}
use Rattle.rh_words.specs.Keywords.{keyword_text}
use Rattle.rh_words.specs.Values.{SaysWord, SayWords, IsSayable, AreSayable, pair_of, word_text, rest_text, line_text}

-- the byte is printable and no space
abbrev pub is_visible : ℕ → Bool
is_visible b = nat_le 33 b && nat_le b 126

-- visible bytes, at least one
abbrev pub IsWord : List ℕ → Type 0
IsWord [] = ⊥
IsWord (b ∷ bs) = list_all is_visible (b ∷ bs) ≡ true

both : (a b : Bool) → (a && b) ≡ true → (a ≡ true) × (b ≡ true)
both true b e = (refl, e)
both false b e = cc

no_space : (b : ℕ) → is_visible b ≡ true → (b == 32) ≡ false
no_space b e = let low = leb-true 33 b (both (nat_le 33 b) (nat_le b 126) e).0 in ne_eqb b 32 (omega arith)

-- a word at the end of a line
last_word : (b : ℕ) (bs : List ℕ) → list_all is_visible (b ∷ bs) ≡ true → words_of (b ∷ bs) ≡ (b ∷ bs) ∷ []
last_word b [] e =
    let other = no_space b (both (is_visible b) true e).0 in rw other refl
last_word b (c ∷ cs) e =
    let here = both (is_visible b) (list_all is_visible (c ∷ cs)) e in
    let there = both (is_visible c) (list_all is_visible cs) here.1 in
    let more = last_word c cs here.1 in
    let other = no_space b here.0 in
    let next = no_space c there.0 in
    rw (other, next) (ap (λ (ws : List (List ℕ)). onto_first b ws) (rw next at more))

-- a word before a space
word_before : (b : ℕ) (bs rest : List ℕ) → list_all is_visible (b ∷ bs) ≡ true → words_of ((b ∷ bs) ++ 32 ∷ rest) ≡ (b ∷ bs) ∷ words_of rest
word_before b [] rest e =
    let other = no_space b (both (is_visible b) true e).0 in rw other refl
word_before b (c ∷ cs) rest e =
    let here = both (is_visible b) (list_all is_visible (c ∷ cs)) e in
    let there = both (is_visible c) (list_all is_visible cs) here.1 in
    let more = word_before c cs rest here.1 in
    let other = no_space b here.0 in
    let next = no_space c there.0 in
    rw (other, next) (ap (λ (ws : List (List ℕ)). onto_first b ws) (rw next at more))

pub word_ends : (w : List ℕ) → IsWord w → words_of w ≡ w ∷ []
word_ends [] h = absurd h
word_ends (b ∷ bs) h = last_word b bs h

word_goes_on : (w rest : List ℕ) → IsWord w → words_of (w ++ 32 ∷ rest) ≡ w ∷ words_of rest
word_goes_on [] rest h = absurd h
word_goes_on (b ∷ bs) rest h = word_before b bs rest h

pub digit_visible : (c : ℕ) → digit_value c < 10 → is_visible c ≡ true
digit_visible c h = grind (arith, nat_tests)

digits_visible : (ds : List ℕ) → AllDigits 10 ds → list_all is_visible ds ≡ true
digits_visible [] h = refl
digits_visible (c ∷ cs) h = let here = digit_visible c h.0 in let there = digits_visible cs h.1 in rw (here, there) refl

continues_visible : (c : ℕ) → continues_name c ≡ true → is_visible c ≡ true
continues_visible c h = grind (arith, nat_tests)

begins_visible : (c : ℕ) → begins_name c ≡ true → is_visible c ≡ true
begins_visible c h = grind (arith, nat_tests)

keyword_word : (k : Keyword) → IsWord (keyword_text k)
keyword_word PromiseWord = refl
keyword_word TempWord = refl
keyword_word MatrixWord = refl
keyword_word RowWord = refl
keyword_word TaskWord = refl
keyword_word PlainWord = refl
keyword_word ReplicateWord = refl
keyword_word AbftWord = refl
keyword_word ReplayWord = refl
keyword_word AwaitWord = refl
keyword_word FinishWord = refl
keyword_word GroupWord = refl
keyword_word EndWord = refl
keyword_word LetWord = refl
keyword_word LitWord = refl
keyword_word GenWord = refl
keyword_word AddWord = refl
keyword_word SubWord = refl
keyword_word MulWord = refl
keyword_word ScaleWord = refl
keyword_word ShiftWord = refl
keyword_word CutWord = refl
keyword_word JoinWord = refl
keyword_word SumWord = refl
keyword_word CountWord = refl
keyword_word Stencil1Word = refl
keyword_word Stencil2Word = refl
keyword_word ProductWord = refl
keyword_word PutWord = refl
keyword_word WhenWord = refl
keyword_word DropWord = refl
keyword_word CheckWord = refl
keyword_word RangeWord = refl
keyword_word TotalWord = refl
keyword_word LinearWord = refl
keyword_word ConserveWord = refl
keyword_word Conserve2Word = refl
keyword_word UserWord = refl
keyword_word FaultWord = refl

word_of : (w : List ℕ) → 0 < length w → list_all is_visible w ≡ true → IsWord w
word_of [] long e = absurd (omega arith)
word_of (b ∷ bs) long e = e

name_word : (n : List ℕ) → is_name n ≡ true → IsWord n
name_word [] e = cc
name_word (c ∷ cs) e =
    let a = both (begins_name c && nat_le (length (c ∷ cs)) 32) (list_all continues_name cs) e in
    let b = both (begins_name c) (nat_le (length (c ∷ cs)) 32) a.0 in
    let here = begins_visible c b.0 in
    let there = all_continue cs a.1 in
    rw (here, there) refl where
      all_continue : (ds : List ℕ) → list_all continues_name ds ≡ true → list_all is_visible ds ≡ true
      all_continue [] h = refl
      all_continue (d ∷ ds) h = let t = both (continues_name d) (list_all continues_name ds) h in let x = continues_visible d t.0 in let y = all_continue ds t.1 in rw (x, y) refl

decimal_word : (n : ℕ) → n < 2 ^ 64 → IsWord (decimal n)
decimal_word n small = let is = decimal_is_IsNumeral n small in word_of (decimal n) is.0.0 (digits_visible (decimal n) is.0.1)

-- a digit of base 16 is visible
mask_digit_visible : (c : ℕ) → digit_value c < 16 → is_visible c ≡ true
mask_digit_visible c h = grind (arith, nat_tests)

mask_digits_visible : (ds : List ℕ) → AllDigits 16 ds → list_all is_visible ds ≡ true
mask_digits_visible [] h = refl
mask_digits_visible (c ∷ cs) h = let here = mask_digit_visible c h.0 in let there = mask_digits_visible cs h.1 in rw (here, there) refl

hexadecimal_word : (n : ℕ) → n < 2 ^ 64 → IsWord (hexadecimal n)
hexadecimal_word n small =
    let is = digits_is_IsNumeral 16 false (omega arith) (omega arith) n (omega arith) in
    let there = mask_digits_visible (digits 16 false n) is.0.1 in
    rw there refl

visible_both : (xs ys : List ℕ) → list_all is_visible xs ≡ true → list_all is_visible ys ≡ true → list_all is_visible (xs ++ ys) ≡ true
visible_both [] ys a b = b
visible_both (x ∷ xs) ys a b = let t = both (is_visible x) (list_all is_visible xs) a in let x1 = t.0 in let y = visible_both xs ys t.1 b in rw (x1, y) refl

visible_word : (w : List ℕ) → IsWord w → list_all is_visible w ≡ true
visible_word [] h = absurd h
visible_word (b ∷ bs) h = h

pair_word : (j v : List ℕ) → IsWord j → IsWord v → IsWord (j ++ 58 ∷ v)
pair_word [] v a b = absurd a
pair_word (d ∷ ds) v a b = visible_both (d ∷ ds) (58 ∷ v) a (visible_word v b)

-- each value has a word
pub value_word : (v : Value) → IsSayable v → IsWord (word_text v)
value_word (AWord k) h = keyword_word k
value_word (AName n) h = name_word n h
value_word (ANumber n) h = decimal_word n h
value_word (AMask n) h = hexadecimal_word n h
value_word (APair j v) h = pair_word (decimal j) (decimal v) (decimal_word j h.0) (decimal_word v h.1)

digit_no_colon : (c : ℕ) → digit_value c < 10 → (c == 58) ≡ false
digit_no_colon c h = grind (arith, nat_tests)

colon_place : (ds rest : List ℕ) → AllDigits 10 ds → position_or_len (λ b. b == 58) (ds ++ 58 ∷ rest) ≡ length ds
colon_place [] rest h = refl
colon_place (d ∷ ds) rest h = let other = digit_no_colon d h.0 in let more = colon_place ds rest h.1 in rw (other, more) (omega arith)

colon_at : (ds rest : List ℕ) → AllDigits 10 ds → position (λ b. b == 58) (ds ++ 58 ∷ rest) ≡ Some (length ds)
colon_at ds rest h =
    let place = colon_place ds rest h in
    let inside : nat_lt (length ds) (length (ds ++ 58 ∷ rest)) ≡ true = lt-ltb (length ds) (length (ds ++ 58 ∷ rest)) (omega (arith, length-append ds (58 ∷ rest))) in
    rw (place, inside) refl

front_of : (ds rest : List ℕ) → take (length ds) (ds ++ 58 ∷ rest) ≡ ds
front_of [] rest = refl
front_of (d ∷ ds) rest = ap (λ (l : List ℕ). d ∷ l) (front_of ds rest)

back_of : (ds rest : List ℕ) → drop (length ds + 1) (ds ++ 58 ∷ rest) ≡ rest
back_of [] rest = refl
back_of (d ∷ ds) rest = let e : suc (length ds) + 1 ≡ suc (length ds + 1) = omega arith in ap (λ (n : ℕ). drop n (d ∷ (ds ++ 58 ∷ rest))) e ∙ back_of ds rest

pair_of-text : (j v : ℕ) → j < 2 ^ 64 → v < 2 ^ 64 → pair_of (decimal j ++ 58 ∷ decimal v) ≡ Some (j, v)
unfolding pair_of
pair_of-text j v a b =
    let is = decimal_is_IsNumeral j a in
    let at = colon_at (decimal j) (decimal v) is.0.1 in
    let front = front_of (decimal j) (decimal v) in
    let back = back_of (decimal j) (decimal v) in
    let first = number_of-decimal j a in
    let second = number_of-decimal v b in
    rw (at, front, back, first, second) refl

-- the word says the value
pub says_value : (v : Value) → IsSayable v → SaysWord (word_text v) v
says_value (AWord k) h = refl
says_value (AName n) h = (refl, h)
says_value (ANumber n) h = number_of-decimal n h
says_value (AMask n) h = number_of-hexadecimal n h
says_value (APair j v) h = pair_of-text j v h.0 h.1

words_first : (w : List ℕ) (vs : List Value) → IsWord w → words_of (w ++ rest_text vs) ≡ w ∷ words_of (rest_text vs)
words_first w [] h = ap (λ (l : List ℕ). words_of l) (append-nil w) ∙ word_ends w h
words_first w (v ∷ vs) h = word_goes_on w (word_text v ++ rest_text vs) h

rest_words : (vs : List Value) → AreSayable vs → words_of (rest_text vs) ≡ map word_text vs
rest_words [] h = refl
rest_words (v ∷ vs) h = words_first (word_text v) vs (value_word v h.0) ∙ ap (λ (ws : List (List ℕ)). word_text v ∷ ws) (rest_words vs h.1)

-- the words of a canonical line
pub line_words : (vs : List Value) → AreSayable vs → words_of (line_text vs) ≡ map word_text vs
line_words [] h = refl
line_words (v ∷ vs) h = words_first (word_text v) vs (value_word v h.0) ∙ ap (λ (ws : List (List ℕ)). word_text v ∷ ws) (rest_words vs h.1)

-- they say the values
pub says_values : (vs : List Value) → AreSayable vs → SayWords (map word_text vs) vs
says_values [] h = refl
says_values (v ∷ vs) h = (word_text v, map word_text vs, refl, says_value v h.0, says_values vs h.1)

-- The canonical line is printable.

printable_byte : (b : ℕ) → is_visible b ≡ true → is_printable_byte b ≡ true
printable_byte b e =
    let low = leb-true 33 b (both (nat_le 33 b) (nat_le b 126) e).0 in
    let high = (both (nat_le 33 b) (nat_le b 126) e).1 in
    let lower : nat_le 0x20 b ≡ true = le-leb 0x20 b (omega arith) in
    rw (lower, high) refl

printable_bytes : (bs rest : List ℕ) → list_all is_visible bs ≡ true → is_printable rest ≡ true → is_printable (bs ++ rest) ≡ true
printable_bytes [] rest h e = e
printable_bytes (b ∷ bs) rest h e =
    let t = both (is_visible b) (list_all is_visible bs) h in
    let here = printable_byte b t.0 in
    let there = printable_bytes bs rest t.1 e in
    rw (here, there) refl

printable_word : (w rest : List ℕ) → IsWord w → is_printable rest ≡ true → is_printable (w ++ rest) ≡ true
printable_word [] rest h e = absurd h
printable_word (b ∷ bs) rest h e = printable_bytes (b ∷ bs) rest h e

rest_printable : (vs : List Value) → AreSayable vs → is_printable (rest_text vs) ≡ true
rest_printable [] h = refl
rest_printable (v ∷ vs) h = printable_word (word_text v) (rest_text vs) (value_word v h.0) (rest_printable vs h.1)

pub line_printable : (vs : List Value) → AreSayable vs → is_printable (line_text vs) ≡ true
line_printable [] h = refl
line_printable (v ∷ vs) h = printable_word (word_text v) (rest_text vs) (value_word v h.0) (rest_printable vs h.1)

-- the words of the canonical line say the values
pub line_says : (vs : List Value) → AreSayable vs → SayWords (words_of (line_text vs)) vs
line_says vs h = rw (line_words vs h) (says_values vs h)
