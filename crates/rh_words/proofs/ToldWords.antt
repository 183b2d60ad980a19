-- Words in their places, one after another.
use Rattle.std.proofs.Common.{◌≡◌, ℕ, suc, ◌+◌, ◌<◌, ◌≤◌, List, [], ◌∷◌, ◌++◌, Option, Some, None, Bool, true, false, nat_lt, length, refl, ap, sym, ◌∙◌, subst, append_assoc, append-nil, length-append, cond, arith}
use Rattle.std.specs.Prelude.{◌&&◌, not, is_some, MatchBool, ⊤}
use Rattle.std.specs.Option.{option_map}
use Rattle.std.specs.Str.{bytes_eq}
use Rattle.std.proofs.lemmas.Bool.{ltb-true, ltb-false}
use Rattle.std.proofs.lemmas.Slice.Eq.{bytes_eq-Decides}
use Rattle.rh_words.specs.declared.reason.Reason.TheVariants.{BadName, BadNumber, Count}
use Rattle.rh_words.specs.declared.value.Place.{Place}
use Rattle.rh_words.specs.declared.value.Place.TheVariants.{WordPlace, NamePlace, NumberPlace, MaskPlace, PairPlace}
use Rattle.rh_words.specs.declared.value.Value.{Value}
use Rattle.rh_words.specs.declared.value.Value.TheVariants.{AWord, AName, ANumber, AMask, APair}
use Rattle.rh_words.specs.declared.keyword.Keyword.{Keyword}
use Rattle.rh_words.specs.Keywords.{keyword_text}
use Rattle.rh_words.specs.Naming.{is_name}
use Rattle.rh_words.specs.Number.{number_of}
use Rattle.rh_words.specs.Values.{SaysWord, SayWords, pair_of, IsAt}
use Rattle.rh_words.specs.Places.{agrees, pass, passes_name, passes_number, passes_word, has_count, fills, places_reason, first_reason, FitPlaces}
use Rattle.rh_words.specs.PlaceWalks.{Places, places, next_in, next_place, may_end, word_value, with_kept, ToldBy, IsTold, IsNothingTold}
use Rattle.rh_words.proofs.WordsInPlaces.{both}

and_assoc : (a b c : Bool) → (a && (b && c)) ≡ ((a && b) && c)
and_assoc true b c = refl
and_assoc false b c = refl

and_true : (a : Bool) → (a && true) ≡ a
and_true true = refl
and_true false = refl

and_is : (a b : Bool) → b ≡ true → (a && b) ≡ a
and_is true b e = e
and_is false b e = refl

and_not : (a b : Bool) → b ≡ false → (a && b) ≡ false
and_not true b e = e
and_not false b e = refl

unless_some : {X : Type 0} (b : Bool) (x : X) → cond b (Some x) None ≡ None → b ≡ false
unless_some true x e = cc
unless_some false x e = refl

none_of : {X Y : Type 0} (o : Option X) (f : X → Y) → option_map f o ≡ None → is_some o ≡ false
none_of None f e = refl
none_of (Some x) f e = cc

none_said : (o : Option Value) → is_some o ≡ false → o ≡ None
none_said None e = refl
none_said (Some v) e = cc

and_false : (a : Bool) → (a && false) ≡ false
and_false true = refl
and_false false = refl

-- what the next place means for the words and values that are left
record Next (ps : Places) (p : Place) (ps2 : Places) : Type 0 where
  pub passes : (test : Place → List ℕ → Bool) (w : List ℕ) (ws : List (List ℕ)) → pass test ps.here ps.more ps.again (w ∷ ws) ≡ (test p w && pass test ps2.here ps2.more ps2.again ws)
  pub counts : (w : List ℕ) (ws : List (List ℕ)) → has_count ps.here ps.more ps.again (w ∷ ws) ≡ has_count ps2.here ps2.more ps2.again ws
  pub fits : (v : Value) (vs : List Value) → IsAt p v → FitPlaces ps2.here ps2.more ps2.again vs → FitPlaces ps.here ps.more ps.again (v ∷ vs)

next_at : (here more again : List Place) (p : Place) (ps2 : Places) → next_in here more again ≡ Some (p, ps2) → Next (places here more again) p ps2
next_at (q ∷ here) more again p ps2 e =
    let pair : Some (q, places here more again) ≡ Some (p, ps2) = e in
    let same : (q, places here more again) ≡ (p, ps2) = cc in
    subst (λ (r : Place × Places). Next (places (q ∷ here) more again) r.0 r.1) same (record { passes = λ test w ws. refl; counts = λ w ws. refl; fits = λ v vs at rest. (at, rest) })
next_at [] (q ∷ more) again p ps2 e =
    let pair : Some (q, places more again again) ≡ Some (p, ps2) = e in
    let same : (q, places more again again) ≡ (p, ps2) = cc in
    subst (λ (r : Place × Places). Next (places [] (q ∷ more) again) r.0 r.1) same (record { passes = λ test w ws. refl; counts = λ w ws. refl; fits = λ v vs at rest. (at, rest) })
next_at [] [] again p ps2 e = cc

regroup : (t a b : Bool) → ((t && a) && b) ≡ (t && (a && b))
regroup true a b = refl
regroup false a b = refl

-- one value less is left, and one more is there
moved : (values values2 : List Value) (v : Value) (left n : ℕ) → values2 ≡ values ++ v ∷ [] → length values + suc left ≡ n → length values2 + left ≡ n
moved values values2 v left n is sized = rw is (omega (arith, sized, length-append values (v ∷ [])))

-- the word that has no room makes the line longer than `most`
no_room : (keeping : Bool) (values : List Value) (most left n : ℕ) → (keeping ≡ true → length values + suc left ≡ n) → (keeping ≡ false → most < n) → (keeping && nat_lt (length values) most) ≡ false → most < n
no_room true values most left n sized many out = let le = ltb-false (length values) most out in omega (arith, sized refl)
no_room false values most left n sized many out = many refl

-- what the word says fits its place
fits_place : (p : Place) (w : List ℕ) (v : Value) → word_value p w ≡ Some v → (passes_name p w ≡ true) × (passes_number p w ≡ true) × (passes_word p w ≡ true) × SaysWord w v × IsAt p v
fits_place (WordPlace k) w v e = by_word (bytes_eq w (keyword_text k)) refl e
  where
    by_word : (b : Bool) → bytes_eq w (keyword_text k) ≡ b → cond b (Some (AWord k)) None ≡ Some v → (true ≡ true) × (true ≡ true) × (bytes_eq w (keyword_text k) ≡ true) × SaysWord w v × (v ≡ AWord k)
    by_word true same is = let v_is : AWord k ≡ v = cc in (refl, refl, same, subst (λ (u : Value). SaysWord w u) v_is ((bytes_eq-Decides w (keyword_text k)).0 same), sym v_is)
    by_word false same is = cc
fits_place NamePlace w v e = by_name (is_name w) refl e
  where
    by_name : (b : Bool) → is_name w ≡ b → cond b (Some (AName w)) None ≡ Some v → (is_name w ≡ true) × (true ≡ true) × (true ≡ true) × SaysWord w v × ((name : List ℕ) × (v ≡ AName name))
    by_name true named is = let v_is : AName w ≡ v = cc in (named, refl, refl, subst (λ (u : Value). SaysWord w u) v_is (refl, named), (w, sym v_is))
    by_name false named is = cc
fits_place NumberPlace w v e = by_number (number_of w) refl e
  where
    by_number : (o : Option ℕ) → number_of w ≡ o → option_map ANumber o ≡ Some v → (true ≡ true) × (is_some (number_of w) ≡ true) × (true ≡ true) × SaysWord w v × ((n : ℕ) × (v ≡ ANumber n))
    by_number (Some n) number is = let v_is : ANumber n ≡ v = cc in (refl, ap (λ (o : Option ℕ). is_some o) number, refl, subst (λ (u : Value). SaysWord w u) v_is number, (n, sym v_is))
    by_number None number is = cc
fits_place MaskPlace w v e = by_number (number_of w) refl e
  where
    by_number : (o : Option ℕ) → number_of w ≡ o → option_map AMask o ≡ Some v → (true ≡ true) × (is_some (number_of w) ≡ true) × (true ≡ true) × SaysWord w v × ((n : ℕ) × (v ≡ AMask n))
    by_number (Some n) number is = let v_is : AMask n ≡ v = cc in (refl, ap (λ (o : Option ℕ). is_some o) number, refl, subst (λ (u : Value). SaysWord w u) v_is number, (n, sym v_is))
    by_number None number is = cc
fits_place PairPlace w v e = by_pair (pair_of w) refl e
  where
    by_pair : (o : Option (ℕ × ℕ)) → pair_of w ≡ o → option_map (λ (pair : ℕ × ℕ). APair pair.0 pair.1) o ≡ Some v → (true ≡ true) × (is_some (pair_of w) ≡ true) × (true ≡ true) × SaysWord w v × ((j : ℕ) × (n : ℕ) × (v ≡ APair j n))
    by_pair (Some (j, n)) pair is = let v_is : APair j n ≡ v = cc in (refl, ap (λ (o : Option (ℕ × ℕ)). is_some o) pair, refl, subst (λ (u : Value). SaysWord w u) v_is pair, (j, n, sym v_is))
    by_pair None pair is = cc

-- all values so far are kept, and one more may be, or not
abbrev pub HasRoom : Bool → List Value → ℕ → Bool → Type 0
HasRoom keeping values most keeping2 = keeping2 ≡ (keeping && nat_lt (length values) most)

-- what is kept of what the word says, where it says something
kept_value : (keeping2 : Bool) (values values2 : List Value) (v : Value) → values2 ≡ with_kept values (Some v) keeping2 → keeping2 ≡ true → values2 ≡ values ++ v ∷ []
kept_value true values values2 v kept on = kept
kept_value false values values2 v kept on = cc

-- the word that fits its place is told, and its value is kept where values are
pub told_value : (most : ℕ) (names numbers words keeping keeping2 : Bool) (values values2 : List Value) (p : Place) (word : List ℕ) → is_some (word_value p word) ≡ true → HasRoom keeping values most keeping2 → values2 ≡ with_kept values (word_value p word) keeping2
    → ToldBy most names numbers words keeping values p word names numbers words keeping2 values2
told_value most names numbers words keeping keeping2 values values2 p word fits room kept = by_value (word_value p word) refl fits kept
  where
    by_value : (o : Option Value) → word_value p word ≡ o → is_some o ≡ true → values2 ≡ with_kept values o keeping2 → ToldBy most names numbers words keeping values p word names numbers words keeping2 values2
    by_value None said some is = cc
    by_value (Some v) said some is =
        let (name, number, text, says, at) = fits_place p word v said in
        record {
          named = sym (and_is names (passes_name p word) name);
          numbered = sym (and_is numbers (passes_number p word) number);
          worded = sym (and_is words (passes_word p word) text);
          counted = room;
          valued = λ _ _ _ d. (v, kept_value keeping2 values values2 v is d, says, at);
        }

-- no more than `most` values are kept
pub kept_short : (most : ℕ) (keeping keeping2 : Bool) (values values2 : List Value) (o : Option Value) → HasRoom keeping values most keeping2 → values2 ≡ with_kept values o keeping2 → length values ≤ most → length values2 ≤ most
kept_short most keeping keeping2 values values2 None room kept short = rw kept short
kept_short most keeping false values values2 (Some v) room kept short = rw kept short
kept_short most keeping true values values2 (Some v) room kept short =
    let below = both keeping (nat_lt (length values) most) (sym room) in
    let less : length values < most = ltb-true (length values) most below.1 in
    rw kept (omega (arith, less, length-append values (v ∷ [])))

-- the place wants a number or two
abbrev pub IsNumeric : Place → Type 0
IsNumeric (WordPlace k) = ⊥
IsNumeric NamePlace = ⊥
IsNumeric NumberPlace = ⊤
IsNumeric MaskPlace = ⊤
IsNumeric PairPlace = ⊤

no_number : (p : Place) (w : List ℕ) → IsNumeric p → word_value p w ≡ None → (passes_name p w ≡ true) × (passes_number p w ≡ false) × (passes_word p w ≡ true)
no_number (WordPlace k) w h e = absurd h
no_number NamePlace w h e = absurd h
no_number NumberPlace w h e = (refl, none_of (number_of w) ANumber e, refl)
no_number MaskPlace w h e = (refl, none_of (number_of w) AMask e, refl)
no_number PairPlace w h e = (refl, none_of (pair_of w) (λ pair. APair pair.0 pair.1) e, refl)

-- the word that says no number in its place is told
pub told_no_number : (most : ℕ) (names numbers words keeping keeping2 : Bool) (values values2 : List Value) (p : Place) (word : List ℕ) → IsNumeric p → is_some (word_value p word) ≡ false → HasRoom keeping values most keeping2
    → ToldBy most names numbers words keeping values p word names false words keeping2 values2
told_no_number most names numbers words keeping keeping2 values values2 p word numeric said room =
    let (name, number, text) = no_number p word numeric (none_said (word_value p word) said) in
    record {
      named = sym (and_is names (passes_name p word) name);
      numbered = sym (and_not numbers (passes_number p word) number);
      worded = sym (and_is words (passes_word p word) text);
      counted = room;
      valued = λ _ b _ _. cc;
    }

-- the word that is no name in a name's place is told
pub told_no_name : (most : ℕ) (names numbers words keeping keeping2 : Bool) (values values2 : List Value) (p : Place) (word : List ℕ) → p ≡ NamePlace → is_some (word_value p word) ≡ false → HasRoom keeping values most keeping2
    → ToldBy most names numbers words keeping values p word false numbers words keeping2 values2
told_no_name most names numbers words keeping keeping2 values values2 p word is said room =
    let missed : word_value NamePlace word ≡ None = subst (λ (q : Place). word_value q word ≡ None) is (none_said (word_value p word) said) in
    let none = unless_some (is_name word) (AName word) missed in
    record {
      named = sym (and_not names (passes_name p word) (ap (λ (q : Place). passes_name q word) is ∙ none));
      numbered = sym (and_is numbers (passes_number p word) (ap (λ (q : Place). passes_number q word) is));
      worded = sym (and_is words (passes_word p word) (ap (λ (q : Place). passes_word q word) is));
      counted = room;
      valued = λ a _ _ _. cc;
    }

-- the word that is not the keyword of its place is told
pub told_no_word : (most : ℕ) (names numbers words keeping keeping2 : Bool) (values values2 : List Value) (p : Place) (k : Keyword) (word : List ℕ) → p ≡ WordPlace k → is_some (word_value p word) ≡ false → HasRoom keeping values most keeping2
    → ToldBy most names numbers words keeping values p word names numbers false keeping2 values2
told_no_word most names numbers words keeping keeping2 values values2 p k word is said room =
    let missed : word_value (WordPlace k) word ≡ None = subst (λ (q : Place). word_value q word ≡ None) is (none_said (word_value p word) said) in
    let none = unless_some (bytes_eq word (keyword_text k)) (AWord k) missed in
    record {
      named = sym (and_is names (passes_name p word) (ap (λ (q : Place). passes_name q word) is));
      numbered = sym (and_is numbers (passes_number p word) (ap (λ (q : Place). passes_number q word) is));
      worded = sym (and_not words (passes_word p word) (ap (λ (q : Place). passes_word q word) is ∙ none));
      counted = room;
      valued = λ _ _ c _. cc;
    }

-- one more word in its place
pub told_next : (most : ℕ) (first : Places) (all left : List (List ℕ)) (ps ps2 : Places) (p : Place) (word : List ℕ) (names numbers words keeping names2 numbers2 words2 keeping2 : Bool) (values values2 : List Value)
    → IsTold most first all (word ∷ left) ps names numbers words keeping values → next_place ps ≡ Some (p, ps2) → ToldBy most names numbers words keeping values p word names2 numbers2 words2 keeping2 values2 → length values2 ≤ most
    → IsTold most first all left ps2 names2 numbers2 words2 keeping2 values2
told_next most first all left ps ps2 p word names numbers words keeping names2 numbers2 words2 keeping2 values values2 told next by short =
    let step = next_at ps.here ps.more ps.again p ps2 next in
    record {
      named = told.named ∙ ap (λ (b : Bool). names && b) (step.passes passes_name word left) ∙ and_assoc names (passes_name p word) _ ∙ ap (λ (b : Bool). b && pass passes_name ps2.here ps2.more ps2.again left) (sym by.named);
      numbered = told.numbered ∙ ap (λ (b : Bool). numbers && b) (step.passes passes_number word left) ∙ and_assoc numbers (passes_number p word) _ ∙ ap (λ (b : Bool). b && pass passes_number ps2.here ps2.more ps2.again left) (sym by.numbered);
      filled =
          told.filled
          ∙ ap (λ (b : Bool). words && (b && has_count ps.here ps.more ps.again (word ∷ left))) (step.passes passes_word word left)
          ∙ ap (λ (b : Bool). words && ((passes_word p word && pass passes_word ps2.here ps2.more ps2.again left) && b)) (step.counts word left)
          ∙ ap (λ (b : Bool). words && b) (regroup (passes_word p word) (pass passes_word ps2.here ps2.more ps2.again left) (has_count ps2.here ps2.more ps2.again left))
          ∙ and_assoc words (passes_word p word) _ ∙ ap (λ (b : Bool). b && fills ps2.here ps2.more ps2.again left) (sym by.worded);
      valued = λ a b c d vs says fits.
          let a2 = both names (passes_name p word) (sym by.named ∙ a) in
          let b2 = both numbers (passes_number p word) (sym by.numbered ∙ b) in
          let c2 = both words (passes_word p word) (sym by.worded ∙ c) in
          let d2 = both keeping (nat_lt (length values) most) (sym by.counted ∙ d) in
          let v = by.valued a b c d in
          let old = told.valued a2.0 b2.0 c2.0 d2.0 (v.0 ∷ vs) (word, left, refl, v.2, says) (step.fits v.0 vs v.3 fits) in
          let same : values ++ (v.0 ∷ vs) ≡ values2 ++ vs = sym (append_assoc values (v.0 ∷ []) vs) ∙ ap (λ (l : List Value). l ++ vs) (sym v.1) in
          subst (λ (l : List Value). SayWords all l × FitPlaces first.here first.more first.again l) same old;
      sized = λ a b c d.
          let a2 = both names (passes_name p word) (sym by.named ∙ a) in
          let b2 = both numbers (passes_number p word) (sym by.numbered ∙ b) in
          let c2 = both words (passes_word p word) (sym by.worded ∙ c) in
          let d2 = both keeping (nat_lt (length values) most) (sym by.counted ∙ d) in
          let v = by.valued a b c d in
          moved values values2 v.0 (length left) (length all) v.1 (told.sized a2.0 b2.0 c2.0 d2.0);
      many = λ a b c d.
          let a2 = both names (passes_name p word) (sym by.named ∙ a) in
          let b2 = both numbers (passes_number p word) (sym by.numbered ∙ b) in
          let c2 = both words (passes_word p word) (sym by.worded ∙ c) in
          no_room keeping values most (length left) (length all) (told.sized a2.0 b2.0 c2.0) (told.many a2.0 b2.0 c2.0) (sym by.counted ∙ d);
      short = short;
    }

-- no word told anything
pub told_none : (most : ℕ) (first : Places) (all : List (List ℕ)) (names numbers words keeping : Bool) (values : List Value) → IsNothingTold names numbers words keeping values → IsTold most first all all first names numbers words keeping values
told_none most first all names numbers words keeping values none =
    let keeping_is : keeping ≡ true = none.counted in
    record {
      named = rw none.named refl;
      numbered = rw none.numbered refl;
      filled = rw none.worded refl;
      valued = λ _ _ _ _ vs says fits. rw none.valued (says, fits);
      sized = λ _ _ _ _. rw none.valued (omega arith);
      many = λ _ _ _ not_keeping. cc;
      short = rw none.valued (omega arith);
    }

reason_of : (a b c : Bool) → (a && (b && c)) ≡ false → cond (not a) (Some BadName) (cond (not b) (Some BadNumber) (cond (not c) (Some Count) None)) ≡ Some (first_reason a b)
reason_of true true true e = cc
reason_of true true false e = refl
reason_of true false c e = refl
reason_of false b c e = refl

-- no word is left, and something is wrong
pub told_bad : (most : ℕ) (first : Places) (all : List (List ℕ)) (ps : Places) (names numbers words keeping : Bool) (values : List Value) → IsTold most first all [] ps names numbers words keeping values → (names && (numbers && (words && may_end ps))) ≡ false → places_reason first.here first.more first.again all ≡ Some (first_reason names numbers)
told_bad most first all ps names numbers words keeping values told bad =
    let n = told.named ∙ and_true names in
    let m = told.numbered ∙ and_true numbers in
    let f = told.filled ∙ ap (λ (b : Bool). words && b) (ends ps.here ps.more ps.again) in
    rw (n, m, f) (reason_of names numbers (words && may_end ps) bad) where
      ends : (here more again : List Place) → fills here more again [] ≡ may_end (places here more again)
      ends [] more again = refl
      ends (p ∷ here) more again = refl

-- no word is left, and all is right
pub told_good : (most : ℕ) (first : Places) (all : List (List ℕ)) (ps : Places) (names numbers words keeping : Bool) (values : List Value) → IsTold most first all [] ps names numbers words keeping values → names ≡ true → numbers ≡ true → words ≡ true → may_end ps ≡ true → places_reason first.here first.more first.again all ≡ None
told_good most first all ps names numbers words keeping values told a b c end =
    let n = told.named ∙ and_true names ∙ a in
    let m = told.numbered ∙ and_true numbers ∙ b in
    let f = told.filled ∙ ap (λ (b : Bool). words && b) (ends ps.here ps.more ps.again end) ∙ and_true words ∙ c in
    rw (n, m, f) refl where
      ends : (here more again : List Place) → may_end (places here more again) ≡ true → fills here more again [] ≡ true
      ends [] more again e = refl
      ends (p ∷ here) more again e = cc

-- a word is left, and no place
pub told_extra : (most : ℕ) (first : Places) (all left : List (List ℕ)) (ps : Places) (word : List ℕ) (names numbers words keeping : Bool) (values : List Value) → IsTold most first all (word ∷ left) ps names numbers words keeping values → next_place ps ≡ None → places_reason first.here first.more first.again all ≡ Some (first_reason names numbers)
told_extra most first all left ps word names numbers words keeping values told none =
    let e = no_next ps.here ps.more ps.again none in
    let n = told.named ∙ ap (λ (b : Bool). names && b) (e.0 passes_name) ∙ and_true names in
    let m = told.numbered ∙ ap (λ (b : Bool). numbers && b) (e.0 passes_number) ∙ and_true numbers in
    let f = told.filled ∙ ap (λ (b : Bool). words && b) e.1 ∙ and_false words in
    rw (n, m, f) (reason_of names numbers false (bad names numbers)) where
      bad : (a b : Bool) → (a && (b && false)) ≡ false
      bad true true = refl
      bad true false = refl
      bad false b = refl

      no_next : (here more again : List Place) → next_in here more again ≡ None → ((test : Place → List ℕ → Bool) → pass test here more again (word ∷ left) ≡ true) × (fills here more again (word ∷ left) ≡ false)
      no_next (q ∷ here) more again e = cc
      no_next [] (q ∷ more) again e = cc
      no_next [] [] again e = ((λ test. refl), refl)

-- no word is left, all is right, and all values are kept
pub told_whole : (most : ℕ) (first : Places) (all : List (List ℕ)) (ps : Places) (names numbers words keeping : Bool) (values : List Value) → IsTold most first all [] ps names numbers words keeping values → names ≡ true → numbers ≡ true → words ≡ true → keeping ≡ true → may_end ps ≡ true → SayWords all values × FitPlaces first.here first.more first.again values
told_whole most first all ps names numbers words keeping values told a b c d end =
    let all_of = told.valued a b c d [] refl (ends ps.here ps.more ps.again end) in
    subst (λ (l : List Value). SayWords all l × FitPlaces first.here first.more first.again l) (append-nil values) all_of where
      ends : (here more again : List Place) → may_end (places here more again) ≡ true → FitPlaces here more again []
      ends [] more again e = tt
      ends (p ∷ here) more again e = cc

-- no word is left, and all is right: the values are kept, or there are too many
pub told_answer : (most : ℕ) (first : Places) (all left : List (List ℕ)) (ps : Places) (names numbers words keeping : Bool) (values : List Value) → IsTold most first all left ps names numbers words keeping values → left ≡ [] → names ≡ true → numbers ≡ true → words ≡ true → may_end ps ≡ true
    → MatchBool keeping (SayWords all values × FitPlaces first.here first.more first.again values) ((places_reason first.here first.more first.again all ≡ None) × (most < length all))
told_answer most first all left ps names numbers words true values told none a b c end =
    let last = subst (λ (ws : List (List ℕ)). IsTold most first all ws ps names numbers words true values) none told in
    told_whole most first all ps names numbers words true values last a b c refl end
told_answer most first all left ps names numbers words false values told none a b c end =
    let last = subst (λ (ws : List (List ℕ)). IsTold most first all ws ps names numbers words false values) none told in
    (told_good most first all ps names numbers words false values last a b c end, last.many a b c refl)

pub agrees_nothing : (choice : List Place) → agrees choice [] ≡ true
agrees_nothing [] = refl
agrees_nothing (p ∷ choice) = refl
