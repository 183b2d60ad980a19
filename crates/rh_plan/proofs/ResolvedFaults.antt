-- The faults of the lines of a text, one line after another.
use Rattle.std.proofs.Common.{◌≡◌, ◌≢◌, ℕ, suc, zero, ◌+◌, ◌<◌, ◌≤◌, ◌^◌, ◌||◌, not, Bool, true, false, cond, List, [], ◌∷◌, ◌++◌, Option, Some, None, Err, map, take, get_or, length, refl, ap, sym, ◌∙◌, subst, arith, inl, inr}
use Rattle.std.specs.Prelude.{slice_get, slice_index, option_and_then, unwrap_or, IsPermutation, IsSomeAnd}
use Rattle.std.specs.List.{AllByRecursion, filter, list_any}
use Rattle.std.specs.Option.{option_map}
use Rattle.std.proofs.lemmas.Bool.{cases_lt, or_parts}
use Rattle.std.proofs.lemmas.List.{take_more, take_all, map-append, length-map, length-take-le, get_or-take, get_or_past}
use Rattle.std.proofs.lemmas.List.Sorted.{IsPermutation-refl, IsPermutation-sym, IsPermutation-trans, IsPermutation-cons, IsPermutation-middle, IsPermutation-filter_both, IsPermutation-push_more, list_any-IsPermutation, length_permutation, All-permutation}
use Rattle.std.proofs.lemmas.List.Elements.{All-from_recursion, recursion_from_All}
use Rattle.std.proofs.lemmas.Option.{slice_get-get_or, slice_get_past, get_or_from_slice_get, slice_get_within, slice_get_read, same_Some}
use Rattle.rh_words.specs.declared.reason.Reason.{Reason}
use Rattle.rh_words.specs.declared.reason.Reason.TheVariants as reasons
use Rattle.rh_words.specs.declared.reason.Fault.{Fault}
use Rattle.rh_words.specs.declared.reason.Fault.TheVariants.{Refused, OutOfMemory}
use Rattle.rh_words.specs.declared.reason.Refusal.{Refusal}
use Rattle.rh_words.specs.Refusals.{OnRefused, fault_at}
use Rattle.rh_injector.specs.declared.fault_text.FaultLine.{FaultLine}
use Rattle.rh_injector.specs.declared.faults.Strike.{Strike}
use Rattle.rh_injector.specs.FaultTexts.{AreLawfulFrom, IsLawfulText}
use Rattle.rh_injector.specs.Faults.{comes_before, has_place_of, IsAscending, names_place, with_fault}
use Rattle.rh_injector.proofs.Ordering.{comes_before-either, comes_before-not_both}
use Rattle.rh_rules.specs.declared.node.Node.{Node}
use Rattle.rh_rules.specs.declared.node.Kind.TheVariants.{Task}
use Rattle.rh_rules.specs.Lawful.{local_lens}
use Rattle.rh_plan.specs.Plans.{PlanData, shapes_in}
use Rattle.rh_plan.specs.Lawful.{IsLawfulPlan}
use Rattle.rh_plan.specs.FaultLines.{is_unknown_task, is_bad_attempt, is_unknown_local, is_bad_word, is_zero_mask, is_same_place, is_fault_twice, fault_reason, reason_at, strike_of, AreFaultsOfText, FirstBadFault}
use Rattle.rh_plan.specs.FaultsOfPlans.{IsFaultOf, AreFaultsOf}
use Rattle.rh_plan.specs.FaultTables.{AreFaultsBelow, AddsFault, IsNotAdded, strike_in_task}
use Rattle.rh_plan.proofs.FaultPlaces.{IsPlaced, placed, same_place}
use Rattle.rh_plan.proofs.FaultTasks.{task_at, strike_of_task}

first_five : Bool → Bool → Bool → Bool → Bool → Option Reason → Option Reason
first_five a b c d e last =
    cond a (Some reasons.UnknownTask) (cond b (Some reasons.Attempt) (cond c (Some reasons.Local) (cond d (Some reasons.BadWord) (cond e (Some reasons.ZeroMask) last))))

five_some : (a b c d e : Bool) (last : Option Reason) (r : Reason) → first_five a b c d e None ≡ Some r → first_five a b c d e last ≡ Some r
unfolding first_five
five_some true b c d e last r is = is
five_some false true c d e last r is = is
five_some false false true d e last r is = is
five_some false false false true e last r is = is
five_some false false false false true last r is = is
five_some false false false false false last r is = cc

five_none : (a b c d e : Bool) (last : Option Reason) → first_five a b c d e None ≡ None → first_five a b c d e last ≡ last
unfolding first_five
five_none true b c d e last is = cc
five_none false true c d e last is = cc
five_none false false true d e last is = cc
five_none false false false true e last is = cc
five_none false false false false true last is = cc
five_none false false false false false last is = refl

-- a line that names no place has its reason below any lines
reason_below : (plan : PlanData) (above : List FaultLine) (f : FaultLine) (r : Reason) → fault_reason plan [] f ≡ Some r → fault_reason plan above f ≡ Some r
unfolding first_five
reason_below plan above f r is = five_some (is_unknown_task plan f) (is_bad_attempt plan f) (is_unknown_local plan f) (is_bad_word plan f) (is_zero_mask f) (cond (is_fault_twice above f) (Some reasons.FaultTwice) None) r is

-- one that names a place has at most the last reason
twice_below : (plan : PlanData) (above : List FaultLine) (f : FaultLine) → fault_reason plan [] f ≡ None → fault_reason plan above f ≡ cond (is_fault_twice above f) (Some reasons.FaultTwice) None
unfolding first_five
twice_below plan above f is = five_none (is_unknown_task plan f) (is_bad_attempt plan f) (is_unknown_local plan f) (is_bad_word plan f) (is_zero_mask f) (cond (is_fault_twice above f) (Some reasons.FaultTwice) None) is

any_same : (plan : PlanData) (f : FaultLine) (lines : List FaultLine) → IsPlaced plan f → AllByRecursion (IsPlaced plan) lines → list_any (λ t. has_place_of t (strike_of plan f)) (map (strike_of plan) lines) ≡ is_fault_twice lines f
any_same plan f [] at all = refl
any_same plan f (g ∷ lines) at all =
    ap (λ t. t || list_any (λ t. has_place_of t (strike_of plan f)) (map (strike_of plan) lines)) (same_place plan g f all.0 at)
    ∙ ap (λ t. is_same_place g f || t) (any_same plan f lines at all.1)

-- a line that is kept is the one at its place
reason_there : (plan : PlanData) (lines : List FaultLine) (at : ℕ) (f : FaultLine) → slice_get lines at ≡ Some f → reason_at plan lines at ≡ fault_reason plan (take at lines) f
reason_there plan lines at f there = ap (λ o. option_and_then (fault_reason plan (take at lines)) o) there

-- lines without a reason name places
all_placed : (plan : PlanData) (lines : List FaultLine) (n : ℕ) → n ≤ length lines → ((at : ℕ) → at < n → reason_at plan lines at ≡ None) → AllByRecursion (IsPlaced plan) (take n lines)
all_placed plan lines n within kept =
    recursion_from_All (IsPlaced plan) (take n lines) (λ k d inside.
    let long : length (take n lines) ≡ n = length-take-le n lines within in
    let below : k < n = omega arith in
    let f : FaultLine = get_or lines k d in
    let there : slice_get lines k ≡ Some f = slice_get-get_or lines k d (omega arith) in
    subst (IsPlaced plan) (sym (get_or-take n lines k d below)) (placed plan (take k lines) f (sym (reason_there plan lines k f there) ∙ kept k below)).0)

-- the faults of the lines above have the place of a line exactly where one of these lines names it
named_twice : (plan : PlanData) (lines : List FaultLine) (n : ℕ) (faults : List Strike) (f : FaultLine) → n ≤ length lines → AreFaultsBelow plan lines n faults → IsPlaced plan f → names_place faults (strike_of plan f) ≡ is_fault_twice (take n lines) f
named_twice plan lines n faults f within below at =
    sym (list_any-IsPermutation (λ t. has_place_of t (strike_of plan f)) (map (strike_of plan) (take n lines)) faults below.same)
    ∙ any_same plan f (take n lines) at (all_placed plan lines n within below.kept)

-- why a line is refused whose fault is not added
pub refused_at : (plan : PlanData) (lines : List FaultLine) (n : ℕ) (faults : List Strike) (f : FaultLine) (r : Reason) → slice_get lines n ≡ Some f → AreFaultsBelow plan lines n faults → IsNotAdded plan faults f r → reason_at plan lines n ≡ Some r
refused_at plan lines n faults f r there below (inl no_place) = reason_there plan lines n f there ∙ reason_below plan (take n lines) f r no_place
refused_at plan lines n faults f r there below (inr (has_place, named, is)) =
    let inside = slice_get_within lines n f there in
    let twice = sym (named_twice plan lines n faults f (omega arith) below (placed plan [] f has_place).0) ∙ named in
    reason_there plan lines n f there ∙ twice_below plan (take n lines) f has_place ∙ ap (λ t. cond t (Some reasons.FaultTwice) None) twice ∙ ap Some (sym is)

pub first_bad : (plan : PlanData) (lines : List FaultLine) (n : ℕ) (faults : List Strike) (f : FaultLine) (r : Reason) → slice_get lines n ≡ Some f → AreFaultsBelow plan lines n faults → reason_at plan lines n ≡ Some r → FirstBadFault plan lines f.line r
first_bad plan lines n faults f r there below broken =
    record { place = n; kept = below.kept; broken = broken; at = ap (λ o. option_map (λ (g : FaultLine). g.line) o) there }

filter_same : {X : Type 0} (p q : X → Bool) (xs : List X) → AllByRecursion (λ x. p x ≡ q x) xs → filter p xs ≡ filter q xs
filter_same p q [] all = refl
filter_same p q (x ∷ xs) all = ap (λ t. cond t (x ∷ filter p xs) (filter p xs)) all.0 ∙ ap (λ l. cond (q x) (x ∷ l) l) (filter_same p q xs all.1)

-- of a fault in another place either comes before
other_side : (s t : Strike) → has_place_of t s ≡ false → comes_before s t ≡ not (comes_before t s)
other_side s t apart = by (comes_before t s) refl
  where
    by : (b : Bool) → comes_before t s ≡ b → comes_before s t ≡ not (comes_before t s)
    by true is = comes_before-not_both t s is ∙ ap not (sym is)
    by false is = comes_before-either t s is apart ∙ ap not (sym is)

all_other_side : (faults : List Strike) (s : Strike) → names_place faults s ≡ false → AllByRecursion (λ t. comes_before s t ≡ not (comes_before t s)) faults
all_other_side [] s fresh = tt
all_other_side (t ∷ faults) s fresh =
    let (here, rest) = or_parts (has_place_of t s) (names_place faults s) fresh in
    (other_side s t here, all_other_side faults s rest)

-- faults with one more are the others and that one
pub with_one : (faults : List Strike) (s : Strike) → names_place faults s ≡ false → IsPermutation (s ∷ faults) (with_fault faults s)
with_one faults s fresh =
    let p : Strike → Bool = λ t. comes_before t s in
    let q : Strike → Bool = λ t. not (comes_before t s) in
    let same = filter_same (λ t. comes_before s t) q faults (all_other_side faults s fresh) in
    let both = IsPermutation-filter_both p q (λ t. refl) faults in
    let whole = IsPermutation-trans _ _ _ (IsPermutation-cons s _ _ both) (IsPermutation-sym _ _ (IsPermutation-middle (filter p faults) s (filter q faults))) in
    subst (λ l. IsPermutation (s ∷ faults) (filter p faults ++ s ∷ l)) (sym same) whole

-- the faults of one more line, which has no reason
pub below_more : (plan : PlanData) (lines : List FaultLine) (n : ℕ) (faults new : List Strike) (f : FaultLine) → slice_get lines n ≡ Some f → AreFaultsBelow plan lines n faults → reason_at plan lines n ≡ None → IsPermutation (strike_of plan f ∷ faults) new → AreFaultsBelow plan lines (n + 1) new
below_more plan lines n faults new f there below none same =
    let inside = slice_get_within lines n f there in
    let here : get_or lines n f ≡ f = get_or_from_slice_get lines n f f there in
    let more : take (n + 1) lines ≡ take n lines ++ f ∷ [] = take_more lines n f inside ∙ ap (λ (g : FaultLine). take n lines ++ g ∷ []) here in
    let mapped : map (strike_of plan) (take (n + 1) lines) ≡ map (strike_of plan) (take n lines) ++ strike_of plan f ∷ [] = ap (map (strike_of plan)) more ∙ map-append (strike_of plan) (take n lines) (f ∷ []) in
    record {
      kept = λ at less. elim (cases_lt at n) [
        | inl h ↦ below.kept at h
        | inr h ↦ (let e : n ≡ at = omega arith in subst (λ (k : ℕ). reason_at plan lines k ≡ None) e none)
      ];
      same = subst (λ l. IsPermutation l new) (sym mapped) (IsPermutation-push_more (map (strike_of plan) (take n lines)) faults new (strike_of plan f) below.same same);
    }

-- the place of a line without a reason is new
pub fresh_at : (plan : PlanData) (lines : List FaultLine) (n : ℕ) (faults : List Strike) (f : FaultLine) → slice_get lines n ≡ Some f → AreFaultsBelow plan lines n faults → reason_at plan lines n ≡ None → names_place faults (strike_of plan f) ≡ false
fresh_at plan lines n faults f there below none =
    let inside = slice_get_within lines n f there in
    let (at, once) = placed plan (take n lines) f (sym (reason_there plan lines n f there) ∙ none) in
    named_twice plan lines n faults f (omega arith) below at ∙ once

-- the fault of a line is added
pub added_at : (plan : PlanData) (lines : List FaultLine) (n : ℕ) (faults new : List Strike) (f : FaultLine) → slice_get lines n ≡ Some f → AreFaultsBelow plan lines n faults → AddsFault plan faults f new → AreFaultsBelow plan lines (n + 1) new
added_at plan lines n faults new f there below adds =
    let inside = slice_get_within lines n f there in
    let once = sym (named_twice plan lines n faults f (omega arith) below (placed plan [] f adds.placed).0) ∙ adds.fresh in
    let none = reason_there plan lines n f there ∙ twice_below plan (take n lines) f adds.placed ∙ ap (λ t. cond t (Some reasons.FaultTwice) None) once in
    below_more plan lines n faults new f there below none adds.added

-- there are as many faults as lines
pub count_below : (plan : PlanData) (lines : List FaultLine) (n : ℕ) (faults : List Strike) → n ≤ length lines → AreFaultsBelow plan lines n faults → length faults ≡ n
count_below plan lines n faults within below =
    length_permutation (map (strike_of plan) (take n lines)) faults below.same ∙ length-map (take n lines) (strike_of plan) ∙ length-take-le n lines within

-- the lines of a text ascend
pub line_at : (least : ℕ) (lines : List FaultLine) (n : ℕ) (f : FaultLine) → AreLawfulFrom least lines → slice_get lines n ≡ Some f → least + n ≤ f.line
line_at least [] n f lawful there = cc
line_at least (g ∷ lines) zero f lawful there = let least_is = lawful.0 in let e : g ≡ f = same_Some g f there in subst (λ (h : FaultLine). least + 0 ≤ h.line) e (omega arith)
line_at least (g ∷ lines) (suc n) f lawful there = let least_is = lawful.0 in let more = line_at (g.line + 1) lines n f lawful.2 there in omega arith

-- no fault at first
pub none_below : (plan : PlanData) (lines : List FaultLine) → AreFaultsBelow plan lines 0 []
none_below plan lines = record { kept = λ at less. absurd (omega arith); same = IsPermutation-refl [] }

-- the faults of all lines
pub all_below : (plan : PlanData) (lines : List FaultLine) (n : ℕ) (faults : List Strike) → n ≡ length lines → AreFaultsBelow plan lines n faults → IsAscending faults → AreFaultsOfText plan lines faults
all_below plan lines n faults all below up = record {
  kept = λ at. elim (cases_lt at n) [
    | inl h ↦ below.kept at h
    | inr h ↦ ap (λ o. option_and_then (fault_reason plan (take at lines)) o) (slice_get_past lines at (omega arith))
  ];
  ascending = up;
  same = subst (λ l. IsPermutation (map (strike_of plan) l) faults) (take_all n lines (omega arith)) below.same;
}

word_there : (lens : List ℕ) (i w : ℕ) → w < slice_index lens i → IsSomeAnd (slice_get lens i) (λ len. w < len)
word_there lens i w less = elim (cases_lt i (length lens)) [
  | inl h ↦ subst (λ o. IsSomeAnd o (λ len. w < len)) (sym (slice_get-get_or lens i 0 h)) less
  | inr h ↦ absurd (let none : slice_index lens i ≡ 0 = get_or_past lens i 0 h in omega arith)
]

-- the fault of a line that names a place is the plan's
placed_fault : (plan : PlanData) (f : FaultLine) → IsLawfulPlan plan → IsPlaced plan f → IsFaultOf plan (strike_of plan f)
placed_fault plan f lawful at =
    let (node, task) = task_at plan f.task at.v lawful at.task in
    let same : node ≡ at.node = same_Some _ _ (sym task.there ∙ at.there) in
    let numbers : strike_of plan f ≡ strike_in_task plan.promises at.v at.node f = strike_of_task plan f at.v at.node at.task at.there in
    let local : (strike_of plan f).local ≡ at.i = ap (λ (s : Strike). s.local) numbers ∙ ap (λ o. unwrap_or o 0) at.local in
    let number : at.v ≡ (strike_of plan f).node = sym (ap (λ (s : Strike). s.node) numbers) in
    record {
      node = at.node;
      there = subst (λ (k : ℕ). slice_get plan.nodes k ≡ Some at.node) number at.there;
      kind = subst (λ (n : Node). n.kind ≡ Task) same task.kind;
      attempt = at.attempt;
      word = subst (λ (k : ℕ). IsSomeAnd (slice_get (local_lens (shapes_in plan) plan.promises at.node) k) (λ len. f.word < len)) (sym local) (word_there (local_lens (shapes_in plan) plan.promises at.node) at.i f.word at.word);
    }

faults_placed : (plan : PlanData) (lines : List FaultLine) → IsLawfulPlan plan → AllByRecursion (IsPlaced plan) lines → AllByRecursion (IsFaultOf plan) (map (strike_of plan) lines)
faults_placed plan [] lawful all = tt
faults_placed plan (f ∷ lines) lawful all = (placed_fault plan f lawful all.0, faults_placed plan lines lawful all.1)

-- the faults of a text are the plan's
pub faults_of_plan : (plan : PlanData) (lines : List FaultLine) (faults : List Strike) → IsLawfulPlan plan → AreFaultsOfText plan lines faults → AreFaultsOf plan faults
faults_of_plan plan lines faults lawful are =
    let whole = take_all (length lines) lines (omega arith) in
    let all = subst (AllByRecursion (IsPlaced plan)) whole (all_placed plan lines (length lines) (omega arith) (λ at less. are.kept at)) in
    recursion_from_All (IsFaultOf plan) faults (All-permutation (IsFaultOf plan) (map (strike_of plan) lines) faults are.same (All-from_recursion (IsFaultOf plan) (map (strike_of plan) lines) (faults_placed plan lines lawful all)))

-- each fault of lines without a reason turns a bit
masks_named : (plan : PlanData) (lines : List FaultLine) → AllByRecursion (IsPlaced plan) lines → AllByRecursion (λ s. 0 < s.mask) (map (strike_of plan) lines)
masks_named plan [] all = tt
masks_named plan (f ∷ lines) all = (let other : f.mask ≢ 0 = all.0.mask in grind arith, masks_named plan lines all.1)

pub masks_below : (plan : PlanData) (lines : List FaultLine) (n : ℕ) (faults : List Strike) → n ≤ length lines → AreFaultsBelow plan lines n faults → AllByRecursion (λ s. 0 < s.mask) faults
masks_below plan lines n faults within below =
    recursion_from_All (λ s. 0 < s.mask) faults (All-permutation (λ s. 0 < s.mask) (map (strike_of plan) (take n lines)) faults below.same
    (All-from_recursion (λ s. 0 < s.mask) (map (strike_of plan) (take n lines)) (masks_named plan (take n lines) (all_placed plan lines n within below.kept))))

-- faults in another order are those of the same lines
pub reordered_below : (plan : PlanData) (lines : List FaultLine) (n : ℕ) (faults others : List Strike) → AreFaultsBelow plan lines n faults → IsPermutation faults others → AreFaultsBelow plan lines n others
reordered_below plan lines n faults others below same = record { kept = below.kept; same = IsPermutation-trans _ _ _ below.same same }

-- a line that is read
pub line_there : (items lines : List FaultLine) (n : ℕ) (f : FaultLine) → items ≡ lines → n < length items → f ≡ get_or items n f → slice_get lines n ≡ Some f
line_there items lines n f same inside is = subst (λ (l : List FaultLine). slice_get l n ≡ Some f) same (slice_get_read items (length items) n f refl inside is)

-- the refusal of a line is that of the text
pub refused_line : (X : Type 0) (plan : PlanData) (lines : List FaultLine) (n : ℕ) (faults : List Strike) (f : FaultLine) (error : Fault Reason) (answer : Fault Refusal) → slice_get lines n ≡ Some f → AreFaultsBelow plan lines n faults → answer ≡ fault_at f.line error → OnRefused {X = Unit {0}} (Err error) (λ r. IsNotAdded plan faults f r) → OnRefused {X = X} (Err answer) (λ r. FirstBadFault plan lines r.line r.reason)
refused_line X plan lines n faults f OutOfMemory answer there below is refused = subst (λ (a : Fault Refusal). OnRefused {X = X} (Err a) (λ r. FirstBadFault plan lines r.line r.reason)) (sym is) tt
refused_line X plan lines n faults f (Refused r) answer there below is refused =
    subst (λ (a : Fault Refusal). OnRefused {X = X} (Err a) (λ r. FirstBadFault plan lines r.line r.reason)) (sym is)
    (first_bad plan lines n faults f r there below (refused_at plan lines n faults f r there below refused))

-- one more fault is counted in the numbers of the machine
pub few_below : (plan : PlanData) (lines : List FaultLine) (n : ℕ) (faults : List Strike) (f : FaultLine) → IsLawfulText lines → slice_get lines n ≡ Some f → AreFaultsBelow plan lines n faults → f.line < 2 ^ 32 → length faults + 1 < 2 ^ 32
few_below plan lines n faults f lawful there below fits =
    let inside = slice_get_within lines n f there in
    let count : length faults ≡ n = count_below plan lines n faults (omega arith) below in
    let low : 2 + n ≤ f.line = line_at 2 lines n f lawful.lawful there in
    omega arith
