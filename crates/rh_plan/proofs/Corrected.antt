-- What a correction gives, and that it gives the fault-free buffer where one word of the checked put was altered.
use Rattle.std.proofs.Common.{◌≡◌, ℕ, suc, List, [], ◌∷◌, Bool, true, Option, Some, None, length, refl, ap, sym, ◌∙◌, subst, inl, inr}
use Rattle.std.proofs.lemmas.Bool.{false≢true, cases_Bool, cond-true, cond-false}
use Rattle.std.proofs.lemmas.List.{length-set}
use Rattle.std.proofs.lemmas.Option.{none-some, same_Some}
use Rattle.std.specs.List.{find, slice_get, slice_index_or}
use Rattle.std.specs.Option.{is_none, is_some, option_and_then, option_map}
use Rattle.rh_sparse.specs.Matrix.{MatrixData}
use Rattle.rh_sparse.specs.Checksums.{checksums_of, plain_difference, weighted_difference}
use Rattle.rh_sparse.specs.Laws.{DiffersInOneWord}
use Rattle.rh_sparse.proofs.Restoring.{is_restored}
use Rattle.rh_check.specs.declared.spec.Spec.{Spec}
use Rattle.rh_check.specs.declared.spec.Spec.TheVariants.{Range, Total, Linear, Conserve, Conserve2, Product, User}
use Rattle.rh_check.specs.declared.spec.UserSpec.{UserSpec}
use Rattle.rh_check.specs.Matrices.{agrees_if_held}
use Rattle.rh_check.specs.Checks.{spec_passes}
use Rattle.rh_check.specs.Altered.{IsSumCheck}
use Rattle.rh_check.proofs.AlteredProducts.{restored_and_refused}
use Rattle.rh_rules.specs.declared.node.Node.{Node}
use Rattle.rh_rules.specs.Kept.{KeptCheck}
use Rattle.rh_rules.specs.Lawful.{is_product}
use Rattle.rh_plan.specs.Plans.{PlanData}
use Rattle.rh_plan.specs.Buffers.{BufferData, words_put, buffer_with}
use Rattle.rh_plan.specs.Checking.{first_failing}
use Rattle.rh_plan.specs.Correcting.{product_check, restored_if_held, restored_by, restored_put, restored_buffer, if_passing, correction}
use Rattle.rh_plan.specs.Budgets.{DiffersInOnePut}
use Rattle.rh_plan.proofs.Replaced.{put_altered, buffer_back}
use Rattle.rh_plan.proofs.Sums.{passed_where_put, summed_refused}

and_then_some : {X Y : Type 0} (f : X → Option Y) (o : Option X) (y : Y) → option_and_then f o ≡ Some y → (x : X) × (o ≡ Some x) × (f x ≡ Some y)
and_then_some f None y is = absurd (none-some y is)
and_then_some f (Some x) y is = (x, refl, is)

map_some : {X Y : Type 0} (f : X → Y) (o : Option X) (y : Y) → option_map f o ≡ Some y → (x : X) × (o ≡ Some x) × (f x ≡ y)
map_some f None y is = absurd (none-some y is)
map_some f (Some x) y is = (x, refl, same_Some (f x) y is)

passing_some : (failing : BufferData → Option ℕ) (c d : ℕ × BufferData) → if_passing failing c ≡ Some d → c ≡ d
passing_some failing c d is = elim (cases_Bool (is_none (failing c.1))) [
  | inl passes ↦ same_Some c d (sym (cond-true (is_none (failing c.1)) (Some c) None passes) ∙ is)
  | inr fails ↦ absurd (none-some d (sym (cond-false (is_none (failing c.1)) (Some c) None fails) ∙ is))
]

restored_long : (held : Option MatrixData) (x words : List ℕ) (r : ℕ × List ℕ) → restored_if_held held x words ≡ Some r → length r.1 ≡ length words
restored_long None x words r is = absurd (none-some r is)
restored_long (Some a) x words r is =
    let restored = is_restored words r.1 (plain_difference (checksums_of a) x words) (weighted_difference (checksums_of a) x words) r.0 is in
    ap length restored.words ∙ length-set words r.0 restored.word

by_long : (matrices : List MatrixData) (inputs : List (List ℕ)) (spec : Spec) (words : List ℕ) (r : ℕ × List ℕ) → restored_by matrices inputs spec words ≡ Some r → length r.1 ≡ length words
by_long matrices inputs (Range lo hi) words r is = absurd (none-some r is)
by_long matrices inputs (Total sum) words r is = absurd (none-some r is)
by_long matrices inputs (Linear base terms count) words r is = absurd (none-some r is)
by_long matrices inputs (Conserve l m e k s) words r is = absurd (none-some r is)
by_long matrices inputs (Conserve2 north south west east m cols k s) words r is = absurd (none-some r is)
by_long matrices inputs (Product matrix x) words r is = restored_long (slice_get matrices matrix) (slice_index_or inputs x []) words r is
by_long matrices inputs (User at) words r is = absurd (none-some r is)

-- the buffer is another one with as many other words in one of its puts
pub record IsReplaced (made buffer : BufferData) : Type 0 where
  pub promise : ℕ
  pub before : List ℕ
  pub after : List ℕ
  pub put : words_put promise made.puts ≡ Some before
  pub long : length after ≡ length before
  pub is : buffer ≡ buffer_with promise after made

-- a restored word replaces words by as many others
pub restored_replaces : (matrices : List MatrixData) (checks : List KeptCheck) (inputs : List (List ℕ)) (made : BufferData) (c : ℕ × BufferData) → restored_buffer matrices checks inputs made ≡ Some c → IsReplaced made c.1
restored_replaces matrices checks inputs made c is =
    let (check, checked, put) = and_then_some (λ (k : KeptCheck). restored_put matrices inputs made k.promise k.spec) (product_check checks) c is in
    let q = check.promise in
    let with_words : ℕ × List ℕ → ℕ × BufferData = λ s. (s.0, buffer_with q s.1 made) in
    let (r, found, whole) = map_some with_words (option_and_then (restored_by matrices inputs check.spec) (words_put q made.puts)) c put in
    let (before, there, restored) = and_then_some (restored_by matrices inputs check.spec) (words_put q made.puts) r found in
    record {
      promise = q;
      before = before;
      after = r.1;
      put = there;
      long = by_long matrices inputs check.spec before r restored;
      is = ap (λ (e : ℕ × BufferData). e.1) (sym whole);
    }

-- so does a correction
pub correction_replaces : (plan : PlanData) (node : Node) (inputs : List (List ℕ)) (made : BufferData) (c : ℕ × BufferData) → correction plan node inputs made ≡ Some c → IsReplaced made c.1
correction_replaces plan node inputs made c is =
    let failing = first_failing plan inputs node.checks in
    let (d, tried, passed) = and_then_some (if_passing failing) (restored_buffer plan.matrices node.checks inputs made) c is in
    let same : d ≡ c = passing_some failing d c passed in
    subst (λ (e : ℕ × BufferData). IsReplaced made e.1) same (restored_replaces plan.matrices node.checks inputs made d tried)

find_first : {X : Type 0} (p : X → Bool) (xs : List X) (x : X) → find p xs ≡ Some x → (i : ℕ) × (slice_get xs i ≡ Some x) × (p x ≡ true)
find_first p [] x found = absurd (none-some x found)
find_first p (y ∷ xs) x found = elim (cases_Bool (p y)) [
  | inl here ↦
      let same : y ≡ x = same_Some y x (sym (cond-true (p y) (Some y) (find p xs) here) ∙ found) in
      (0, ap Some same, ap p (sym same) ∙ here)
  | inr other ↦
      let (i, there, is) = find_first p xs x (sym (cond-false (p y) (Some y) (find p xs) other) ∙ found) in
      (suc i, there, is)
]

product_is_sum : (spec : Spec) → is_product spec ≡ true → IsSumCheck spec
product_is_sum (Range lo hi) is = absurd (false≢true is)
product_is_sum (Total sum) is = absurd (false≢true is)
product_is_sum (Linear base terms count) is = absurd (false≢true is)
product_is_sum (Conserve l m r k s) is = absurd (false≢true is)
product_is_sum (Conserve2 north south west east m cols k s) is = absurd (false≢true is)
product_is_sum (Product matrix x) is = tt
product_is_sum (User at) is = absurd (false≢true is)

held_restored : (held : Option MatrixData) (x ys zs : List ℕ) → (one : DiffersInOneWord ys zs) → agrees_if_held held x ys ≡ true → restored_if_held held x zs ≡ Some (one.at, ys)
held_restored None x ys zs one agrees = absurd (false≢true agrees)
held_restored (Some a) x ys zs one agrees = (restored_and_refused a x ys zs one agrees).0

-- where words pass a check of a product, one altered word is restored
spec_restored : (user : Option UserSpec) (matrices : List MatrixData) (inputs : List (List ℕ)) (spec : Spec) (ys zs : List ℕ) → is_product spec ≡ true → (one : DiffersInOneWord ys zs) → spec_passes user matrices inputs spec ys ≡ true → restored_by matrices inputs spec zs ≡ Some (one.at, ys)
unfolding spec_passes
spec_restored user matrices inputs (Range lo hi) ys zs is one passes = absurd (false≢true is)
spec_restored user matrices inputs (Total sum) ys zs is one passes = absurd (false≢true is)
spec_restored user matrices inputs (Linear base terms count) ys zs is one passes = absurd (false≢true is)
spec_restored user matrices inputs (Conserve l m r k s) ys zs is one passes = absurd (false≢true is)
spec_restored user matrices inputs (Conserve2 north south west east m cols k s) ys zs is one passes = absurd (false≢true is)
spec_restored user matrices inputs (Product matrix x) ys zs is one passes = held_restored (slice_get matrices matrix) (slice_index_or inputs x []) ys zs one passes
spec_restored user matrices inputs (User at) ys zs is one passes = absurd (false≢true is)

-- A buffer that differs in one word of the checked put from one that passes all checks fails one, and is corrected to that one.
pub corrected_back : (plan : PlanData) (node : Node) (inputs : List (List ℕ)) (clean made : BufferData) (check : KeptCheck) (words : List ℕ) → first_failing plan inputs node.checks clean ≡ None
    → product_check node.checks ≡ Some check → words_put check.promise clean.puts ≡ Some words → DiffersInOnePut check.promise words clean made
    → (is_some (first_failing plan inputs node.checks made) ≡ true) × ((i : ℕ) × (correction plan node inputs made ≡ Some (i, clean)))
corrected_back plan node inputs clean made check words passes checked put differs =
    let q = check.promise in
    let failing = first_failing plan inputs node.checks in
    let at = differs.one.at in
    let (number, there, product) = find_first (λ (c : KeptCheck). is_product c.spec) node.checks check checked in
    let altered : words_put q made.puts ≡ Some differs.altered = ap (λ (b : BufferData). words_put q b.puts) differs.elsewhere ∙ put_altered q words differs.altered clean.puts put in
    let refused = summed_refused plan inputs node.checks clean made (record {
      number = number;
      check = check;
      there = there;
      summed = product_is_sum check.spec product;
      before = words;
      after = differs.altered;
      put = put;
      put_altered = altered;
      altered = differs.one;
    }) passes in
    let before = passed_where_put plan inputs node.checks clean number check words passes there put in
    let found = spec_restored check.user plan.matrices inputs check.spec words differs.altered product differs.one before in
    let back : buffer_with q words made ≡ clean = ap (buffer_with q words) differs.elsewhere ∙ buffer_back q words differs.altered clean put in
    let with_words : ℕ × List ℕ → ℕ × BufferData = λ r. (r.0, buffer_with q r.1 made) in
    let restored : restored_put plan.matrices inputs made q check.spec ≡ Some (at, clean) =
    ap (λ (o : Option (List ℕ)). option_map with_words (option_and_then (restored_by plan.matrices inputs check.spec) o)) altered
    ∙ ap (option_map with_words) found ∙ ap (λ (b : BufferData). Some (at, b)) back in (
      refused,
      (
        at,
        ap (λ (o : Option KeptCheck). option_and_then (if_passing failing) (option_and_then (λ (k : KeptCheck). restored_put plan.matrices inputs made k.promise k.spec) o)) checked
            ∙ ap (option_and_then (if_passing failing)) restored
            ∙ cond-true (is_none (failing clean)) (Some (at, clean)) None (ap is_none passes),
      ),
    )
