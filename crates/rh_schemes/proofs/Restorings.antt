-- What the correction of a word answers, as the word that it restored, and the buffer with it.
use Rattle.std.proofs.Common.{◌≡◌, ◌∙◌, ℕ, ℤ, List, [], ◌∷◌, true, Option, Some, None, length, refl, ap, sym, subst, inl, inr}
use Rattle.std.proofs.lemmas.Bool.{cases_Bool, cond-true, cond-false}
use Rattle.std.proofs.lemmas.List.{length-set}
use Rattle.std.proofs.lemmas.Option.{none-some, same_Some, get_or_from_slice_get}
use Rattle.std.specs.List.{AllByRecursion, find, slice_get, slice_index_or}
use Rattle.std.specs.Option.{IsSomeAnd, option_and_then, option_map}
use Rattle.rh_sparse.specs.Matrix.{MatrixData, IsMatrix}
use Rattle.rh_sparse.specs.Checksums.{ChecksumData, checksums_of, plain_difference, weighted_difference}
use Rattle.rh_sparse.specs.Correction.{restored}
use Rattle.rh_sparse.proofs.Restoring.{is_restored}
use Rattle.rh_check.specs.declared.spec.Spec.{Spec}
use Rattle.rh_rules.specs.declared.checks.PlannedCheck.{PlannedCheck}
use Rattle.rh_rules.specs.Lawful.{is_product}
use Rattle.rh_plan.specs.Buffers.{BufferData, words_put, buffer_with}
use Rattle.rh_plan.specs.Correcting.{restored_if_held, restored_by, restored_put}
use Rattle.rh_schemes.specs.Checking.{CanBeMade}
use Rattle.rh_schemes.specs.Correcting.{CanBeRestored, restored_planned}
use Rattle.rh_sparse.specs.declared.correction.Correction.{Correction}
use Rattle.rh_sparse.specs.declared.correction.Correction.TheVariants.{Corrected, NotOne}
use Rattle.rh_sparse.specs.Correction.{correction_of, words_left}

pub corrected_is : (d1 d2 : ℤ) (o : Option (ℕ × List ℕ)) (ys new : List ℕ) (word : ℕ) (answer : Correction) → answer ≡ correction_of d1 d2 o → answer ≡ Corrected word → new ≡ words_left ys o → Some (word, new) ≡ o
corrected_is d1 d2 None ys new word answer told is left = let never : Corrected word ≡ NotOne d1 d2 = sym is ∙ told in cc
corrected_is d1 d2 (Some (i, zs)) ys new word answer told is left =
    let both : Corrected word ≡ Corrected i = sym is ∙ told in
    let same : word ≡ i = cc in
    ap (λ (n : ℕ). Some (n, new)) same ∙ ap (λ (l : List ℕ). Some (i, l)) left

pub not_one_is : (d1 d2 e1 e2 : ℤ) (o : Option (ℕ × List ℕ)) (answer : Correction) → answer ≡ correction_of d1 d2 o → answer ≡ NotOne e1 e2 → None ≡ o
not_one_is d1 d2 e1 e2 None answer told is = refl
not_one_is d1 d2 e1 e2 (Some (i, zs)) answer told is = let never : NotOne e1 e2 ≡ Corrected i = sym is ∙ told in cc

left_long : (ys : List ℕ) (d1 d2 : ℤ) (o : Option (ℕ × List ℕ)) → restored ys d1 d2 ≡ o → length (words_left ys o) ≡ length ys
left_long ys d1 d2 None is = refl
left_long ys d1 d2 (Some (i, zs)) is = let r = is_restored ys zs d1 d2 i is in ap length r.words ∙ length-set ys i r.word

-- a correction leaves as many words
pub corrected_long : (ys new : List ℕ) (d1 d2 : ℤ) → new ≡ words_left ys (restored ys d1 d2) → length new ≡ length ys
corrected_long ys new d1 d2 left = ap length left ∙ left_long ys d1 d2 (restored ys d1 d2) refl

-- the kept checksums restore what those of the held matrix do
pub held_restores : (held : Option MatrixData) (inputs : List (List ℕ)) (x : ℕ) (words input : List ℕ) (sums : ChecksumData) (answer : Option (ℕ × List ℕ)) → IsSomeAnd held (λ a. (sums ≡ checksums_of a) × IsMatrix a) → slice_get inputs x ≡ Some input
    → answer ≡ restored words (plain_difference sums input words) (weighted_difference sums input words) → answer ≡ restored_if_held held (slice_index_or inputs x []) words
held_restores None inputs x words input sums answer are at is = absurd are
held_restores (Some a) inputs x words input sums answer are at is =
    is ∙ ap (λ (s : ChecksumData). restored words (plain_difference s input words) (weighted_difference s input words)) are.0
    ∙ ap (λ (l : List ℕ). restored words (plain_difference (checksums_of a) l words) (weighted_difference (checksums_of a) l words)) (sym (get_or_from_slice_get inputs x input [] at))

-- the place of a word, and the buffer with the words in a put
abbrev with_put : ℕ → BufferData → ℕ × List ℕ → ℕ × BufferData
with_put q buffer r = (r.0, buffer_with q r.1 buffer)

-- the put of a check: not there, not restored, and restored
pub put_none : (matrices : List MatrixData) (inputs : List (List ℕ)) (buffer : BufferData) (q : ℕ) (spec : Spec) → words_put q buffer.puts ≡ None → None ≡ restored_put matrices inputs buffer q spec
put_none matrices inputs buffer q spec none = sym (ap (λ (o : Option (List ℕ)). option_map (with_put q buffer) (option_and_then (restored_by matrices inputs spec) o)) none)

pub put_unrestored : (matrices : List MatrixData) (inputs : List (List ℕ)) (buffer : BufferData) (q : ℕ) (spec : Spec) (old : List ℕ) → words_put q buffer.puts ≡ Some old → None ≡ restored_by matrices inputs spec old → None ≡ restored_put matrices inputs buffer q spec
put_unrestored matrices inputs buffer q spec old put is =
    ap (option_map (with_put q buffer)) is
    ∙ sym (ap (λ (o : Option (List ℕ)). option_map (with_put q buffer) (option_and_then (restored_by matrices inputs spec) o)) put)

pub put_restored : (matrices : List MatrixData) (inputs : List (List ℕ)) (buffer after : BufferData) (q : ℕ) (spec : Spec) (old new : List ℕ) (word : ℕ) → words_put q buffer.puts ≡ Some old → Some (word, new) ≡ restored_by matrices inputs spec old → after ≡ buffer_with q new buffer → Some (word, after) ≡ restored_put matrices inputs buffer q spec
put_restored matrices inputs buffer after q spec old new word put is set =
    ap (λ (b : BufferData). Some (word, b)) set
    ∙ ap (option_map (with_put q buffer)) is
    ∙ sym (ap (λ (o : Option (List ℕ)). option_map (with_put q buffer) (option_and_then (restored_by matrices inputs spec) o)) put)

pub no_product : (matrices : List MatrixData) (checks : List PlannedCheck) (inputs : List (List ℕ)) (buffer : BufferData) → find (λ c. is_product c.spec) checks ≡ None → None ≡ restored_planned matrices checks inputs buffer
no_product matrices checks inputs buffer none = sym (ap (option_and_then (λ (c : PlannedCheck). restored_put matrices inputs buffer c.promise c.spec)) none)

pub one_product : (matrices : List MatrixData) (checks : List PlannedCheck) (inputs : List (List ℕ)) (buffer : BufferData) (check : PlannedCheck) (answer : Option (ℕ × BufferData)) → find (λ c. is_product c.spec) checks ≡ Some check → answer ≡ restored_put matrices inputs buffer check.promise check.spec → answer ≡ restored_planned matrices checks inputs buffer
one_product matrices checks inputs buffer check answer found is = is ∙ sym (ap (option_and_then (λ (c : PlannedCheck). restored_put matrices inputs buffer c.promise c.spec)) found)

-- the found check is one of a product, and can be made
pub found_product : (matrices : List MatrixData) (inputs : List (List ℕ)) (buffer : BufferData) (checks : List PlannedCheck) (check : PlannedCheck) → AllByRecursion (CanBeRestored matrices inputs buffer) checks → find (λ c. is_product c.spec) checks ≡ Some check → (is_product check.spec ≡ true) × CanBeMade matrices [] inputs buffer check
found_product matrices inputs buffer [] check all found = absurd (none-some check found)
found_product matrices inputs buffer (c ∷ checks) check all found = elim (cases_Bool (is_product c.spec)) [
  | inl here ↦
      let same : c ≡ check = same_Some c check (sym (cond-true (is_product c.spec) (Some c) (find (λ k. is_product k.spec) checks) here) ∙ found) in
      subst (λ (k : PlannedCheck). (is_product k.spec ≡ true) × CanBeMade matrices [] inputs buffer k) same (here, all.0 here)
  | inr other ↦ found_product matrices inputs buffer checks check all.1 (sym (cond-false (is_product c.spec) (Some c) (find (λ k. is_product k.spec) checks) other) ∙ found)
]
