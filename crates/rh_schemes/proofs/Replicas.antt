-- What three buffers of a replicated task decide.
use Rattle.std.proofs.Common.{◌≡◌, ◌≢◌, ℕ, [], ◌∷◌, true, false, cond, Option, Some, None, refl, ap, sym, ◌∙◌, subst, inl, inr}
use Rattle.std.specs.Option.{is_some}
use Rattle.std.proofs.lemmas.Bool.{false≢true, cases_Bool}
use Rattle.rh_plan.specs.declared.outcome.Trial.TheVariants as trial
use Rattle.rh_plan.specs.declared.outcome.Verdict.TheVariants.{Accepted, Failed}
use Rattle.rh_plan.specs.Buffers.{BufferData}
use Rattle.rh_plan.specs.Judging.{are_same, node_result, majority, deciding, replicated, replicated_after, replicated_by}
use Rattle.rh_schemes.specs.Table.{ThreeReplicasDecideByTheTable}
use Rattle.rh_plan.proofs.Sameness.{same_buffer, buffer_itself}

pub differs_back : (a b : BufferData) → are_same a b ≡ false → are_same b a ≡ false
differs_back a b other = elim (cases_Bool (are_same b a)) [
  | inl same ↦ absurd (false≢true (sym other ∙ subst (λ (c : BufferData). are_same a c ≡ true) (sym (same_buffer b a same)) (buffer_itself a)))
  | inr differs ↦ differs
]

one_alone : (a : BufferData) → majority 1 (a ∷ []) ≡ None
one_alone a = rw (buffer_itself a) refl

two_same : (a b : BufferData) → are_same a b ≡ true → majority 1 (a ∷ b ∷ []) ≡ Some 0
two_same a b same = rw (buffer_itself a, same) refl

two_differ : (a b : BufferData) → are_same a b ≡ false → majority 1 (a ∷ b ∷ []) ≡ None
two_differ a b other = rw (buffer_itself a, buffer_itself b, other, differs_back a b other) refl

first_twice : (a b c : BufferData) → are_same a b ≡ false → are_same a c ≡ true → majority 1 (a ∷ b ∷ c ∷ []) ≡ Some 0
first_twice a b c other same = rw (buffer_itself a, other, same) refl

second_twice : (a b c : BufferData) → are_same a b ≡ false → are_same a c ≡ false → are_same b c ≡ true → majority 1 (a ∷ b ∷ c ∷ []) ≡ Some 1
second_twice a b c other not_first same = rw (buffer_itself a, buffer_itself b, other, differs_back a b other, not_first, same) refl

none_twice : (a b c : BufferData) → are_same a b ≡ false → are_same a c ≡ false → are_same b c ≡ false → majority 1 (a ∷ b ∷ c ∷ []) ≡ None
none_twice a b c other not_first not_second =
    rw (buffer_itself a, buffer_itself b, buffer_itself c, other, differs_back a b other, not_first, differs_back a c not_first, not_second, differs_back b c not_second) refl

-- the first of three that is there
abbrev earliest : Option ℕ → Option ℕ → Option ℕ → Option ℕ
earliest x y z = cond (is_some x) (Some 0) (cond (is_some y) (Some 1) (cond (is_some z) (Some 2) None))

decided : (a b c : BufferData) (x y z : Option ℕ) → majority 1 (a ∷ []) ≡ x → majority 1 (a ∷ b ∷ []) ≡ y → majority 1 (a ∷ b ∷ c ∷ []) ≡ z → deciding 1 (a ∷ b ∷ c ∷ []) ≡ earliest x y z
decided a b c x y z one two three =
    ap (λ (o : Option ℕ). earliest o (majority 1 (a ∷ b ∷ [])) (majority 1 (a ∷ b ∷ c ∷ []))) one
    ∙ ap (λ (o : Option ℕ). earliest x o (majority 1 (a ∷ b ∷ c ∷ []))) two
    ∙ ap (λ (o : Option ℕ). earliest x y o) three

abbrev no_majority : BufferData → BufferData → BufferData → Option ℕ
no_majority a b c = majority 1 (a ∷ b ∷ c ∷ [])

pub two_agree : (a b c : BufferData) → are_same a b ≡ true → replicated 1 (a ∷ b ∷ c ∷ []) ≡ node_result (Accepted 0) (trial.Accepted ∷ trial.Agreed ∷ []) (Some a)
unfolding replicated
two_agree a b c same =
    ap (replicated_after 1 (a ∷ b ∷ c ∷ [])) (decided a b c None (Some 0) (no_majority a b c) (one_alone a) (two_same a b same) refl)
    ∙ ap (replicated_by (a ∷ b ∷ [])) (two_same a b same) ∙ rw same refl

pub third_with_first : (a b c : BufferData) → are_same a b ≡ false → are_same a c ≡ true → replicated 1 (a ∷ b ∷ c ∷ []) ≡ node_result (Accepted 0) (trial.Accepted ∷ trial.Differed ∷ trial.Agreed ∷ []) (Some a)
unfolding replicated
third_with_first a b c other same =
    ap (replicated_after 1 (a ∷ b ∷ c ∷ [])) (decided a b c None None (Some 0) (one_alone a) (two_differ a b other) (first_twice a b c other same))
    ∙ ap (replicated_by (a ∷ b ∷ c ∷ [])) (first_twice a b c other same) ∙ rw (other, same) refl

pub third_with_second : (a b c : BufferData) → are_same a b ≡ false → are_same a c ≡ false → are_same b c ≡ true → replicated 1 (a ∷ b ∷ c ∷ []) ≡ node_result (Accepted 1) (trial.Differed ∷ trial.Accepted ∷ trial.Agreed ∷ []) (Some b)
unfolding replicated
third_with_second a b c other not_first same =
    ap (replicated_after 1 (a ∷ b ∷ c ∷ [])) (decided a b c None None (Some 1) (one_alone a) (two_differ a b other) (second_twice a b c other not_first same))
    ∙ ap (replicated_by (a ∷ b ∷ c ∷ [])) (second_twice a b c other not_first same) ∙ rw (differs_back a b other, same) refl

pub none_agree : (a b c : BufferData) → are_same a b ≡ false → are_same a c ≡ false → are_same b c ≡ false → replicated 1 (a ∷ b ∷ c ∷ []) ≡ node_result Failed (trial.Differed ∷ trial.Differed ∷ trial.Differed ∷ []) None
unfolding replicated
none_agree a b c other not_first not_second =
    ap (replicated_after 1 (a ∷ b ∷ c ∷ [])) (decided a b c None None None (one_alone a) (two_differ a b other) (none_twice a b c other not_first not_second))

equal : (a b : BufferData) → a ≡ b → are_same a b ≡ true
equal a b same = subst (λ (c : BufferData). are_same a c ≡ true) same (buffer_itself a)

unequal : (a b : BufferData) → a ≢ b → are_same a b ≡ false
unequal a b differs = elim (cases_Bool (are_same a b)) [
  | inl same ↦ absurd (differs (same_buffer a b same))
  | inr other ↦ other
]

pub three_replicas : ThreeReplicasDecideByTheTable
three_replicas = record {
  first_two = λ a b c same. two_agree a b c (equal a b same);
  first_and_third = λ a b c differs same. third_with_first a b c (unequal a b differs) (equal a c same);
  last_two = λ a b c differs same. third_with_second a b c (unequal a b differs) (unequal a c (λ (with_third : a ≡ c). differs (with_third ∙ sym same))) (equal b c same);
  none = λ a b c differs not_first not_second. none_agree a b c (unequal a b differs) (unequal a c not_first) (unequal b c not_second);
}
