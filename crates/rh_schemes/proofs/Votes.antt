-- What a vote decides is how a replicated task is judged.
use Rattle.std.proofs.Common.{◌≡◌, ℕ, List, [], ◌∷◌, false, cond, Some, None, refl, arith, ap, sym, ◌∙◌, subst, inl, inr}
use Rattle.std.proofs.lemmas.Bool.{cases_Bool, cond-true, cond-false}
use Rattle.std.specs.List.{slice_get}
use Rattle.rh_plan.specs.declared.outcome.Trial.{Trial}
use Rattle.rh_plan.specs.declared.outcome.Trial.TheVariants as trial
use Rattle.rh_plan.specs.declared.outcome.Verdict.TheVariants.{Accepted, Failed}
use Rattle.rh_plan.specs.Buffers.{BufferData}
use Rattle.rh_plan.specs.Judging.{NodeResult, are_same, node_result, replicated}
use Rattle.rh_schemes.specs.declared.ballot.Vote.{Vote}
use Rattle.rh_schemes.specs.declared.ballot.Vote.TheVariants.{Kept, More, Split}
use Rattle.rh_schemes.specs.Voting.{third_vote, voted, IsAcceptedOf, VotesDecide}
use Rattle.rh_schemes.proofs.Replicas.{two_agree, third_with_first, third_with_second, none_agree}

-- the attempt that a vote keeps
abbrev place : Vote → ℕ
place (Kept j) = j
place More = 0
place Split = 0

-- which vote it is
abbrev kind : Vote → ℕ
kind (Kept j) = 0
kind More = 1
kind Split = 2

accepts : (made : List BufferData) (r : NodeResult) (i j : ℕ) (trials : List Trial) (b : BufferData) → Kept i ≡ Kept j → r ≡ node_result (Accepted i) trials (Some b) → slice_get made i ≡ Some b → IsAcceptedOf made j r
accepts made r i j trials b kept is at = subst (λ (n : ℕ). IsAcceptedOf made n r) (ap place kept) (ap (λ (x : NodeResult). x.verdict) is, ap (λ (x : NodeResult). x.accepted) is ∙ sym at)

two_keep : (a b c : BufferData) (j : ℕ) → voted a b None ≡ Kept j → IsAcceptedOf (a ∷ b ∷ c ∷ []) j (replicated 1 (a ∷ b ∷ c ∷ []))
two_keep a b c j is = elim (cases_Bool (are_same a b)) [
  | inl same ↦ accepts (a ∷ b ∷ c ∷ []) (replicated 1 (a ∷ b ∷ c ∷ [])) 0 j (trial.Accepted ∷ trial.Agreed ∷ []) a (sym (cond-true (are_same a b) (Kept 0) More same) ∙ is) (two_agree a b c same) refl
  | inr other ↦ let more = ap kind (sym (cond-false (are_same a b) (Kept 0) More other) ∙ is) in absurd (omega arith)
]

third_keeps : (a b c : BufferData) (j : ℕ) → are_same a b ≡ false → third_vote a b c ≡ Kept j → IsAcceptedOf (a ∷ b ∷ c ∷ []) j (replicated 1 (a ∷ b ∷ c ∷ []))
third_keeps a b c j other is =
    let made = a ∷ b ∷ c ∷ [] in
    let rest = cond (are_same b c) (Kept 1) Split in
    elim (cases_Bool (are_same a c)) [
      | inl same ↦ accepts made (replicated 1 made) 0 j (trial.Accepted ∷ trial.Differed ∷ trial.Agreed ∷ []) a (sym (cond-true (are_same a c) (Kept 0) rest same) ∙ is) (third_with_first a b c other same) refl
      | inr not_first ↦
          let is_rest : rest ≡ Kept j = sym (cond-false (are_same a c) (Kept 0) rest not_first) ∙ is in
          elim (cases_Bool (are_same b c)) [
            | inl same ↦ accepts made (replicated 1 made) 1 j (trial.Differed ∷ trial.Accepted ∷ trial.Agreed ∷ []) b (sym (cond-true (are_same b c) (Kept 1) Split same) ∙ is_rest) (third_with_second a b c other not_first same) refl
            | inr not_second ↦ let split = ap kind (sym (cond-false (are_same b c) (Kept 1) Split not_second) ∙ is_rest) in absurd (omega arith)
          ]
    ]

third_splits : (a b c : BufferData) → are_same a b ≡ false → third_vote a b c ≡ Split → (replicated 1 (a ∷ b ∷ c ∷ [])).verdict ≡ Failed
third_splits a b c other is =
    let rest = cond (are_same b c) (Kept 1) Split in
    elim (cases_Bool (are_same a c)) [
      | inl same ↦ let kept = ap kind (sym (cond-true (are_same a c) (Kept 0) rest same) ∙ is) in absurd (omega arith)
      | inr not_first ↦
          let is_rest : rest ≡ Split = sym (cond-false (are_same a c) (Kept 0) rest not_first) ∙ is in
          elim (cases_Bool (are_same b c)) [
            | inl same ↦ let kept = ap kind (sym (cond-true (are_same b c) (Kept 1) Split same) ∙ is_rest) in absurd (omega arith)
            | inr not_second ↦ ap (λ (x : NodeResult). x.verdict) (none_agree a b c other not_first not_second)
          ]
    ]

three_keep : (a b c : BufferData) (j : ℕ) → voted a b (Some c) ≡ Kept j → IsAcceptedOf (a ∷ b ∷ c ∷ []) j (replicated 1 (a ∷ b ∷ c ∷ []))
three_keep a b c j is = elim (cases_Bool (are_same a b)) [
  | inl same ↦ accepts (a ∷ b ∷ c ∷ []) (replicated 1 (a ∷ b ∷ c ∷ [])) 0 j (trial.Accepted ∷ trial.Agreed ∷ []) a (sym (cond-true (are_same a b) (Kept 0) (third_vote a b c) same) ∙ is) (two_agree a b c same) refl
  | inr other ↦ third_keeps a b c j other (sym (cond-false (are_same a b) (Kept 0) (third_vote a b c) other) ∙ is)
]

three_split : (a b c : BufferData) → voted a b (Some c) ≡ Split → (replicated 1 (a ∷ b ∷ c ∷ [])).verdict ≡ Failed
three_split a b c is = elim (cases_Bool (are_same a b)) [
  | inl same ↦ let kept = ap kind (sym (cond-true (are_same a b) (Kept 0) (third_vote a b c) same) ∙ is) in absurd (omega arith)
  | inr other ↦ third_splits a b c other (sym (cond-false (are_same a b) (Kept 0) (third_vote a b c) other) ∙ is)
]

pub votes : VotesDecide
votes = record { two_keep = two_keep; three_keep = three_keep; three_split = three_split }
