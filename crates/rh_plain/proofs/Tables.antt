-- What is known of verdicts and words is what the results say.
use Rattle.std.proofs.Common.{◌≡◌, ℕ, List, [], ◌∷◌, Bool, cond, ◌≤◌, Option, Some, None, length, map, is_some, unwrap_or, refl, ap, ◌∙◌}
use Rattle.std.proofs.lemmas.Option.{slice_get-map, slice_get_past}
use Rattle.std.specs.List.{AllByRecursion, filter, slice_get}
use Rattle.std.specs.Option.{option_map, option_and_then}
use Rattle.rh_rules.specs.declared.node.PlannedPromise.{PlannedPromise}
use Rattle.rh_plan.specs.declared.outcome.Verdict.{Verdict}
use Rattle.rh_plan.specs.Plans.{PlanData}
use Rattle.rh_plan.specs.Judging.{NodeResult}
use Rattle.rh_plan.specs.Results.{is_opened, passes_by, group_opened, count_ended, value_in, value_by, inputs_in, present_in}
use Rattle.rh_plain.specs.Values.{words_at, has_words, awaited_words}
use Rattle.rh_plain.specs.Endings.{verdict_passes, has_opened, count_of}

-- a promise that is not there has no value
pub value_beyond : (plan : PlanData) (rs : List NodeResult) (q : ℕ) → length plan.promises ≤ q → value_in plan rs q ≡ None
value_beyond plan rs q past =
    ap (λ (o : Option PlannedPromise). option_and_then (λ v. option_and_then (value_by q) (slice_get rs v)) (option_and_then (λ p. p.putter) o)) (slice_get_past plan.promises q past)

-- the words of these promises are there
abbrev pub AreThere : PlanData → List NodeResult → List (Option (List ℕ)) → List ℕ → Type 0
AreThere plan rs values awaits = AllByRecursion (λ q. words_at values q ≡ value_in plan rs q) awaits

pub inputs_are : (plan : PlanData) (rs : List NodeResult) (values : List (Option (List ℕ))) (awaits : List ℕ) → AreThere plan rs values awaits → awaited_words values awaits ≡ inputs_in plan rs awaits
inputs_are plan rs values [] there = refl
inputs_are plan rs values (q ∷ awaits) there =
    ap (λ (o : Option (List ℕ)). unwrap_or o [] ∷ awaited_words values awaits) there.0
    ∙ ap (λ (l : List (List ℕ)). unwrap_or (value_in plan rs q) [] ∷ l) (inputs_are plan rs values awaits there.1)

pub present_are : (plan : PlanData) (rs : List NodeResult) (values : List (Option (List ℕ))) (awaits : List ℕ) → AreThere plan rs values awaits → map (has_words values) awaits ≡ present_in plan rs awaits
present_are plan rs values [] there = refl
present_are plan rs values (q ∷ awaits) there =
    ap (λ (o : Option (List ℕ)). is_some o ∷ map (has_words values) awaits) there.0
    ∙ ap (λ (l : List Bool). is_some (value_in plan rs q) ∷ l) (present_are plan rs values awaits there.1)

passes_at : (test : Verdict → Bool) (o : Option NodeResult) → verdict_passes test (option_map (λ r. r.verdict) o) ≡ passes_by test o
passes_at test None = refl
passes_at test (Some r) = refl

pub passes_are : (test : Verdict → Bool) (rs : List NodeResult) (v : ℕ) → verdict_passes test (slice_get (map (λ r. r.verdict) rs) v) ≡ passes_by test (slice_get rs v)
passes_are test rs v = ap (verdict_passes test) (slice_get-map (λ (r : NodeResult). r.verdict) rs v) ∙ passes_at test (slice_get rs v)

pub opened_is : (rs : List NodeResult) (group : Option ℕ) → has_opened (map (λ r. r.verdict) rs) group ≡ group_opened rs group
opened_is rs None = refl
opened_is rs (Some g) = passes_are is_opened rs g

pub counts_are : (test : Verdict → Bool) (rs : List NodeResult) (members : List ℕ) → count_of test (map (λ r. r.verdict) rs) members ≡ count_ended test rs members
counts_are test rs members = ap (λ (l : List ℕ). length l) (same members)
  where
    same : (members : List ℕ) → filter (λ u. verdict_passes test (slice_get (map (λ (r : NodeResult). r.verdict) rs) u)) members ≡ filter (λ u. passes_by test (slice_get rs u)) members
    same [] = refl
    same (u ∷ members) =
        ap (λ (b : Bool). cond b (u ∷ filter (λ w. verdict_passes test (slice_get (map (λ (r : NodeResult). r.verdict) rs) w)) members) (filter (λ w. verdict_passes test (slice_get (map (λ (r : NodeResult). r.verdict) rs) w)) members)) (passes_are test rs u)
        ∙ ap (λ (l : List ℕ). cond (passes_by test (slice_get rs u)) (u ∷ l) l) (same members)
