-- A report tells what kept within its fault budgets as without faults.
use Rattle.std.proofs.Common.{◌≡◌, ℕ, zero, suc, ◌<◌, ◌==◌, ◌&&◌, List, [], ◌∷◌, Bool, true, false, cond, Option, Some, None, length, map, get_or, refl, arith, ap, sym, ◌∙◌, inl, inr, eqb-true}
use Rattle.std.proofs.lemmas.Bool.{cases_Bool, cond-true, cond-false, false≢true}
use Rattle.std.proofs.lemmas.List.FromFn.{get_or-map-range_with_len}
use Rattle.std.specs.List.{filter, find, range_with_len, slice_get}
use Rattle.std.specs.Option.{is_some, option_and_then, option_map, unwrap_or}
use Rattle.rh_injector.specs.declared.faults.Strike.{Strike}
use Rattle.rh_rules.specs.Lawful.{putter_of}
use Rattle.rh_plan.specs.declared.outcome.Verdict.{Verdict}
use Rattle.rh_plan.specs.declared.outcome.Verdict.TheVariants.{Failed}
use Rattle.rh_plan.specs.Plans.{PlanData}
use Rattle.rh_plan.specs.Judging.{NodeResult}
use Rattle.rh_plan.specs.Results.{all_results, ending_of, value_of, value_by}
use Rattle.rh_plan.specs.Budgets.{BudgetsAreKept}
use Rattle.rh_journal.specs.Own.{run_of, has_value, is_shown_at, put_attempt}
use Rattle.rh_journal.specs.ShownWords.{words_with}
use Rattle.rh_journal.proofs.Owned.{putter_known}
use Rattle.rh_report.specs.Tables.{put_by_result, put_in, tables_of}
use Rattle.rh_report.specs.PromiseLines.{is_temp_at, state_text}
use Rattle.rh_report.specs.FaultFree.{words_shown, TellsFaultFree, ReportsAreFaultFree}

-- an ending read from the table
read_ending : (rs : List NodeResult) (v : ℕ) → ending_of (get_or (map (λ r. r.verdict) rs) v Failed) ≡ unwrap_or (option_map (λ r. ending_of r.verdict) (slice_get rs v)) Failed
read_ending [] v = refl
read_ending (r ∷ rs) zero = refl
read_ending (r ∷ rs) (suc v) = read_ending rs v

-- the words of a promise among those that pass a test
abbrev tell : (ℕ → Option (List ℕ)) → ℕ → ℕ × List ℕ
tell f q = (q, unwrap_or (f q) [])

-- a promise that is not looked for
skip : (f : ℕ → Option (List ℕ)) (q x : ℕ) (b : Bool) (xs : List ℕ) → (x == q) ≡ false → words_with q (map (tell f) (cond b (x ∷ xs) xs)) ≡ words_with q (map (tell f) xs)
skip f q x true xs other = ap (λ (o : Option (ℕ × List ℕ)). option_map (λ (p : ℕ × List ℕ). p.1) o) (cond-false (x == q) (Some (tell f x)) (find (λ (p : ℕ × List ℕ). p.0 == q) (map (tell f) xs)) other)
skip f q x false xs other = refl

found : (f : ℕ → Option (List ℕ)) (q x : ℕ) (xs : List ℕ) → (x == q) ≡ true → words_with q (map (tell f) (x ∷ xs)) ≡ Some (unwrap_or (f q) [])
found f q x xs here =
    ap (λ (o : Option (ℕ × List ℕ)). option_map (λ (p : ℕ × List ℕ). p.1) o) (cond-true (x == q) (Some (tell f x)) (find (λ (p : ℕ × List ℕ). p.0 == q) (map (tell f) xs)) here)
    ∙ ap (λ (k : ℕ). Some (unwrap_or (f k) [])) (eqb-true x q here)

-- the words of a promise rest on its own value alone
words_alike : (f g : ℕ → Option (List ℕ)) (p r : ℕ → Bool) (q : ℕ) (xs : List ℕ) → f q ≡ g q → p q ≡ r q → words_with q (map (tell f) (filter p xs)) ≡ words_with q (map (tell g) (filter r xs))
words_alike f g p r q [] same test = refl
words_alike f g p r q (x ∷ xs) same test = elim (cases_Bool (x == q)) [
  | inl here ↦ by (p x) refl (ap p (eqb-true x q here) ∙ test ∙ sym (ap r (eqb-true x q here))) here (words_alike f g p r q xs same test)
  | inr other ↦ skip f q x (p x) (filter p xs) other ∙ words_alike f g p r q xs same test ∙ sym (skip g q x (r x) (filter r xs) other)
]
  where
    by : (b : Bool) → p x ≡ b → p x ≡ r x → (x == q) ≡ true → words_with q (map (tell f) (filter p xs)) ≡ words_with q (map (tell g) (filter r xs))
        → words_with q (map (tell f) (cond (p x) (x ∷ filter p xs) (filter p xs))) ≡ words_with q (map (tell g) (cond (r x) (x ∷ filter r xs) (filter r xs)))
    by true is both here rest =
        ap (λ (l : List ℕ). words_with q (map (tell f) l)) (cond-true (p x) (x ∷ filter p xs) (filter p xs) is)
        ∙ found f q x (filter p xs) here
        ∙ ap (λ (o : Option (List ℕ)). Some (unwrap_or o [])) same
        ∙ sym (found g q x (filter r xs) here)
        ∙ sym (ap (λ (l : List ℕ). words_with q (map (tell g) l)) (cond-true (r x) (x ∷ filter r xs) (filter r xs) (sym both ∙ is)))
    by false is both here rest =
        ap (λ (l : List ℕ). words_with q (map (tell f) l)) (cond-false (p x) (x ∷ filter p xs) (filter p xs) is)
        ∙ rest
        ∙ sym (ap (λ (l : List ℕ). words_with q (map (tell g) l)) (cond-false (r x) (x ∷ filter r xs) (filter r xs) (sym both ∙ is)))

-- shown words with one value
pub shown_alike : (plan : PlanData) (faults others : List Strike) (q : ℕ) → value_of plan faults q ≡ value_of plan others q → words_shown plan faults q ≡ words_shown plan others q
shown_alike plan faults others q same =
    words_alike (value_of plan faults) (value_of plan others) (λ p. is_shown_at plan p && has_value (run_of plan faults) p) (λ p. is_shown_at plan p && has_value (run_of plan others) p) q (range_with_len 0 (length plan.promises)) same
    (ap (λ (o : Option (List ℕ)). is_shown_at plan q && is_some o) same)

-- a promise is told as put where it has a value
put_some : (q : ℕ) (rs : List NodeResult) (o : Option ℕ) → is_some (option_and_then (λ v. option_and_then (put_by_result q) (slice_get rs v)) o) ≡ is_some (option_and_then (λ v. option_and_then (value_by q) (slice_get rs v)) o)
put_some q rs None = refl
put_some q rs (Some v) = at (slice_get rs v)
  where
    mapped : (k : ℕ) (o : Option (List ℕ)) → is_some (option_map (λ words. k) o) ≡ is_some o
    mapped k None = refl
    mapped k (Some w) = refl

    at : (o : Option NodeResult) → is_some (option_and_then (put_by_result q) o) ≡ is_some (option_and_then (value_by q) o)
    at None = refl
    at (Some r) = mapped (put_attempt r.verdict) (value_by q r)

read_put : (plan : PlanData) (faults : List Strike) (q : ℕ) → q < length plan.promises → get_or (tables_of plan faults).puts q None ≡ put_in plan (all_results plan faults) q
read_put plan faults q within = get_or-map-range_with_len (put_in plan (all_results plan faults)) 0 (length plan.promises) q q None within (omega arith)

put_alike : (plan : PlanData) (faults others : List Strike) (q : ℕ) → q < length plan.promises → value_of plan faults q ≡ value_of plan others q → is_some (get_or (tables_of plan faults).puts q None) ≡ is_some (get_or (tables_of plan others).puts q None)
put_alike plan faults others q within same =
    ap (λ (o : Option ℕ). is_some o) (read_put plan faults q within)
    ∙ put_some q (all_results plan faults) (putter_of plan.promises q)
    ∙ ap (λ (o : Option (List ℕ)). is_some o) same
    ∙ sym (ap (λ (o : Option ℕ). is_some o) (read_put plan others q within) ∙ put_some q (all_results plan others) (putter_of plan.promises q))

-- one is there where the other is
same_there : (o p : Option ℕ) → is_some o ≡ is_some p → (k : ℕ) × (o ≡ option_map (λ j. k) p)
same_there None None same = (0, refl)
same_there None (Some j) same = absurd (false≢true same)
same_there (Some k) None same = absurd (false≢true (sym same))
same_there (Some k) (Some j) same = (k, refl)

told_fault_free : (plan : PlanData) (faults : List Strike) (v q : ℕ) → putter_of plan.promises q ≡ Some v → value_of plan faults q ≡ value_of plan [] q → TellsFaultFree plan faults v q
told_fault_free plan faults v q by same =
    let words = shown_alike plan faults [] q same in
    let (k, put) = same_there (get_or (tables_of plan faults).puts q None) (get_or (tables_of plan []).puts q None) (put_alike plan faults [] q (putter_known plan q v by) same) in
    record {
      words = words;
      attempt = k;
      state =
          ap (λ (w : Option (List ℕ)). state_text plan (is_temp_at plan q) w (get_or (tables_of plan faults).puts q None) (putter_of plan.promises q)) words
          ∙ ap (λ (o : Option ℕ). state_text plan (is_temp_at plan q) (words_shown plan [] q) o (putter_of plan.promises q)) put
          ∙ ap (state_text plan (is_temp_at plan q) (words_shown plan [] q) (option_map (λ j. k) (get_or (tables_of plan []).puts q None))) by;
    }

pub reports_are_fault_free : BudgetsAreKept → ReportsAreFaultFree
reports_are_fault_free budgets plan lawful faults v within =
    let same = budgets plan lawful faults v within in
    record {
      ending =
          read_ending (all_results plan faults) v
          ∙ ap (λ (o : Option Verdict). unwrap_or o Failed) same.ending
          ∙ sym (read_ending (all_results plan []) v);
      promises = λ q by. told_fault_free plan faults v q by (same.values q by);
    }
