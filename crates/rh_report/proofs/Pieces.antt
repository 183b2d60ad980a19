-- Pieces of a report that are at hand as a whole.
use Rattle.std.proofs.Common.{◌≡◌, ℕ, List, [], ◌∷◌, ◌++◌, Bool, false, Option, Some, codes, unwrap_or, refl, ap, sym, ◌∙◌, append_assoc}
use Rattle.std.specs.Fmt.{decimal, digits}
use Rattle.rh_plan.specs.declared.outcome.Trial.{Trial}
use Rattle.rh_plan.specs.declared.outcome.Trial.TheVariants as trial
use Rattle.rh_plan.specs.declared.outcome.Verdict.{Verdict}
use Rattle.rh_plan.specs.declared.outcome.Verdict.TheVariants.{Accepted}
use Rattle.rh_plan.specs.Plans.{PlanData}
use Rattle.rh_report.specs.NodeLines.{attempt_line, end_lines, ending_text, trial_text}
use Rattle.rh_report.specs.PromiseLines.{put_text, words_text}

whole_end : (plan : PlanData) → codes " accepted 0\n  attempt 0 accepted\n" ≡ end_lines plan (Accepted 0) (trial.Accepted ∷ [])
unfolding ending_text attempt_line trial_text digits
whole_end plan = refl

-- how a task ended whose one attempt was accepted
pub one_accepted : (plan : PlanData) (verdict : Verdict) (trials : List Trial) → verdict ≡ Accepted 0 → trials ≡ trial.Accepted ∷ [] → codes " accepted 0\n  attempt 0 accepted\n" ≡ end_lines plan verdict trials
one_accepted plan verdict trials is are =
    whole_end plan ∙ ap (λ (v : Verdict). end_lines plan v (trial.Accepted ∷ [])) (sym is) ∙ ap (λ (l : List Trial). end_lines plan verdict l) (sym are)

zero_put : (words : List ℕ) → codes " attempt 0:" ++ words ≡ codes " attempt " ++ (decimal 0 ++ (codes ":" ++ words))
unfolding digits
zero_put words = refl

-- the put of an accepted first attempt
pub first_put : (attempt : ℕ) (words before middle after : List ℕ) → attempt ≡ 0 → middle ≡ before ++ codes " attempt 0:" → after ≡ middle ++ words → after ≡ before ++ (codes " attempt " ++ (decimal attempt ++ (codes ":" ++ words)))
first_put attempt words before middle after zero is is_after =
    is_after ∙ ap (λ (l : List ℕ). l ++ words) is ∙ append_assoc before (codes " attempt 0:") words
    ∙ ap (λ (l : List ℕ). before ++ l) (zero_put words ∙ ap (λ (n : ℕ). codes " attempt " ++ (decimal n ++ (codes ":" ++ words))) (sym zero))

pub first_put_text : (temp : Bool) (words : Option (List ℕ)) (put : Option ℕ) (attempt : ℕ) (given before middle after : List ℕ) → put ≡ Some attempt → temp ≡ false → attempt ≡ 0 → given ≡ unwrap_or words [] → middle ≡ before ++ codes " attempt 0:" → after ≡ middle ++ words_text given → after ≡ before ++ put_text temp words put
first_put_text temp words put attempt given before middle after put_is shown zero given_is is is_after =
    first_put attempt (words_text given) before middle after zero is is_after
    ∙ ap (λ (l : List ℕ). before ++ (codes " attempt " ++ (decimal attempt ++ (codes ":" ++ words_text l)))) given_is
    ∙ ap (λ (b : Bool). before ++ put_text b words (Some attempt)) (sym shown)
    ∙ ap (λ (o : Option ℕ). before ++ put_text temp words o) (sym put_is)
