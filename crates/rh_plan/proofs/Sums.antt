-- Checks of a sum refuse an attempt that differs in one word.
use Rattle.std.proofs.Common.{◌≡◌, ℕ, List, Bool, true, false, not, Some, None, ap, sym, ◌∙◌, inl, inr}
use Rattle.std.proofs.lemmas.Option.{none-some}
use Rattle.std.proofs.lemmas.Bool.{cases_Bool, not-false}
use Rattle.std.specs.List.{slice_get, position}
use Rattle.std.specs.Option.{is_some}
use Rattle.rh_rules.specs.Kept.{KeptCheck}
use Rattle.rh_plan.specs.Plans.{PlanData}
use Rattle.rh_plan.specs.Buffers.{BufferData, words_put}
use Rattle.rh_check.specs.Checks.{spec_passes}
use Rattle.rh_check.proofs.AlteredSums.{sum_checks_refuse_one_altered_word}
use Rattle.rh_plan.specs.Checking.{passes_where_put, check_passes, first_failing}
use Rattle.rh_plan.specs.Altered.{DiffersWhereSummed, SummedTasksReplayWithin}
use Rattle.rh_plan.proofs.Accepting.{position_there}

none_first : {X : Type 0} (p : X → Bool) (xs : List X) (i : ℕ) (x : X) → position p xs ≡ None → slice_get xs i ≡ Some x → p x ≡ false
none_first p xs i x none at = elim (cases_Bool (p x)) [
  | inl passes ↦ let found = position_there p xs i x at passes in absurd (none-some found.0 (sym none ∙ found.2))
  | inr fails ↦ fails
]

-- where the checks pass a buffer, what it puts passes each
pub passed_where_put : (plan : PlanData) (inputs : List (List ℕ)) (checks : List KeptCheck) (buffer : BufferData) (number : ℕ) (check : KeptCheck) (words : List ℕ) → first_failing plan inputs checks buffer ≡ None → slice_get checks number ≡ Some check → words_put check.promise buffer.puts ≡ Some words → spec_passes check.user plan.matrices inputs check.spec words ≡ true
unfolding first_failing
passed_where_put plan inputs checks buffer number check words passes there put =
    let reads = spec_passes check.user plan.matrices inputs check.spec in
    let passing : check_passes plan inputs buffer check ≡ true = not-false (check_passes plan inputs buffer check) (none_first (λ c. not (check_passes plan inputs buffer c)) checks number check passes there) in
    sym (ap (passes_where_put reads) put) ∙ passing

-- where the checks pass a buffer, they refuse one that differs from it in one word that is summed
pub summed_refused : (plan : PlanData) (inputs : List (List ℕ)) (checks : List KeptCheck) (clean buffer : BufferData) → DiffersWhereSummed checks clean buffer → first_failing plan inputs checks clean ≡ None → is_some (first_failing plan inputs checks buffer) ≡ true
unfolding first_failing
summed_refused plan inputs checks clean buffer differs passes =
    let check = differs.check in
    let reads = spec_passes check.user plan.matrices inputs check.spec in
    let before : reads differs.before ≡ true = passed_where_put plan inputs checks clean differs.number check differs.before passes differs.there differs.put in
    let after : reads differs.after ≡ false = sum_checks_refuse_one_altered_word check.user plan.matrices inputs check.spec differs.before differs.after differs.summed differs.altered before in
    let refused : not (check_passes plan inputs buffer check) ≡ true = ap not (ap (passes_where_put reads) differs.put_altered ∙ after) in
    let found = position_there (λ c. not (check_passes plan inputs buffer c)) checks differs.number check differs.there refused in
    ap is_some found.2

pub summed_tasks_replay_within : SummedTasksReplayWithin
summed_tasks_replay_within plan faults v limit first node passes below unnamed least differ = record {
  passes = passes;
  first = first;
  below = below;
  unnamed = unnamed;
  least = least;
  refused = λ k before other. summed_refused plan (Rattle.rh_plan.specs.Budgets.fault_free_inputs plan v node) node.checks (Rattle.rh_plan.specs.Budgets.fault_free_buffer plan v node) (Rattle.rh_plan.specs.Attempts.attempt_of plan faults v node (Rattle.rh_plan.specs.Budgets.fault_free_inputs plan v node) k) (differ k before other) passes;
}
