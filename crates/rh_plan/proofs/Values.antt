-- The values of a lawful plan have as many words as their promises.
use Rattle.std.proofs.Common.{◌≡◌, ℕ, zero, suc, ◌<◌, ◌≤◌, ◌==◌, List, [], ◌∷◌, Bool, true, false, Option, Some, None, length, map, slice_index, unwrap_or, refl, arith, ap, sym, ◌∙◌, subst, inl, inr}
use Rattle.std.proofs.lemmas.Option.{none-some, same_Some, slice_get_within}
use Rattle.std.proofs.lemmas.Bool.{false≢true, cases_lt, or_cases, eqb-true}
use Rattle.std.specs.List.{AllByRecursion, slice_get, range_with_len}
use Rattle.std.specs.Option.{IsSomeAnd, is_some, option_and_then}
use Rattle.rh_injector.specs.declared.faults.Strike.{Strike}
use Rattle.rh_rules.specs.declared.node.Node.{Node}
use Rattle.rh_rules.specs.declared.node.Kind.{Kind}
use Rattle.rh_rules.specs.declared.node.Kind.TheVariants.{Task, Group, Scope}
use Rattle.rh_plan.specs.declared.outcome.Cause.{Cause}
use Rattle.rh_plan.specs.declared.outcome.Verdict.{Verdict}
use Rattle.rh_plan.specs.declared.outcome.Verdict.TheVariants.{Accepted, Corrected, Failed, Skipped, Opened, Closed, Ended}
use Rattle.rh_rules.specs.Lawful.{promise_lens, putter_of}
use Rattle.rh_plan.specs.Plans.{PlanData, shapes_in}
use Rattle.rh_injector.specs.Faults.{faults_in}
use Rattle.rh_plan.specs.Buffers.{BufferData, words_put, PutsFit}
use Rattle.rh_rules.specs.Bodies.{AreSoundSteps, lens_at}
use Rattle.rh_rules.specs.Lawful.{IsLawfulKind, IsAmong}
use Rattle.rh_plan.specs.Lawful.{IsLawfulPlan}
use Rattle.rh_plan.specs.Checking.{first_failing}
use Rattle.rh_plan.specs.Judging.{attempts_of}
use Rattle.rh_plan.specs.Correcting.{correction}
use Rattle.rh_plan.specs.Attempts.{attempt_of, attempts_made, judged}
use Rattle.rh_plan.specs.Results.{results, result_of_node, result_by_kind, task_result, group_result, value_put, value_by, value_in, inputs_in, present_in, first_absent, blamed, group_opened, cause_in}
use Rattle.rh_plan.specs.Values.{IsReady, UnskippedTasksAreReady}
use Rattle.rh_plan.proofs.Rows.{value_there}
use Rattle.rh_plan.proofs.Sources.{row, node_there}
use Rattle.rh_plan.proofs.Fitting.{buffer_fits, words_fit}
use Rattle.rh_plan.proofs.Replaced.{lengths_stay}
use Rattle.rh_plan.proofs.Corrected.{correction_replaces}
use Rattle.rh_plan.proofs.Made.{accepted_holds}
use Rattle.rh_plan.proofs.Judged.{judged_not_ended}

absent_step : (q : ℕ) (awaits : List ℕ) (b : Bool) (present : List Bool) → first_absent (q ∷ awaits) (b ∷ present) ≡ None → (b ≡ true) × (first_absent awaits present ≡ None)
absent_step q awaits true present none = (refl, none)
absent_step q awaits false present none = absurd (none-some (Rattle.rh_plan.specs.declared.outcome.Cause.TheVariants.Promise q) (sym none))

-- without a cause, each awaited promise is there
none_absent : (there : ℕ → Bool) (awaits : List ℕ) → first_absent awaits (map there awaits) ≡ None → AllByRecursion (λ q. there q ≡ true) awaits
none_absent there [] none = tt
none_absent there (q ∷ awaits) none =
    let (here, rest) = absent_step q awaits (there q) (map there awaits) none in
    (here, none_absent there awaits rest)

none_blamed : (g : Option ℕ) (opened : Bool) (awaits : List ℕ) (present : List Bool) → blamed g opened awaits present ≡ None → first_absent awaits present ≡ None
none_blamed None opened awaits present none = none
none_blamed (Some g) true awaits present none = none
none_blamed (Some g) false awaits present none = absurd (none-some (Rattle.rh_plan.specs.declared.outcome.Cause.TheVariants.Group g) (sym none))

-- the values of lower putters fit
abbrev ValuesFit : PlanData → List Strike → ℕ → Type 0
ValuesFit plan faults v = (q u : ℕ) (node : Node) (w : List ℕ) → u < v → putter_of plan.promises q ≡ Some u → slice_get plan.nodes u ≡ Some node → value_by q (row plan faults u node) ≡ Some w → length w ≡ slice_index (promise_lens plan.promises) q

some_value : (o : Option (List ℕ)) → is_some o ≡ true → (w : List ℕ) × (o ≡ Some w)
some_value None is = absurd (false≢true is)
some_value (Some w) is = (w, refl)

some_putter : (v : ℕ) (o : Option ℕ) → IsSomeAnd o (λ u. u < v) → (u : ℕ) × (o ≡ Some u) × (u < v)
some_putter v None h = absurd h
some_putter v (Some u) h = (u, refl, h)

abbrev IsFittingValue : PlanData → ℕ → Option (List ℕ) → Type 0
IsFittingValue plan q o = IsSomeAnd o (λ w. length w ≡ slice_index (promise_lens plan.promises) q)

value_fits : (plan : PlanData) (faults : List Strike) (v q : ℕ) → v ≤ length plan.nodes → ValuesFit plan faults v → IsSomeAnd (putter_of plan.promises q) (λ u. u < v) → is_some (value_in plan (results plan faults v) q) ≡ true → IsFittingValue plan q (value_in plan (results plan faults v) q)
value_fits plan faults v q inside fit awaited there =
    let (u, by, below) = some_putter v (putter_of plan.promises q) awaited in
    let (node, is) = node_there plan u (omega arith) in
    let (w, value) = some_value (value_in plan (results plan faults v) q) there in
    let len = fit q u node w below by is (sym (value_there plan faults v q u node by is below) ∙ value) in
    subst (IsFittingValue plan q) (sym value) len

values_present : (plan : PlanData) (faults : List Strike) (v : ℕ) → v ≤ length plan.nodes → ValuesFit plan faults v → (awaits : List ℕ) → AllByRecursion (λ q. IsSomeAnd (putter_of plan.promises q) (λ u. u < v)) awaits → AllByRecursion (λ q. is_some (value_in plan (results plan faults v) q) ≡ true) awaits → AllByRecursion (λ q. IsFittingValue plan q (value_in plan (results plan faults v) q)) awaits
values_present plan faults v inside fit [] awaited there = tt
values_present plan faults v inside fit (q ∷ awaits) awaited there =
    (value_fits plan faults v q inside fit awaited.0 there.0, values_present plan faults v inside fit awaits awaited.1 there.1)

input_len : (o : Option (List ℕ)) (len : ℕ) → IsSomeAnd o (λ w. length w ≡ len) → length (unwrap_or o []) ≡ len
input_len None len there = absurd there
input_len (Some w) len there = there

inputs_lens : (plan : PlanData) (faults : List Strike) (v : ℕ) (awaits : List ℕ) → AllByRecursion (λ q. IsFittingValue plan q (value_in plan (results plan faults v) q)) awaits → map length (inputs_in plan (results plan faults v) awaits) ≡ lens_at (promise_lens plan.promises) awaits
inputs_lens plan faults v [] fit = refl
inputs_lens plan faults v (q ∷ awaits) fit =
    ap (λ (n : ℕ). n ∷ map length (inputs_in plan (results plan faults v) awaits)) (input_len (value_in plan (results plan faults v) q) (slice_index (promise_lens plan.promises) q) fit.0)
    ∙ ap (λ (l : List ℕ). slice_index (promise_lens plan.promises) q ∷ l) (inputs_lens plan faults v awaits fit.1)

ready : (plan : PlanData) → IsLawfulPlan plan → (faults : List Strike) (v : ℕ) (node : Node) → slice_get plan.nodes v ≡ Some node → node.kind ≡ Task → ValuesFit plan faults v → cause_in plan (results plan faults v) node ≡ None → IsReady plan faults v node
ready plan lawful faults v node is kind fit none =
    let within = slice_get_within plan.nodes v node is in
    let one = lawful.parts.nodes v node is in
    let task = subst (IsLawfulKind (shapes_in plan) plan.promises node) kind one.kind in
    let absent = none_blamed node.group (group_opened (results plan faults v) node.group) node.awaits (present_in plan (results plan faults v) node.awaits) none in
    let there = none_absent (λ q. is_some (value_in plan (results plan faults v) q)) node.awaits absent in
    let present = values_present plan faults v (omega arith) fit node.awaits one.awaited there in
    let lens = inputs_lens plan faults v node.awaits present in
    record { present = present; lens = lens; sound = subst (λ (l : List ℕ). AreSoundSteps (shapes_in plan) (promise_lens plan.promises) l node.body) (sym lens) task.sound }

attempts_fit : (plan : PlanData) (faults : List Strike) (v : ℕ) (node : Node) (inputs : List (List ℕ)) → AreSoundSteps (shapes_in plan) (promise_lens plan.promises) (map length inputs) node.body → (ks : List ℕ) → AllByRecursion (λ (b : BufferData). PutsFit plan b.puts) (map (attempt_of plan faults v node inputs) ks)
attempts_fit plan faults v node inputs sound [] = tt
attempts_fit plan faults v node inputs sound (k ∷ ks) = (buffer_fits plan (faults_in faults v k) inputs node.body sound, attempts_fit plan faults v node inputs sound ks)

-- a corrected buffer fits where the one that was made does
correction_fits : (plan : PlanData) (node : Node) (inputs : List (List ℕ)) (x : BufferData) (c : ℕ × BufferData) → PutsFit plan x.puts → correction plan node inputs x ≡ Some c → PutsFit plan c.1.puts
correction_fits plan node inputs x c fit found =
    let replaced = correction_replaces plan node inputs x c found in
    subst (λ (b : BufferData). PutsFit plan b.puts) (sym replaced.is) (lengths_stay (promise_lens plan.promises) replaced.promise replaced.before replaced.after x.puts replaced.put replaced.long fit)

accepted_fits : (plan : PlanData) (q : ℕ) (w : List ℕ) (o : Option BufferData) → ((b : BufferData) → o ≡ Some b → PutsFit plan b.puts) → option_and_then (λ b. words_put q b.puts) o ≡ Some w → length w ≡ slice_index (promise_lens plan.promises) q
accepted_fits plan q w None fit is = absurd (none-some w is)
accepted_fits plan q w (Some b) fit is = words_fit plan b.puts q w (fit b refl) is

-- a task's value, by its verdict, fits where its accepted buffer does; no task ends as a scope
put_fits : (plan : PlanData) (q : ℕ) (w : List ℕ) (o : Option BufferData) (verdict : Verdict) → ((a f s : ℕ) → verdict ≡ Ended a f s → slice_index (promise_lens plan.promises) q ≡ 3) → ((b : BufferData) → o ≡ Some b → PutsFit plan b.puts) → value_put q o verdict ≡ Some w → length w ≡ slice_index (promise_lens plan.promises) q
put_fits plan q w o (Accepted k) three fit is = accepted_fits plan q w o fit is
put_fits plan q w o (Corrected i) three fit is = accepted_fits plan q w o fit is
put_fits plan q w o Failed three fit is = absurd (none-some w is)
put_fits plan q w o (Skipped c) three fit is = absurd (none-some w is)
put_fits plan q w o Opened three fit is = absurd (none-some w is)
put_fits plan q w o (Closed c) three fit is = absurd (none-some w is)
put_fits plan q w o (Ended a f s) three fit is = ap length (sym (same_Some (a ∷ f ∷ s ∷ []) w is)) ∙ sym (three a f s refl)

task_fits : (plan : PlanData) → IsLawfulPlan plan → (faults : List Strike) (v : ℕ) (node : Node) → slice_get plan.nodes v ≡ Some node → node.kind ≡ Task → ValuesFit plan faults v → (q : ℕ) (w : List ℕ) (c : Option Cause) → cause_in plan (results plan faults v) node ≡ c → value_by q (task_result plan faults (results plan faults v) v node c) ≡ Some w → length w ≡ slice_index (promise_lens plan.promises) q
task_fits plan lawful faults v node is kind fit q w (Some c) cause value = absurd (none-some w value)
task_fits plan lawful faults v node is kind fit q w None cause value =
    let inputs = inputs_in plan (results plan faults v) node.awaits in
    let failing = first_failing plan inputs node.checks in
    let made = attempts_made plan faults v node inputs in
    let all = attempts_fit plan faults v node inputs (ready plan lawful faults v node is kind fit cause).sound (range_with_len 0 (attempts_of node.scheme)) in
    put_fits plan q w (judged plan faults v node inputs).accepted (judged plan faults v node inputs).verdict
    (λ a f s ended. absurd (judged_not_ended failing (correction plan node inputs) made node.scheme a f s ended))
    (λ b at. accepted_holds (λ x. PutsFit plan x.puts) failing (correction plan node inputs) made node.scheme b all (λ x c here found. correction_fits plan node inputs x c here found) at)
    value

group_fits : (plan : PlanData) (q : ℕ) (w : List ℕ) (c : Option Cause) → value_by q (group_result c) ≡ Some w → length w ≡ slice_index (promise_lens plan.promises) q
group_fits plan q w None value = absurd (none-some w value)
group_fits plan q w (Some c) value = absurd (none-some w value)

-- a promise is among one where it is that one
among_one : (p q : ℕ) → IsAmong (p ∷ []) q → p ≡ q
among_one p q among = elim (or_cases (p == q) false among) [
  | inl same ↦ eqb-true p q same
  | inr other ↦ absurd (false≢true other)
]

scope_three : (plan : PlanData) → IsLawfulPlan plan → (v : ℕ) (node : Node) → slice_get plan.nodes v ≡ Some node → node.kind ≡ Scope → (q : ℕ) → putter_of plan.promises q ≡ Some v → slice_index (promise_lens plan.promises) q ≡ 3
scope_three plan lawful v node is kind q by =
    let scope = subst (IsLawfulKind (shapes_in plan) plan.promises node) kind (lawful.parts.nodes v node is).kind in
    let put = subst (λ (o : Option Node). IsSomeAnd o (λ n. IsAmong n.puts q)) is (lawful.parts.put q v by) in
    let (p, puts, three) = scope.own in
    let same = among_one p q (subst (λ (l : List ℕ). IsAmong l q) puts put) in
    ap (λ (k : ℕ). slice_index (promise_lens plan.promises) k) (sym same) ∙ three

kind_fits : (plan : PlanData) → IsLawfulPlan plan → (faults : List Strike) (v : ℕ) (node : Node) → slice_get plan.nodes v ≡ Some node → ValuesFit plan faults v → (q : ℕ) (w : List ℕ) → putter_of plan.promises q ≡ Some v → (k : Kind) → node.kind ≡ k → value_by q (result_by_kind plan faults (results plan faults v) v node k) ≡ Some w → length w ≡ slice_index (promise_lens plan.promises) q
kind_fits plan lawful faults v node is fit q w by Task kind value = task_fits plan lawful faults v node is kind fit q w (cause_in plan (results plan faults v) node) refl value
kind_fits plan lawful faults v node is fit q w by Group kind value = group_fits plan q w (cause_in plan (results plan faults v) node) value
kind_fits plan lawful faults v node is fit q w by Scope kind value = ap length (sym (same_Some _ w value)) ∙ sym (scope_three plan lawful v node is kind q by)

row_fits : (plan : PlanData) → IsLawfulPlan plan → (faults : List Strike) (v : ℕ) → ValuesFit plan faults v → (q : ℕ) (node : Node) (w : List ℕ) → putter_of plan.promises q ≡ Some v → slice_get plan.nodes v ≡ Some node → value_by q (row plan faults v node) ≡ Some w → length w ≡ slice_index (promise_lens plan.promises) q
unfolding result_of_node
row_fits plan lawful faults v fit q node w by is value = kind_fits plan lawful faults v node is fit q w by node.kind refl value

values_fit : (plan : PlanData) → IsLawfulPlan plan → (faults : List Strike) (n : ℕ) → ValuesFit plan faults n
values_fit plan lawful faults zero q u node w below by is value = absurd (omega arith)
values_fit plan lawful faults (suc n) q u node w below by is value = elim (cases_lt u n) [
  | inl earlier ↦ values_fit plan lawful faults n q u node w earlier by is value
  | inr last ↦
      let same : n ≡ u = omega arith in
      row_fits plan lawful faults u (subst (ValuesFit plan faults) same (values_fit plan lawful faults n)) q node w by is value
]

pub unskipped_tasks_are_ready : UnskippedTasksAreReady
unskipped_tasks_are_ready plan lawful faults v node is kind none = ready plan lawful faults v node is kind (values_fit plan lawful faults v) none
