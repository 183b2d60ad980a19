-- Attempts that no fault names, and how many differ from the fault-free one.
use Rattle.std.proofs.Common.{◌≡◌, ℕ, ◌+◌, ◌<◌, ◌≤◌, ◌==◌, ◌&&◌, List, [], ◌∷◌, true, false, not, Some, length, map, refl, arith, ap, sym, ◌∙◌, subst, inl, inr}
use Rattle.std.proofs.lemmas.Bool.{false≢true, cases_Bool, or_parts, or_from, and_left}
use Rattle.std.proofs.lemmas.List.FromFn.{length-range_with_len}
use Rattle.std.proofs.lemmas.List.{length-map}
use Rattle.std.specs.List.{filter, slice_get, range_with_len}
use Rattle.rh_injector.specs.declared.faults.Strike.{Strike}
use Rattle.rh_rules.specs.declared.node.Node.{Node}
use Rattle.rh_plan.specs.Plans.{PlanData}
use Rattle.rh_injector.specs.Faults.{names_task, names_attempt}
use Rattle.rh_plan.specs.Buffers.{BufferData, buffer_of}
use Rattle.rh_plan.specs.Judging.{are_same, attempts_of}
use Rattle.rh_plan.specs.Attempts.{attempt_of, attempts_made}
use Rattle.rh_plan.specs.Budgets.{attempts_named}
use Rattle.rh_plan.proofs.Lists.{filter_none, filter_fewer, length-filter-map, slice_get_map, slice_get_range}
use Rattle.rh_plan.proofs.Sameness.{buffer_itself}

-- a task that no fault names has no attempt that one names
pub unnamed_task : (faults : List Strike) (v k : ℕ) → names_task faults v ≡ false → names_attempt faults v k ≡ false
unnamed_task [] v k none = refl
unnamed_task (s ∷ faults) v k none =
    let (here, rest) = or_parts (s.node == v) (names_task faults v) none in
    or_from (s.node == v && s.attempt == k) (names_attempt faults v k) (and_left (s.node == v) (s.attempt == k) here) (unnamed_task faults v k rest)

-- an attempt that no fault names has the fault-free buffer
pub unnamed_attempt : (plan : PlanData) (faults : List Strike) (v : ℕ) (node : Node) (inputs : List (List ℕ)) (k : ℕ) → names_attempt faults v k ≡ false → attempt_of plan faults v node inputs k ≡ buffer_of plan [] inputs node.body
unnamed_attempt plan faults v node inputs k none =
    ap (λ (f : List Strike). buffer_of plan f inputs node.body) (filter_none (λ s. s.node == v && s.attempt == k) faults none)

pub length-attempts_made : (plan : PlanData) (faults : List Strike) (v : ℕ) (node : Node) (inputs : List (List ℕ)) → length (attempts_made plan faults v node inputs) ≡ attempts_of node.scheme
length-attempts_made plan faults v node inputs =
    length-map (range_with_len 0 (attempts_of node.scheme)) (attempt_of plan faults v node inputs) ∙ length-range_with_len 0 (attempts_of node.scheme)

pub attempt_at : (plan : PlanData) (faults : List Strike) (v : ℕ) (node : Node) (inputs : List (List ℕ)) (k : ℕ) → k < attempts_of node.scheme → slice_get (attempts_made plan faults v node inputs) k ≡ Some (attempt_of plan faults v node inputs k)
attempt_at plan faults v node inputs k below =
    slice_get_map (attempt_of plan faults v node inputs) (range_with_len 0 (attempts_of node.scheme)) k (0 + k) (slice_get_range 0 (attempts_of node.scheme) k below)
    ∙ ap (λ (i : ℕ). Some (attempt_of plan faults v node inputs i)) (omega arith)

-- without faults in the task, its attempts are those of the run without faults
pub attempts_unnamed : (plan : PlanData) (faults : List Strike) (v : ℕ) (node : Node) (inputs : List (List ℕ)) (ks : List ℕ) → names_task faults v ≡ false → map (attempt_of plan faults v node inputs) ks ≡ map (attempt_of plan [] v node inputs) ks
attempts_unnamed plan faults v node inputs [] none = refl
attempts_unnamed plan faults v node inputs (k ∷ ks) none =
    ap (λ (b : BufferData). b ∷ map (attempt_of plan faults v node inputs) ks) (unnamed_attempt plan faults v node inputs k (unnamed_task faults v k none))
    ∙ ap (λ (l : List BufferData). attempt_of plan [] v node inputs k ∷ l) (attempts_unnamed plan faults v node inputs ks none)

-- an attempt whose buffer differs from the fault-free one is named by a fault
differing_named : (plan : PlanData) (faults : List Strike) (v : ℕ) (node : Node) (inputs : List (List ℕ)) (k : ℕ) → not (are_same (buffer_of plan [] inputs node.body) (attempt_of plan faults v node inputs k)) ≡ true → names_attempt faults v k ≡ true
differing_named plan faults v node inputs k differs = elim (cases_Bool (names_attempt faults v k)) [
  | inl named ↦ named
  | inr none ↦
      let clean = buffer_of plan [] inputs node.body in
      let same : are_same clean (attempt_of plan faults v node inputs k) ≡ true = subst (λ (b : BufferData). are_same clean b ≡ true) (sym (unnamed_attempt plan faults v node inputs k none)) (buffer_itself clean) in
      absurd (false≢true (sym (ap not same) ∙ differs))
]

pub differing_few : (plan : PlanData) (faults : List Strike) (v : ℕ) (node : Node) (inputs : List (List ℕ)) → length (filter (λ b. not (are_same (buffer_of plan [] inputs node.body) b)) (attempts_made plan faults v node inputs)) ≤ attempts_named faults v (attempts_of node.scheme)
differing_few plan faults v node inputs =
    let ks = range_with_len 0 (attempts_of node.scheme) in
    let differs = λ (b : BufferData). not (are_same (buffer_of plan [] inputs node.body) b) in
    let mapped = length-filter-map differs (attempt_of plan faults v node inputs) ks in
    let fewer = filter_fewer (λ k. differs (attempt_of plan faults v node inputs k)) (names_attempt faults v) ks (differing_named plan faults v node inputs) in
    omega arith
