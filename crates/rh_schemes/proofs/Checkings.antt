-- The checks of a lawful plan can be made and their words restored, and the kept specs are those of the handed-in checks.
use Rattle.std.proofs.Common.{◌≡◌, true, ℕ, zero, suc, ◌*◌, ◌<◌, ◌≤◌, List, [], ◌∷◌, not, Option, Some, None, length, map, take, refl, arith, ap, sym, ◌∙◌, subst, inl, inr}
use Rattle.std.proofs.lemmas.Bool.{false≢true, cases_lt}
use Rattle.std.proofs.lemmas.List.{length-map}
use Rattle.std.proofs.lemmas.Option.{same_Some, slice_get_past}
use Rattle.std.specs.List.{AllByRecursion, slice_get, slice_index, slice_index_or}
use Rattle.std.specs.Option.{IsSomeAnd, is_some}
use Rattle.rh_check.specs.declared.spec.Spec.{Spec}
use Rattle.rh_check.specs.declared.spec.Spec.TheVariants.{Range, Total, Linear, Conserve, Conserve2, Product, User}
use Rattle.rh_check.specs.declared.spec.UserSpec.{UserSpec}
use Rattle.rh_check.specs.Checks.{spec_passes}
use Rattle.rh_check.specs.Users.{user_named}
use Rattle.rh_check.specs.Fitting.{FitsInputs, FitsLine, FitsHalos}
use Rattle.rh_rules.specs.declared.node.Node.{Node}
use Rattle.rh_rules.specs.Kept.{KeptCheck, planned_check, planned_checks}
use Rattle.rh_sparse.specs.Matrix.{MatrixData}
use Rattle.rh_check.specs.Matrices.{FitsMatrix}
use Rattle.rh_injector.specs.declared.faults.Strike.{Strike}
use Rattle.rh_injector.specs.Faults.{faults_in}
use Rattle.rh_plan.specs.Plans.{PlanData, shapes_in}
use Rattle.rh_plan.specs.Lawful.{IsLawfulPlan}
use Rattle.rh_rules.specs.Lawful.{is_product, promise_lens, input_lens, IsLawfulKind, IsLawfulTask, IsLawfulCheck, IsFittingSpec}
use Rattle.rh_rules.specs.Bodies.{HasWords, AreHalos, shapes_of, AreSoundSteps}
use Rattle.rh_plan.specs.Asked.{IsTaskOn}
use Rattle.rh_plan.specs.Users.{AreChecksOf}
use Rattle.rh_plan.specs.Buffers.{BufferData, words_put, PutsFit}
use Rattle.rh_plan.proofs.Fitting.{buffer_fits, words_fit}
use Rattle.rh_attempt.specs.Attempting.{IsAttemptAt}
use Rattle.rh_schemes.specs.Correcting.{CanBeRestored}
use Rattle.rh_plan.specs.Checking.{passes_where_put, check_passes, first_failing}
use Rattle.rh_schemes.specs.Checking.{CanBeMade, planned_passes, first_planned, IsFirstFailingAt}
use Rattle.rh_schemes.proofs.Firsts.{position-map}

input_len : (inputs : List (List ℕ)) (x : ℕ) → x < length inputs → length (slice_index_or inputs x []) ≡ slice_index (map length inputs) x
input_len [] x within = absurd (omega arith)
input_len (words ∷ inputs) zero within = refl
input_len (words ∷ inputs) (suc x) within = input_len inputs x (omega arith)

shape_held : (matrices : List MatrixData) (matrix columns rows : ℕ) → IsSomeAnd (slice_get (shapes_of matrices) matrix) (λ s. (columns ≡ s.cols) × (rows ≡ s.rows)) → IsSomeAnd (slice_get matrices matrix) (λ a. (columns ≡ a.cols) × (rows ≡ length a.rows))
shape_held [] matrix columns rows held = held
shape_held (a ∷ matrices) zero columns rows held = held
shape_held (a ∷ matrices) (suc matrix) columns rows held = shape_held matrices matrix columns rows held

matrix_fits : (o : Option MatrixData) (inputs : List (List ℕ)) (x : ℕ) (words : List ℕ) → x < length inputs → IsSomeAnd o (λ a. (slice_index (map length inputs) x ≡ a.cols) × (length words ≡ length a.rows)) → IsSomeAnd o (λ a. FitsMatrix a inputs x words)
matrix_fits None inputs x words there held = held
matrix_fits (Some a) inputs x words there held = record { there = there; columns = input_len inputs x there ∙ held.0; rows = held.1 }

-- what a check of a product reads has the lengths of its matrix
product_fits : (matrices : List MatrixData) (inputs : List (List ℕ)) (words : List ℕ) (u : Option UserSpec) (matrix x : ℕ) → IsFittingSpec (shapes_of matrices) (map length inputs) (length words) u (Product matrix x) → IsSomeAnd (slice_get matrices matrix) (λ a. FitsMatrix a inputs x words)
product_fits matrices inputs words u matrix x fits =
    let there : x < length inputs = subst (λ (n : ℕ). x < n) (length-map inputs length) fits.0 in
    matrix_fits (slice_get matrices matrix) inputs x words there (shape_held matrices matrix (slice_index (map length inputs) x) (length words) fits.1)

within : (inputs : List (List ℕ)) (x : ℕ) → x < length (map length inputs) → x < length inputs
within inputs x there = subst (λ (n : ℕ). x < n) (length-map inputs length) there

some_words : (inputs : List (List ℕ)) (x : ℕ) → HasWords (map length inputs) x → 0 < length (slice_index_or inputs x [])
some_words inputs x has = subst (λ (n : ℕ). 0 < n) (sym (input_len inputs x (within inputs x has.0))) has.1

-- what the check of a step of a line reads has words, and as many are put as the line has
line_fits : (inputs : List (List ℕ)) (words : List ℕ) (l m r s : ℕ)
    → HasWords (map length inputs) l × HasWords (map length inputs) m × HasWords (map length inputs) r × (s ≤ 63) × (length words ≡ slice_index (map length inputs) m)
    → FitsLine inputs words l m r s
line_fits inputs words l m r s fits = record {
  there = (within inputs l fits.0.0, within inputs m fits.1.0, within inputs r fits.2.0);
  left = some_words inputs l fits.0;
  line = some_words inputs m fits.1;
  right = some_words inputs r fits.2;
  same = fits.4 ∙ sym (input_len inputs m (within inputs m fits.1.0));
  shift = fits.3;
}

-- what the check of a step of a grid reads are the grid and its halos, and as many words are put
halos_fit : (inputs : List (List ℕ)) (words : List ℕ) (north south west east m cols s : ℕ) → AreHalos (map length inputs) north south west east m cols → s ≤ 63 → length words ≡ slice_index (map length inputs) m
    → FitsHalos inputs words north south west east m cols s
halos_fit inputs words north south west east m cols s halos shift same =
    let len = λ (x : ℕ) (there : x < length (map length inputs)). input_len inputs x (within inputs x there) in
    let is_north = len north halos.there.0 in
    let is_south = len south halos.there.1 in
    let is_west = len west halos.there.2 in
    let is_east = len east halos.there.3 in
    let is_m = len m halos.there.4 in
    record {
      there = (within inputs north halos.there.0, within inputs south halos.there.1, within inputs west halos.there.2, within inputs east halos.there.3);
      grid_there = within inputs m halos.there.4;
      grid = record {
        columns = halos.columns;
        rows = subst (λ (n : ℕ). 0 < n) (sym is_west) halos.rows;
        north_len = is_north ∙ halos.north_len;
        south_len = is_south ∙ halos.south_len;
        east_len = is_east ∙ halos.east_len ∙ sym is_west;
        whole = is_m ∙ halos.whole ∙ ap (λ (n : ℕ). n * cols) (sym is_west);
      };
      same = same ∙ sym is_m;
      shift = shift;
    }

fits_spec : (matrices : List MatrixData) (inputs : List (List ℕ)) (words : List ℕ) (users : List UserSpec) (u : Option UserSpec) (s : Spec) → IsFittingSpec (shapes_of matrices) (map length inputs) (length words) u s → u ≡ user_named users s → FitsInputs matrices inputs words users s
fits_spec matrices inputs words users u (Range lo hi) fits kept = fits
fits_spec matrices inputs words users u (Total sum) fits kept = fits
fits_spec matrices inputs words users u (Linear base terms count) fits kept = subst (λ (n : ℕ). (count ≤ 16) × AllByRecursion (λ t. t.input < n) (take count terms)) (length-map inputs length) fits
fits_spec matrices inputs words users u (Conserve l m r k s) fits kept = line_fits inputs words l m r s fits
fits_spec matrices inputs words users u (Conserve2 north south west east m cols k s) fits kept = halos_fit inputs words north south west east m cols s fits.0 fits.1 fits.2
fits_spec matrices inputs words users u (Product matrix x) fits kept = product_fits matrices inputs words u matrix x fits
fits_spec matrices inputs words users u (User at) fits kept = elim (cases_lt at (length users)) [
  | inl within ↦ within
  | inr past ↦ absurd (false≢true (sym (ap is_some (kept ∙ slice_get_past users at past)) ∙ fits))
]

-- a check of a product names no handed-in check
product_made : (matrices : List MatrixData) (inputs : List (List ℕ)) (words : List ℕ) (u : Option UserSpec) (s : Spec) → is_product s ≡ true → IsFittingSpec (shapes_of matrices) (map length inputs) (length words) u s → FitsInputs matrices inputs words [] s
product_made matrices inputs words u (Range lo hi) is fits = absurd (false≢true is)
product_made matrices inputs words u (Total sum) is fits = absurd (false≢true is)
product_made matrices inputs words u (Linear base terms count) is fits = absurd (false≢true is)
product_made matrices inputs words u (Conserve l m r k s) is fits = absurd (false≢true is)
product_made matrices inputs words u (Conserve2 north south west east m cols k s) is fits = absurd (false≢true is)
product_made matrices inputs words u (Product matrix x) is fits = product_fits matrices inputs words u matrix x fits
product_made matrices inputs words u (User at) is fits = absurd (false≢true is)

-- a lawful check fits the awaited words and what a fitting buffer puts
check_fits : (plan : PlanData) (node : Node) (inputs : List (List ℕ)) (buffer : BufferData) (c : KeptCheck) (words : List ℕ) → PutsFit plan buffer.puts → map length inputs ≡ input_lens plan.promises node → IsLawfulCheck (shapes_in plan) plan.promises node c → words_put c.promise buffer.puts ≡ Some words → IsFittingSpec (shapes_in plan) (map length inputs) (length words) c.user c.spec
check_fits plan node inputs buffer c words fit lens lawful put =
    let by_put = subst (λ (n : ℕ). IsFittingSpec (shapes_in plan) (input_lens plan.promises node) n c.user c.spec) (sym (words_fit plan buffer.puts c.promise words fit put)) lawful.fits in
    subst (λ (l : List ℕ). IsFittingSpec (shapes_in plan) l (length words) c.user c.spec) (sym lens) by_put

fits_all : (plan : PlanData) (node : Node) (inputs : List (List ℕ)) (users : List UserSpec) (buffer : BufferData) (checks : List KeptCheck) → PutsFit plan buffer.puts → map length inputs ≡ input_lens plan.promises node → AllByRecursion (IsLawfulCheck (shapes_in plan) plan.promises node) checks → AllByRecursion (λ c. c.user ≡ user_named users c.spec) checks → AllByRecursion (CanBeMade plan.matrices users inputs buffer) (planned_checks checks)
fits_all plan node inputs users buffer [] fit lens lawful kept = tt
fits_all plan node inputs users buffer (c ∷ checks) fit lens lawful kept =
    (λ words is. fits_spec plan.matrices inputs words users c.user c.spec (check_fits plan node inputs buffer c words fit lens lawful.0 is) kept.0, fits_all plan node inputs users buffer checks fit lens lawful.1 kept.1)

restore_all : (plan : PlanData) (node : Node) (inputs : List (List ℕ)) (buffer : BufferData) (checks : List KeptCheck) → PutsFit plan buffer.puts → map length inputs ≡ input_lens plan.promises node → AllByRecursion (IsLawfulCheck (shapes_in plan) plan.promises node) checks → AllByRecursion (CanBeRestored plan.matrices inputs buffer) (planned_checks checks)
restore_all plan node inputs buffer [] fit lens lawful = tt
restore_all plan node inputs buffer (c ∷ checks) fit lens lawful =
    (λ product words put. product_made plan.matrices inputs words c.user c.spec product (check_fits plan node inputs buffer c words fit lens lawful.0 put), restore_all plan node inputs buffer checks fit lens lawful.1)

-- what a task has by its kind
pub task_here : (plan : PlanData) (v : ℕ) (inputs : List (List ℕ)) → IsLawfulPlan plan → (task : IsTaskOn plan v inputs) → IsLawfulTask (shapes_in plan) plan.promises task.node
task_here plan v inputs lawful task = subst (IsLawfulKind (shapes_in plan) plan.promises task.node) task.kind (lawful.parts.nodes v task.node task.there).kind

pub checks_fit : (plan : PlanData) (v : ℕ) (inputs : List (List ℕ)) (users : List UserSpec) (buffer : BufferData) → IsLawfulPlan plan → (task : IsTaskOn plan v inputs) → PutsFit plan buffer.puts → AreChecksOf plan users → AllByRecursion (CanBeMade plan.matrices users inputs buffer) (planned_checks task.node.checks)
checks_fit plan v inputs users buffer lawful task fit kept = fits_all plan task.node inputs users buffer task.node.checks fit task.lens (task_here plan v inputs lawful task).checks (kept v task.node task.there)

pub checks_restore : (plan : PlanData) (v : ℕ) (inputs : List (List ℕ)) (buffer : BufferData) → IsLawfulPlan plan → (task : IsTaskOn plan v inputs) → PutsFit plan buffer.puts → AllByRecursion (CanBeRestored plan.matrices inputs buffer) (planned_checks task.node.checks)
checks_restore plan v inputs buffer lawful task fit = restore_all plan task.node inputs buffer task.node.checks fit task.lens (task_here plan v inputs lawful task).checks

-- what an attempt puts fits
pub attempt_fits : (plan : PlanData) (faults : List Strike) (v k : ℕ) (inputs : List (List ℕ)) (b : BufferData) → IsLawfulPlan plan → IsTaskOn plan v inputs → IsAttemptAt plan faults v inputs k b → PutsFit plan b.puts
attempt_fits plan faults v k inputs b lawful task is =
    let sound = subst (λ (l : List ℕ). AreSoundSteps (shapes_in plan) (promise_lens plan.promises) l task.node.body) (sym task.lens) (task_here plan v inputs lawful task).sound in
    subst (λ (x : BufferData). PutsFit plan x.puts) (sym (is task.node task.there)) (buffer_fits plan (faults_in faults v k) inputs task.node.body sound)

pub checks_few : (plan : PlanData) (v : ℕ) (node : Node) → IsLawfulPlan plan → slice_get plan.nodes v ≡ Some node → length (planned_checks node.checks) ≤ 16
checks_few plan v node lawful at =
    let few = (lawful.parts.nodes v node at).few_checks in
    let long = length-map node.checks planned_check in
    omega arith

kept_same : (plan : PlanData) (users : List UserSpec) (inputs : List (List ℕ)) (buffer : BufferData) (checks : List KeptCheck) → AllByRecursion (λ c. c.user ≡ user_named users c.spec) checks → AllByRecursion (λ c. not (planned_passes plan.matrices users inputs buffer (planned_check c)) ≡ not (check_passes plan inputs buffer c)) checks
kept_same plan users inputs buffer [] kept = tt
kept_same plan users inputs buffer (c ∷ checks) kept =
    (ap (λ (u : Option UserSpec). not (passes_where_put (spec_passes u plan.matrices inputs c.spec) (words_put c.promise buffer.puts))) (sym kept.0), kept_same plan users inputs buffer checks kept.1)

pub first_kept : (plan : PlanData) (v : ℕ) (node : Node) (users : List UserSpec) (inputs : List (List ℕ)) (buffer : BufferData) → slice_get plan.nodes v ≡ Some node → AreChecksOf plan users → IsFirstFailingAt plan v inputs buffer (first_planned plan.matrices users inputs buffer (planned_checks node.checks))
unfolding first_failing
first_kept plan v node users inputs buffer at kept other there =
    let same : node ≡ other = same_Some node other (sym at ∙ there) in
    let first = position-map (λ c. not (planned_passes plan.matrices users inputs buffer c)) (λ c. not (check_passes plan inputs buffer c)) planned_check node.checks (kept_same plan users inputs buffer node.checks (kept v node at)) in
    first ∙ ap (λ (n : Node). first_failing plan inputs n.checks buffer) same
