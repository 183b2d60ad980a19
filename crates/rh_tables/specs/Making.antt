-- The reason of a line that uses locals, by the tables of its task.
use Rattle.std.specs.Prelude.{ℕ, ◌≡◌, ◌==◌, ◌||◌, List, Bool, Option, Some, None, map, not, ◌&&◌, cond, nat_lt, nat_le, is_some, slice_index}
use Rattle.std.specs.List.{list_any}
use Rattle.rh_words.specs.declared.limits.TheConstants.{MAX_PROMISE_WORDS, MAX_NODES, MAX_MATRICES}
use Rattle.rh_words.specs.declared.reason.Reason.{Reason}
use Rattle.rh_words.specs.declared.reason.Reason.TheVariants as reasons
use Rattle.rh_task_text.specs.declared.statement.Statement.{Statement}
use Rattle.rh_task_text.specs.declared.statement.SchemeText.{SchemeText}
use Rattle.rh_rules.specs.declared.node.PlannedPromise.{PlannedPromise}
use Rattle.rh_rules.specs.declared.shape.NamedShape.{NamedShape}
use Rattle.rh_tables.specs.declared.matrices.Named.{Named}
use Rattle.rh_rules.specs.Kept.{KeptCheck}
use Rattle.rh_rules.specs.Lawful.{has_product}
use Rattle.rh_rules.specs.Tables.{LocalName, if_any, is_among, is_in, place_of, is_local, number_of, is_promise, is_put, is_matrix}
use Rattle.rh_rules.specs.Facets.{facets}
use Rattle.rh_rules.specs.Rules.{are_distinct, is_among_first, is_bad_scheme, is_promise_over, may_check, is_corrected, asks_product}
use Rattle.rh_rules.specs.Above.{matrix_used, shape_used, lens_used, lens_read, made_len}
use Rattle.rh_rules.specs.Bodies.{promises_put}
use Rattle.rh_rules.specs.declared.body.Step.{Step}
use Rattle.rh_rules.specs.declared.node.Scheme.{Scheme}

-- the line names a matrix that is not there
abbrev pub names_no_matrix : List NamedShape → Statement → Bool
names_no_matrix ms s = if_any (λ a. not (is_matrix ms a)) (facets s).matrix

-- one of the locals that the line uses, or the matrix that it names, is not there
abbrev pub uses_unknown : List NamedShape → List LocalName → Statement → Bool
uses_unknown ms ls s = list_any (λ x. not (is_local ls x)) (facets s).used || names_no_matrix ms s

-- one of the locals that the line uses is dropped
abbrev pub uses_dropped : List LocalName → List ℕ → Statement → Bool
uses_dropped ls drops s = list_any (λ x. if_any (λ i. is_in i drops) (place_of x ls)) (facets s).used

-- of a `let` that makes x
abbrev pub let_reason : List NamedShape → List LocalName → List ℕ → List ℕ → Statement → Option Reason
let_reason ms ls drops x s =
    cond (is_local ls x) (Some reasons.Twice)
    (cond (uses_unknown ms ls s) (Some reasons.Unknown)
    (cond (not ((facets s).fits (shape_used ms s) (lens_used ls s))) (Some reasons.Length)
    (cond (uses_dropped ls drops s) (Some reasons.Dropped)
    (cond (nat_lt MAX_PROMISE_WORDS (made_len ms ls s)) (Some reasons.PlanLimit) None))))

-- of a `let` that uses this matrix and locals of these numbers and lengths
abbrev pub let_use_reason : Named → List ℕ → List ℕ → List ℕ → Statement → Option Reason
let_use_reason m numbers lens drops s =
    cond (not ((facets s).fits m.shape lens)) (Some reasons.Length)
    (cond (list_any (λ i. is_in i drops) numbers) (Some reasons.Dropped)
    (cond (nat_lt MAX_PROMISE_WORDS ((facets s).len m.shape lens)) (Some reasons.PlanLimit) None))

-- of a `put` of this promise, which is declared
abbrev pub put_reason : PlannedPromise → List NamedShape → List LocalName → List ℕ → Statement → Option Reason
put_reason p ms ls drops s =
    cond (uses_unknown ms ls s) (Some reasons.Unknown)
    (cond (p.scope || is_some p.putter) (Some reasons.Owner)
    (cond (not (slice_index (lens_used ls s) 0 == p.len) || not ((facets s).fits (shape_used ms s) (lens_used ls s))) (Some reasons.Length)
    (cond (uses_dropped ls drops s) (Some reasons.Dropped) None)))

-- of what awaits these
abbrev pub await_reason : List PlannedPromise → List (List ℕ) → Option Reason
await_reason promises awaits =
    cond (list_any (λ q. not (is_promise promises q)) awaits) (Some reasons.Unknown)
    (cond (list_any (λ q. not (is_put promises q)) awaits) (Some reasons.Order) None)

-- of a node of this scheme below so many nodes
abbrev pub node_reason : ℕ → SchemeText → Option Reason
node_reason count scheme = cond (is_bad_scheme scheme) (Some reasons.Scheme) (cond (nat_le MAX_NODES count) (Some reasons.PlanLimit) None)

-- of a `put` that uses this matrix and locals of these numbers and lengths
abbrev pub put_use_reason : PlannedPromise → Named → List ℕ → List ℕ → List ℕ → Statement → Option Reason
put_use_reason p m numbers lens drops s =
    cond (p.scope || is_some p.putter) (Some reasons.Owner)
    (cond (not (slice_index lens 0 == p.len) || not ((facets s).fits m.shape lens)) (Some reasons.Length)
    (cond (list_any (λ i. is_in i drops) numbers) (Some reasons.Dropped) None))

-- of a task of this name and scheme, or of a group as if it were plain, that awaits these, below so many nodes
abbrev pub start_reason : List (List ℕ) → List PlannedPromise → ℕ → List ℕ → SchemeText → List (List ℕ) → Option Reason
start_reason names promises count name scheme awaits =
    cond (is_among name names || not (are_distinct awaits)) (Some reasons.Twice)
    (cond (list_any (λ q. not (is_promise promises q)) awaits) (Some reasons.Unknown)
    (cond (list_any (λ q. not (is_put promises q)) awaits) (Some reasons.Order)
    (cond (is_bad_scheme scheme) (Some reasons.Scheme)
    (cond (nat_le MAX_NODES count) (Some reasons.PlanLimit) None))))

-- one of the awaits that a check reads is none of so many first locals, or is dropped
abbrev pub reads_unknown : ℕ → List LocalName → Statement → Bool
reads_unknown n ls s = list_any (λ q. not (is_among_first n ls q)) (facets s).inputs

abbrev pub reads_dropped : List LocalName → List ℕ → Statement → Bool
reads_dropped ls drops s = list_any (λ q. if_any (λ i. is_in i drops) (place_of q ls)) (facets s).inputs

-- the numbers of the awaits that a check reads
abbrev pub numbers_read : List LocalName → Statement → List ℕ
numbers_read ls s = map (number_of ls) (facets s).inputs

-- of a check of the promise of this number and length in a task of these steps, this scheme and these checks that awaits so many promises
abbrev pub check_reason : ℕ → ℕ → List Step → Scheme → List KeptCheck → ℕ → List NamedShape → List LocalName → List ℕ → Statement → Option Reason
check_reason number len body scheme checks n ms ls drops s =
    cond (not (is_in number (promises_put body)) || (reads_unknown n ls s || names_no_matrix ms s)) (Some reasons.Unknown)
    (cond (not ((facets s).suits (shape_used ms s) len (lens_read ls s))) (Some reasons.Length)
    (cond (not (may_check scheme) || asks_product s && (is_corrected scheme && has_product checks)) (Some reasons.Scheme)
    (cond (reads_dropped ls drops s) (Some reasons.Dropped) None)))

-- of a check of a promise of this length that reads this matrix and awaits of these numbers and lengths
abbrev pub check_use_reason : ℕ → Scheme → List KeptCheck → Named → List ℕ → List ℕ → List ℕ → Statement → Option Reason
check_use_reason len scheme checks m numbers lens drops s =
    cond (not ((facets s).suits m.shape len lens)) (Some reasons.Length)
    (cond (not (may_check scheme) || asks_product s && (is_corrected scheme && has_product checks)) (Some reasons.Scheme)
    (cond (list_any (λ i. is_in i drops) numbers) (Some reasons.Dropped) None))

-- of a promise below these names and promises
abbrev pub promise_reason : List (List ℕ) → List PlannedPromise → PlannedPromise → Option Reason
promise_reason names promises p = cond (is_among p.name names) (Some reasons.Twice) (cond (is_promise_over promises p) (Some reasons.PlanLimit) None)

-- of a matrix of this name below so many matrices
abbrev pub matrix_reason : List (List ℕ) → ℕ → List ℕ → Option Reason
matrix_reason names count name = cond (is_among name names) (Some reasons.Twice) (cond (nat_le MAX_MATRICES count) (Some reasons.PlanLimit) None)

-- this is the number and the shape of the matrix that the line names, where it names one
pub record IsNamed (ms : List NamedShape) (s : Statement) (m : Named) : Type 0 where
  pub number : m.number ≡ matrix_used ms s
  pub shape : m.shape ≡ shape_used ms s
