-- The rules of planning, each said once over all forms, and the reason of a line that breaks one.
use Rattle.std.specs.Prelude.{ℕ, ◌≡◌, ◌+◌, ◌==◌, List, [], ◌∷◌, Bool, true, false, Option, Some, None, length, not, ◌&&◌, ◌||◌, nat_le, nat_lt, cond, slice_index, is_some, ⊤}
use Rattle.std.specs.List.{list_any}
use Rattle.rh_words.specs.declared.limits.TheConstants.{MAX_NODES, MAX_PROMISES, MAX_PROMISE_WORDS, MAX_TOTAL_WORDS, MAX_SHOWN_WORDS, MAX_MATRICES, MAX_REPLAYS}
use Rattle.rh_words.specs.declared.reason.Reason.{Reason}
use Rattle.rh_words.specs.declared.reason.Reason.TheVariants as reasons
use Rattle.rh_task_text.specs.declared.statement.Statement.{Statement}
use Rattle.rh_task_text.specs.declared.statement.Statement.TheVariants as text
use Rattle.rh_task_text.specs.declared.statement.SchemeText.{SchemeText}
use Rattle.rh_task_text.specs.declared.statement.SchemeText.TheVariants.{Plain, Replicate, Replay, Abft}
use Rattle.rh_check.specs.Users.{HandedChecks, user_place}
use Rattle.rh_rules.specs.declared.node.PlannedPromise.{PlannedPromise}
use Rattle.rh_rules.specs.declared.node.Scheme.{Scheme}
use Rattle.rh_rules.specs.declared.node.Scheme.TheVariants as schemes
use Rattle.rh_rules.specs.Tables.{LocalName, if_any, is_among, is_in, place_of, is_local, is_promise, promise_number, promise_len, is_put, is_own, is_matrix}
use Rattle.rh_rules.specs.Facets.{OpensMatrix, OpensTask, OpensScope, OpensGroup, ClosesBlock, WithinBlock, block_line, Turn, Opens, Closes, Stays, turn, facets}
use Rattle.rh_rules.specs.Bodies.{promises_put}
use Rattle.rh_rules.specs.declared.block.OpenBlock.{OpenBlock}
use Rattle.rh_rules.specs.declared.block.OpenBlock.TheVariants.{TaskBlock, MatrixBlock, GroupBlock, ScopeBlock}
use Rattle.rh_rules.specs.Lawful.{is_product, has_product}
use Rattle.rh_rules.specs.Above.{Look, seen, Facts, facts_above, words_in, shown_in, shape_used, lens_used, lens_read, made_len}

-- no name stands twice
abbrev pub are_distinct : List (List ℕ) → Bool
are_distinct [] = true
are_distinct (name ∷ names) = not (is_among name names) && are_distinct names

-- the name is that of one of so many first locals
abbrev pub is_among_first : ℕ → List LocalName → List ℕ → Bool
is_among_first n locals q = if_any (λ i. nat_lt i n) (place_of q locals)

-- the open task awaits the promise: its first locals are its awaits
abbrev pub is_await : Facts → List ℕ → Bool
is_await f q = is_among_first (length f.inputs) f.locals q

-- the open task drops the local above
abbrev pub is_dropped : Facts → List ℕ → Bool
is_dropped f x = if_any (λ i. is_in i f.drops) (place_of x f.locals)

-- the open task puts the promise above
abbrev pub is_put_here : Facts → List ℕ → Bool
is_put_here f q = is_promise f.promises q && is_in (promise_number f.promises q) (promises_put f.steps)

-- Twice: a name is declared above, an await list has a name twice, or a `let` makes a local that is there.
abbrev pub is_twice : Facts → Statement → Bool
is_twice f s =
    if_any (λ name. is_among name f.names) (facets s).declared
    || not (are_distinct (facets s).awaited)
    || if_any (is_local f.locals) (facets s).made

-- Unknown: a name is nothing that may stand in its place.
abbrev pub is_unknown : Look → Facts → Statement → Bool
is_unknown look f s =
    list_any (λ q. not (is_promise (seen look f.promises) q)) (facets s).awaited
    || if_any (λ q. not (is_promise f.promises q)) (facets s).put_to
    || if_any (λ q. not (is_put_here f q)) (facets s).checked
    || list_any (λ q. not (is_await f q)) (facets s).inputs
    || list_any (λ x. not (is_local f.locals x)) (facets s).used
    || if_any (λ a. not (is_matrix f.matrices a)) (facets s).matrix

-- Order: an awaited promise is not put.
abbrev pub is_early : Look → Facts → Statement → Bool
is_early look f s = list_any (λ q. not (is_put (seen look f.promises) q)) (facets s).awaited

-- Owner: it puts a scope's own promise, or one that is put above.
abbrev pub is_owned : Facts → Statement → Bool
is_owned f s = if_any (λ q. is_own f.promises q || is_put f.promises q) (facets s).put_to

-- Length: the lengths of what a check judges and reads do not fit, or what is put is not as long as its promise, or the lengths of the
-- locals that the line uses do not fit; the shape of the matrix that it names is a part of what they must fit.
abbrev pub is_misfit : Facts → Statement → Bool
is_misfit f s =
    if_any (λ q. not ((facets s).suits (shape_used f.matrices s) (promise_len f.promises q) (lens_read f.locals s))) (facets s).checked
    || (if_any (λ q. not (slice_index (lens_used f.locals s) 0 == promise_len f.promises q)) (facets s).put_to
    || not ((facets s).fits (shape_used f.matrices s) (lens_used f.locals s)))

-- the number of attempts is none that a task may have
abbrev pub is_bad_scheme : SchemeText → Bool
is_bad_scheme (Replay limit) = limit == 0 || nat_lt MAX_REPLAYS limit
is_bad_scheme Plain = false
is_bad_scheme Replicate = false
is_bad_scheme Abft = false

-- a task of this scheme has checks
abbrev pub may_check : Scheme → Bool
may_check (schemes.Replay limit) = true
may_check schemes.Abft = true
may_check schemes.Plain = false
may_check schemes.Replicate = false

-- a task of this scheme has its product corrected
abbrev pub is_corrected : Scheme → Bool
is_corrected schemes.Abft = true
is_corrected schemes.Plain = false
is_corrected schemes.Replicate = false
is_corrected (schemes.Replay limit) = false

-- the line is a check of a product
abbrev pub asks_product : Statement → Bool
asks_product s = is_product ((facets s).spec 0 0 [])

abbrev pub is_closing : Turn → Bool
is_closing Opens = false
is_closing Closes = true
is_closing Stays = false

-- a second check of a product in a task with correction
abbrev pub is_second_product : Facts → Statement → Bool
is_second_product f s = asks_product s && (is_corrected f.scheme && has_product f.checks)

-- the end of a task with correction that has no check of a product
abbrev pub ends_uncorrected : Facts → Statement → Bool
ends_uncorrected f s = is_closing (turn s) && (is_corrected f.scheme && not (has_product f.checks))

-- Scheme: the scheme of a task is none, or has no checks, or does not have one check of a product where it corrects one.
abbrev pub is_misschemed : Facts → Statement → Bool
is_misschemed f s = if_any is_bad_scheme (facets s).scheme || (if_any (λ q. not (may_check f.scheme)) (facets s).checked || (is_second_product f s || ends_uncorrected f s))

-- Dropped: it drops what is no await or is dropped above, or it uses or reads what is dropped above.
abbrev pub is_after_drop : Facts → Statement → Bool
is_after_drop f s =
    if_any (λ q. not (is_await f q) || is_dropped f q) (facets s).dropped
    || list_any (is_dropped f) (facets s).inputs
    || list_any (is_dropped f) (facets s).used

-- the innermost open block is a scope
abbrev pub is_in_scope : List OpenBlock → Bool
is_in_scope [] = false
is_in_scope (TaskBlock name ∷ outer) = false
is_in_scope (ScopeBlock name first ∷ outer) = true
is_in_scope (GroupBlock number ∷ outer) = false
is_in_scope (MatrixBlock ∷ outer) = false

-- the line is that of a node: the opening line of a task or a group, the `end` of a scope
abbrev pub is_node_line : List OpenBlock → Statement → Bool
is_node_line around s = elim (block_line s) [
  | OpensMatrix ↦ false
  | OpensTask name ↦ true
  | OpensScope name ↦ false
  | OpensGroup name awaits ↦ true
  | ClosesBlock ↦ is_in_scope around
  | WithinBlock ↦ false
]

-- one more promise goes beyond a limit
abbrev pub is_promise_over : List PlannedPromise → PlannedPromise → Bool
is_promise_over ps p = nat_le MAX_PROMISES (length ps) || nat_lt MAX_TOTAL_WORDS (words_in ps + p.len) || nat_lt MAX_SHOWN_WORDS (shown_in ps + shown_in (p ∷ []))

-- PlanLimit: a node, a promise, a matrix, the words of all promises, those that are shown, or those of a local go beyond their limit.
abbrev pub is_over : Facts → Statement → Bool
is_over f s =
    (is_node_line f.blocks s && nat_le MAX_NODES f.count)
    || if_any (is_promise_over f.promises) (facets s).promised
    || if_any (λ m. nat_le MAX_MATRICES (length f.matrices)) (facets s).shaped
    || if_any (λ x. nat_lt MAX_PROMISE_WORDS (made_len f.matrices f.locals s)) (facets s).made

-- NoCheck: no handed-in check has the name that it asks.
abbrev pub is_unanswered : HandedChecks → Statement → Bool
is_unanswered handed s = if_any (λ name. not (is_some (user_place handed name))) (facets s).asked

-- The reason of a statement that breaks a rule, where these facts are above it: the first that holds.
abbrev pub reason_in : Look → Facts → Statement → Option Reason
reason_in look f s =
    cond (is_twice f s) (Some reasons.Twice)
    (cond (is_unknown look f s) (Some reasons.Unknown)
    (cond (is_early look f s) (Some reasons.Order)
    (cond (is_owned f s) (Some reasons.Owner)
    (cond (is_misfit f s) (Some reasons.Length)
    (cond (is_misschemed f s) (Some reasons.Scheme)
    (cond (is_after_drop f s) (Some reasons.Dropped)
    (cond (is_over f s) (Some reasons.PlanLimit)
    (cond (is_unanswered look.handed s) (Some reasons.NoCheck) None))))))))

-- the reason of a statement below these
abbrev pub reason_at : Look → List Statement → Statement → Option Reason
reason_at look above s = reason_in look (facts_above look above) s

-- each of the statements, the nearest first, keeps the rules below the others
abbrev pub AllKeep : Look → List Statement → Type 0
AllKeep look [] = ⊤
AllKeep look (s ∷ above) = (reason_at look above s ≡ None) × AllKeep look above
