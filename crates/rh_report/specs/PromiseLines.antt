-- The lines of promises.
use Rattle.std.specs.Prelude.{ℕ, List, [], ◌∷◌, ◌++◌, codes, Bool, false, not, if◌then◌else◌, Option, Some, None, slice_get, slice_index_or, unwrap_or}
use Rattle.std.specs.List.{flat_map}
use Rattle.std.specs.Fmt.{decimal}
use Rattle.rh_rules.specs.declared.node.PlannedPromise.{PlannedPromise}
use Rattle.rh_plan.specs.Plans.{PlanData}
use Rattle.rh_rules.specs.Lawful.{putter_of}
use Rattle.rh_journal.specs.ShownWords.{words_with}
use Rattle.rh_report.specs.Tables.{TableData}
use Rattle.rh_report.specs.Naming.{node_name, promise_name}

-- words, each behind a space
unfoldable pub words_text : List ℕ → List ℕ
words_text words = flat_map (λ w. 32 ∷ decimal w) words

-- the words of a put, which those of a `temp` promise are not told
abbrev pub shown_text : Bool → List ℕ → List ℕ
shown_text temp words = if temp then codes " temp" else codes ":" ++ words_text words

-- what is told of a promise behind the name of its task: the attempt and the words, or that the task did not put it
abbrev pub put_text : Bool → Option (List ℕ) → Option ℕ → List ℕ
put_text temp words None = codes " void"
put_text temp words (Some attempt) = codes " attempt " ++ decimal attempt ++ shown_text temp (unwrap_or words [])

-- what is told of a promise behind its name
abbrev pub state_text : PlanData → Bool → Option (List ℕ) → Option ℕ → Option ℕ → List ℕ
state_text plan temp words put None = codes " none"
state_text plan temp words put (Some v) = codes " by " ++ node_name plan v ++ put_text temp words put

abbrev pub is_declared : Option PlannedPromise → Bool
is_declared None = false
is_declared (Some promise) = not promise.scope

abbrev pub is_temp : Option PlannedPromise → Bool
is_temp None = false
is_temp (Some promise) = promise.temp

-- the promise of this number was declared: it is not a scope's own
abbrev pub is_declared_at : PlanData → ℕ → Bool
is_declared_at plan q = is_declared (slice_get plan.promises q)

-- the promise of this number was declared with `temp`
abbrev pub is_temp_at : PlanData → ℕ → Bool
is_temp_at plan q = is_temp (slice_get plan.promises q)

-- what is told of the promise of this number behind its name
abbrev pub state_at : PlanData → TableData → List (ℕ × List ℕ) → ℕ → List ℕ
state_at plan tables shown q = state_text plan (is_temp_at plan q) (words_with q shown) (slice_index_or tables.puts q None) (putter_of plan.promises q)

-- the line of a declared promise
abbrev pub declared_line : PlanData → TableData → List (ℕ × List ℕ) → ℕ → List ℕ
declared_line plan tables shown q = codes "promise " ++ promise_name plan q ++ state_at plan tables shown q ++ codes "\n"

-- the line of the promise of this number, by the tables and the shown words; a scope's own has none
unfoldable pub promise_line : PlanData → TableData → List (ℕ × List ℕ) → ℕ → List ℕ
promise_line plan tables shown q = if is_declared_at plan q then declared_line plan tables shown q else []
