-- The lines of nodes and of their attempts.
use Rattle.std.specs.Prelude.{ℕ, ◌+◌, List, [], ◌∷◌, ◌++◌, codes, Option, Some, None, slice_get, slice_index_or}
use Rattle.std.specs.Fmt.{decimal}
use Rattle.rh_rules.specs.declared.node.Node.{Node}
use Rattle.rh_rules.specs.declared.node.Kind.{Kind}
use Rattle.rh_rules.specs.declared.node.Kind.TheVariants.{Task, Group, Scope}
use Rattle.rh_plan.specs.declared.outcome.Trial.{Trial}
use Rattle.rh_plan.specs.declared.outcome.Trial.TheVariants as trial
use Rattle.rh_plan.specs.declared.outcome.Verdict.{Verdict}
use Rattle.rh_plan.specs.declared.outcome.Verdict.TheVariants.{Accepted, Corrected, Failed, Skipped, Opened, Closed, Ended}
use Rattle.rh_plan.specs.Plans.{PlanData}
use Rattle.rh_report.specs.Tables.{TableData}
use Rattle.rh_report.specs.Naming.{node_name, cause_name}

-- the word that a node's line begins with
abbrev pub kind_word : Kind → List ℕ
kind_word Task = codes "task "
kind_word Group = codes "group "
kind_word Scope = codes "finish "

-- how many tasks of a scope were accepted, failed and were skipped
abbrev pub counts_text : ℕ → ℕ → ℕ → List ℕ
counts_text a f s = codes " " ++ decimal a ++ codes " " ++ decimal f ++ codes " " ++ decimal s

-- how a node ended, behind its name
unfoldable pub ending_text : PlanData → Verdict → List ℕ
ending_text plan (Accepted k) = codes " accepted " ++ decimal k
ending_text plan (Corrected i) = codes " corrected " ++ decimal i
ending_text plan Failed = codes " failed"
ending_text plan (Skipped cause) = codes " skipped by " ++ cause_name plan cause
ending_text plan Opened = codes " opened"
ending_text plan (Closed cause) = codes " closed by " ++ cause_name plan cause
ending_text plan (Ended a f s) = counts_text a f s

-- how an attempt ended, behind its number
unfoldable pub trial_text : Trial → List ℕ
trial_text trial.Accepted = codes " accepted"
trial_text trial.Agreed = codes " agreed"
trial_text trial.Differed = codes " differed"
trial_text (trial.Refused which) = codes " refused " ++ decimal which
trial_text (trial.Corrected word) = codes " corrected " ++ decimal word

-- the line of attempt k
unfoldable pub attempt_line : ℕ → Trial → List ℕ
attempt_line k t = codes "  attempt " ++ decimal k ++ trial_text t ++ codes "\n"

-- the lines of attempts, the first of which has this number
abbrev pub attempt_lines : ℕ → List Trial → List ℕ
attempt_lines k [] = []
attempt_lines k (t ∷ trials) = attempt_line k t ++ attempt_lines (k + 1) trials

-- how a node ended, behind its name, and the lines of its attempts
abbrev pub end_lines : PlanData → Verdict → List Trial → List ℕ
end_lines plan verdict trials = ending_text plan verdict ++ codes "\n" ++ attempt_lines 0 trials

abbrev pub word_of : Option Node → List ℕ
word_of None = []
word_of (Some node) = kind_word node.kind

-- the word that the line of the node of this number begins with
abbrev pub word_at : PlanData → ℕ → List ℕ
word_at plan v = word_of (slice_get plan.nodes v)

-- the line of the node of this number and, below it, those of its attempts, by the tables
unfoldable pub node_lines : PlanData → TableData → ℕ → List ℕ
node_lines plan tables v =
    word_at plan v ++ node_name plan v ++ ending_text plan (slice_index_or tables.verdicts v Failed) ++ codes "\n" ++ attempt_lines 0 (slice_index_or tables.trials v [])
