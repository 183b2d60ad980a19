-- The last line of a report.
use Rattle.std.specs.Prelude.{ℕ, ◌&&◌, List, [], ◌++◌, codes, Bool, true, false, nat_lt, is_some, Option, Some, None, count_by, length, slice_get, slice_index_or}
use Rattle.std.specs.List.{range_with_len}
use Rattle.std.specs.Fmt.{decimal}
use Rattle.rh_injector.specs.declared.faults.Strike.{Strike}
use Rattle.rh_rules.specs.declared.node.Node.{Node}
use Rattle.rh_rules.specs.Lawful.{is_task}
use Rattle.rh_plan.specs.declared.outcome.Trial.{Trial}
use Rattle.rh_plan.specs.Plans.{PlanData}
use Rattle.rh_plan.specs.Results.{is_accepted, is_failed, is_skipped}
use Rattle.rh_report.specs.Tables.{TableData}
use Rattle.rh_report.specs.PromiseLines.{is_declared_at}

abbrev pub is_task_node : Option Node → Bool
is_task_node None = false
is_task_node (Some node) = is_task node.kind

abbrev pub is_task_at : PlanData → ℕ → Bool
is_task_at plan v = is_task_node (slice_get plan.nodes v)

-- how many tasks a plan has
abbrev pub task_count : PlanData → ℕ
task_count plan = count_by (is_task_at plan) (range_with_len 0 (length plan.nodes))

-- the promise was declared, and put
abbrev pub is_put_at : PlanData → TableData → ℕ → Bool
is_put_at plan tables q = is_declared_at plan q && is_some (slice_index_or tables.puts q None)

-- how many declared promises were put
abbrev pub put_count : PlanData → TableData → ℕ
put_count plan tables = count_by (is_put_at plan tables) (range_with_len 0 (length plan.promises))

-- the attempt of a fault was made
abbrev pub made_by : List (List Trial) → Strike → Bool
made_by trials s = nat_lt s.attempt (length (slice_index_or trials s.node []))

-- how many tasks there are, and how many of them were accepted (corrected ones among them), failed and were skipped
unfoldable pub endings_text : PlanData → TableData → List ℕ
endings_text plan tables =
    codes "total tasks " ++ decimal (task_count plan)
    ++ codes " accepted " ++ decimal (count_by is_accepted tables.verdicts)
    ++ codes " failed " ++ decimal (count_by is_failed tables.verdicts)
    ++ codes " skipped " ++ decimal (count_by is_skipped tables.verdicts)

-- how many declared promises were put, and of how many of the faults the attempt was made
unfoldable pub made_text : PlanData → List Strike → TableData → List ℕ
made_text plan faults tables =
    codes " puts " ++ decimal (put_count plan tables)
    ++ codes " faults " ++ decimal (count_by (made_by tables.trials) faults)
    ++ codes " of " ++ decimal (length faults)
    ++ codes "\n"

-- The last line: tasks, puts and faults.
abbrev pub total_line : PlanData → List Strike → TableData → List ℕ
total_line plan faults tables = endings_text plan tables ++ made_text plan faults tables
