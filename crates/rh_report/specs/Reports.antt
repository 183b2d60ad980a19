-- The report of a run of a plan.
use Rattle.std.specs.Prelude.{ℕ, List, ◌++◌, codes, length}
use Rattle.std.specs.List.{flat_map, range_with_len}
use Rattle.rh_injector.specs.declared.faults.Strike.{Strike}
use Rattle.rh_plan.specs.Plans.{PlanData}
use Rattle.rh_journal.specs.Own.{run_of}
use Rattle.rh_journal.specs.Tells.{shown_words}
use Rattle.rh_report.specs.Tables.{TableData, tables_of}
use Rattle.rh_report.specs.NodeLines.{node_lines}
use Rattle.rh_report.specs.PromiseLines.{promise_line}
use Rattle.rh_report.specs.Totals.{total_line}

-- the lines of all nodes in the order of their numbers
abbrev pub nodes_text : PlanData → TableData → List ℕ
nodes_text plan tables = flat_map (node_lines plan tables) (range_with_len 0 (length plan.nodes))

-- the lines of all promises in the order of their numbers
abbrev pub promises_text : PlanData → TableData → List (ℕ × List ℕ) → List ℕ
promises_text plan tables shown = flat_map (promise_line plan tables shown) (range_with_len 0 (length plan.promises))

-- the report of these tables and shown words
abbrev pub text_of : PlanData → List Strike → TableData → List (ℕ × List ℕ) → List ℕ
text_of plan faults tables shown = codes "rhr 1\n" ++ nodes_text plan tables ++ promises_text plan tables shown ++ total_line plan faults tables

-- The report of the run of a plan under these faults.
unfoldable pub report_text : PlanData → List Strike → List ℕ
report_text plan faults = text_of plan faults (tables_of plan faults) (shown_words (run_of plan faults))
