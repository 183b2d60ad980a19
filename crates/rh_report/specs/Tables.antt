-- What is told of the nodes and promises of a run, in tables.
use Rattle.std.specs.Prelude.{ℕ, List, Option, map, length, slice_get, option_and_then}
use Rattle.std.specs.List.{range_with_len}
use Rattle.std.specs.Option.{option_map}
use Rattle.rh_injector.specs.declared.faults.Strike.{Strike}
use Rattle.rh_rules.specs.Lawful.{putter_of}
use Rattle.rh_plan.specs.declared.outcome.Trial.{Trial}
use Rattle.rh_plan.specs.declared.outcome.Verdict.{Verdict}
use Rattle.rh_plan.specs.Plans.{PlanData}
use Rattle.rh_plan.specs.Judging.{NodeResult}
use Rattle.rh_plan.specs.Results.{all_results, value_by}
use Rattle.rh_journal.specs.Own.{put_attempt}

-- by the number of a node how it and its attempts ended, by the number of a promise the attempt with which it was put, where it was
pub record TableData : Type 0 where
  pub verdicts : List Verdict
  pub trials : List (List Trial)
  pub puts : List (Option ℕ)

abbrev pub table_data : List Verdict → List (List Trial) → List (Option ℕ) → TableData
table_data verdicts trials puts = record { verdicts = verdicts; trials = trials; puts = puts }

-- the attempt with which a node with this result puts a promise, where it puts it
abbrev pub put_by_result : ℕ → NodeResult → Option ℕ
put_by_result q r = option_map (λ words. put_attempt r.verdict) (value_by q r)

-- the attempt with which a promise is put, by the results of all nodes
abbrev pub put_in : PlanData → List NodeResult → ℕ → Option ℕ
put_in plan rs q = option_and_then (λ v. option_and_then (put_by_result q) (slice_get rs v)) (putter_of plan.promises q)

abbrev pub tables_by : PlanData → List NodeResult → TableData
tables_by plan rs = table_data (map (λ r. r.verdict) rs) (map (λ r. r.trials) rs) (map (put_in plan rs) (range_with_len 0 (length plan.promises)))

-- The tables of the run of a plan under these faults.
abbrev pub tables_of : PlanData → List Strike → TableData
tables_of plan faults = tables_by plan (all_results plan faults)
