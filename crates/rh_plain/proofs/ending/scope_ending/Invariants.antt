use Rattle.std.proofs.Common.{◌≡◌, ◌≤◌, take}
use Rattle.rh_plan.specs.Results.{is_accepted, is_failed, is_skipped}
use Rattle.rh_plain.specs.Endings.{count_of}
use Rattle.rh_plain.proofs.ending.scope_ending.Given as goal

abbrev pub invariant-loop-member : goal.invariant-loop-member
invariant-loop-member l = record {
  accepted : l.accepted ≡ count_of is_accepted l.verdicts (take l.member-index l.members);
  failed : l.failed ≡ count_of is_failed l.verdicts (take l.member-index l.members);
  skipped : l.skipped ≡ count_of is_skipped l.verdicts (take l.member-index l.members);
  few_accepted : l.accepted ≤ l.member-index;
  few_failed : l.failed ≤ l.member-index;
  few_skipped : l.skipped ≤ l.member-index;
}
