use Rattle.std.proofs.Common.{◌≡◌, take}
use Rattle.std.specs.Prelude.{slice_index, sum_by}
use Rattle.rh_plan.proofs.local_lens.joined_len.Given as goal

abbrev pub invariant-loop-part : goal.invariant-loop-part
invariant-loop-part l = l.len ≡ sum_by (λ i. slice_index l.lens i) (take l.part-index l.parts)
