use Rattle.std.proofs.Common.{sym, ◌∙◌, subst, true, ◌≡◌}
use Rattle.rh_plan.specs.Buffers.{BufferData}
use Rattle.rh_plan.specs.Judging.{are_same}
use Rattle.rh_plan.proofs.Sameness.{same_buffer, buffer_itself}
use Rattle.rh_attempt.proofs.buffer.Buffer.same.Goals as goal

pub returns-clause-equal : goal.returns-clause-equal
returns-clause-equal c = (
  λ same. same_buffer c.args.self.now c.args.other.now (sym c.is_same.ensures ∙ same),
  λ same. c.is_same.ensures ∙ subst (λ (b : BufferData). are_same c.args.self.now b ≡ true) same (buffer_itself c.args.self.now),
)
