use Rattle.std.proofs.Common.{◌≡◌, ◌<◌, ◌≤◌, ℕ, ◌∙◌, ap, sym, inl, inr, length, arith}
use Rattle.std.proofs.lemmas.Option.{slice_get_cases}
use Rattle.rh_plan.specs.Plans.{PlanData, OfPromise}
use Rattle.rh_plan.specs.Derived.{references}
use Rattle.rh_journal.specs.Own.{references_if, references_of}
use Rattle.rh_plain.proofs.history.references.Goals as goal

-- the count that a promise has which is there
of_promise : (plan : PlanData) (q n : ℕ) → q < length plan.promises → OfPromise plan q (λ p. n ≡ references plan q p) → n ≡ references_of plan q
unfolding references_of
of_promise plan q n within count = elim (slice_get_cases plan.promises q).1 [
  | inl there ↦ count there.0 there.2 ∙ sym (ap (references_if plan q) there.2)
  | inr past ↦ let h : length plan.promises ≤ q = past.0 in absurd (omega arith)
]

pub returns : goal.returns
returns c = of_promise c.args.plan.now c.args.promise c.references.result c.requires c.references.ensures
