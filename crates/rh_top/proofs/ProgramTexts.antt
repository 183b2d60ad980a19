-- The bytes of a program are accepted or refused, never both, and have one plan or one refusal.
use Rattle.std.proofs.Common.{◌≡◌, ◌⊎◌, ℕ, ◌<◌, ◌≤◌, List, length, refl, sym, ◌∙◌, ap, subst, inl, inr, arith}
use Rattle.std.proofs.lemmas.Bool.{cases_lt}
use Rattle.rh_words.specs.declared.reason.Reason.{Reason}
use Rattle.rh_words.specs.declared.reason.Reason.TheVariants.{Limit}
use Rattle.rh_words.specs.declared.limits.TheConstants.{MAX_PROGRAM_BYTES}
use Rattle.rh_task_text.specs.Program.{ProgramText, Reads}
use Rattle.rh_task_text.proofs.OneReading.{Reads-same, Reads-not_bad, FirstBad-same}
use Rattle.rh_task_text.proofs.EachTextIsReadOrBad.{decided}
use Rattle.rh_plan.specs.Plans.{PlanData}
use Rattle.rh_planner.specs.Planned.{FirstBreak}
use Rattle.rh_plan.specs.Planned.{IsPlanOf}
use Rattle.rh_planner.proofs.Breaking.{one_break}
use Rattle.rh_plan.proofs.PlannedTexts.{planned_or_broken, planned_unbroken, planned_once}
use Rattle.rh_check.specs.Users.{HandedChecks}
use Rattle.rh_top.specs.Programs.{TextRefusal, IsProgram, IsRefusedProgram}

pub program_or_refused : (checks : HandedChecks) (bytes : List ℕ) → ((plan : PlanData) × IsProgram checks bytes plan) ⊎ ((r : TextRefusal) × IsRefusedProgram checks bytes r)
program_or_refused checks bytes = elim (cases_lt MAX_PROGRAM_BYTES (length bytes)) [
  | inl long ↦ inr (record { line = 0; reason = Limit }, inl (long, refl, refl))
  | inr short ↦ elim (decided bytes) [
    | inl read ↦
        let (text, reads) = read in
        elim (planned_or_broken checks text) [
          | inl planned ↦ inl (planned.0, record { text = text; short = short; reads = reads; planned = planned.1 })
          | inr broken ↦
              let (line, reason, break) = broken in
              inr (record { line = line; reason = reason }, inr (inr (text, short, reads, break)))
        ]
    | inr bad ↦ let (line, reason, first) = bad in inr (record { line = line; reason = reason }, inr (inl (short, first)))
  ]
]

-- a plan of the bytes is that of any text that they are
plan_of_text : (checks : HandedChecks) (bytes : List ℕ) (text : ProgramText) (plan : PlanData) → Reads bytes text → IsProgram checks bytes plan → IsPlanOf checks text plan
plan_of_text checks bytes text plan reads is =
    let same = Reads-same bytes is.text text is.reads reads in
    subst (λ (t : ProgramText). IsPlanOf checks t plan) same is.planned

pub never_both : (checks : HandedChecks) (bytes : List ℕ) (plan : PlanData) (r : TextRefusal) → IsProgram checks bytes plan → IsRefusedProgram checks bytes r → ⊥
never_both checks bytes plan r has (inl long) = let h : MAX_PROGRAM_BYTES < length bytes = long.0 in let k : length bytes ≤ MAX_PROGRAM_BYTES = has.short in absurd (omega arith)
never_both checks bytes plan r has (inr (inl bad)) = Reads-not_bad bytes has.text r.line r.reason has.reads bad.1
never_both checks bytes plan r has (inr (inr broken)) =
    let (text, fits, reads, break) = broken in
    planned_unbroken checks text plan r.line r.reason (plan_of_text checks bytes text plan reads has) break

pub one_plan : (checks : HandedChecks) (bytes : List ℕ) (p q : PlanData) → IsProgram checks bytes p → IsProgram checks bytes q → p ≡ q
one_plan checks bytes p q first second =
    planned_once checks second.text p q (plan_of_text checks bytes second.text p second.reads first) second.planned

pub same_refusal : (r s : TextRefusal) → r.line ≡ s.line → r.reason ≡ s.reason → r ≡ s
same_refusal r s line reason =
    ap (λ (l : ℕ). let t : TextRefusal = record { line = l; reason = r.reason } in t) line
    ∙ ap (λ (q : Reason). let t : TextRefusal = record { line = s.line; reason = q } in t) reason

pub one_refusal : (checks : HandedChecks) (bytes : List ℕ) (r s : TextRefusal) → IsRefusedProgram checks bytes r → IsRefusedProgram checks bytes s → r ≡ s
one_refusal checks bytes r s (inl a) (inl b) = same_refusal r s (a.1 ∙ sym b.1) (a.2 ∙ sym b.2)
one_refusal checks bytes r s (inl a) (inr (inl b)) = let h : MAX_PROGRAM_BYTES < length bytes = a.0 in let k : length bytes ≤ MAX_PROGRAM_BYTES = b.0 in absurd (omega arith)
one_refusal checks bytes r s (inl a) (inr (inr b)) = let h : MAX_PROGRAM_BYTES < length bytes = a.0 in let k : length bytes ≤ MAX_PROGRAM_BYTES = b.1 in absurd (omega arith)
one_refusal checks bytes r s (inr (inl a)) (inl b) = let h : MAX_PROGRAM_BYTES < length bytes = b.0 in let k : length bytes ≤ MAX_PROGRAM_BYTES = a.0 in absurd (omega arith)
one_refusal checks bytes r s (inr (inl a)) (inr (inl b)) = let (line, reason) = FirstBad-same bytes r.line s.line r.reason s.reason a.1 b.1 in same_refusal r s line reason
one_refusal checks bytes r s (inr (inl a)) (inr (inr b)) = absurd (Reads-not_bad bytes b.0 r.line r.reason b.2 a.1)
one_refusal checks bytes r s (inr (inr a)) (inl b) = let h : MAX_PROGRAM_BYTES < length bytes = b.0 in let k : length bytes ≤ MAX_PROGRAM_BYTES = a.1 in absurd (omega arith)
one_refusal checks bytes r s (inr (inr a)) (inr (inl b)) = absurd (Reads-not_bad bytes a.0 s.line s.reason a.2 b.1)
one_refusal checks bytes r s (inr (inr a)) (inr (inr b)) =
    let same = Reads-same bytes a.0 b.0 a.2 b.2 in
    let first = subst (λ (t : ProgramText). FirstBreak checks t r.line r.reason) same a.3 in
    let (line, reason) = one_break checks b.0 r.line s.line r.reason s.reason first b.3 in
    same_refusal r s line reason
