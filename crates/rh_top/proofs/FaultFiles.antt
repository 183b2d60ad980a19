-- The bytes of a fault file are accepted or refused under a plan, never both, and have one list of faults or one refusal.
use Rattle.std.proofs.Common.{◌≡◌, ◌⊎◌, ℕ, ◌<◌, ◌≤◌, List, length, refl, sym, ◌∙◌, subst, inl, inr, arith}
use Rattle.std.proofs.lemmas.Bool.{cases_lt}
use Rattle.rh_words.specs.declared.reason.Reason.TheVariants.{Limit}
use Rattle.rh_words.specs.declared.limits.TheConstants.{MAX_FAULT_BYTES}
use Rattle.rh_injector.specs.declared.fault_text.FaultLine.{FaultLine}
use Rattle.rh_injector.specs.declared.faults.Strike.{Strike}
use Rattle.rh_injector.specs.FaultTexts.{Reads}
use Rattle.rh_injector.proofs.OneFaultReading.{Reads-same, Reads-not_bad, FirstBad-same}
use Rattle.rh_injector.proofs.ReadOrBad.{decided}
use Rattle.rh_plan.specs.Plans.{PlanData}
use Rattle.rh_plan.specs.FaultLines.{AreFaultsOfText, FirstBadFault}
use Rattle.rh_plan.proofs.OneResolution as resolution
use Rattle.rh_top.specs.Programs.{TextRefusal, AreFaultsIn, AreRefusedFaults}
use Rattle.rh_top.proofs.ProgramTexts.{same_refusal}

pub faults_or_refused : (plan : PlanData) (bytes : List ℕ) → ((faults : List Strike) × AreFaultsIn plan bytes faults) ⊎ ((r : TextRefusal) × AreRefusedFaults plan bytes r)
faults_or_refused plan bytes = elim (cases_lt MAX_FAULT_BYTES (length bytes)) [
  | inl long ↦ inr (record { line = 0; reason = Limit }, inl (long, refl, refl))
  | inr short ↦ elim (decided bytes) [
    | inl read ↦
        let (lines, reads) = read in
        elim (resolution.faults_or_bad plan lines) [
          | inl named ↦ inl (named.0, record { lines = lines; short = short; reads = reads; named = named.1 })
          | inr bad ↦
              let (line, reason, first) = bad in
              inr (record { line = line; reason = reason }, inr (inr (lines, short, reads, first)))
        ]
    | inr bad ↦ let (line, reason, first) = bad in inr (record { line = line; reason = reason }, inr (inl (short, first)))
  ]
]

-- the faults of the bytes are those of any lines that they are
faults_of_lines : (plan : PlanData) (bytes : List ℕ) (lines : List FaultLine) (faults : List Strike) → Reads bytes lines → AreFaultsIn plan bytes faults → AreFaultsOfText plan lines faults
faults_of_lines plan bytes lines faults reads is =
    subst (λ (l : List FaultLine). AreFaultsOfText plan l faults) (Reads-same bytes is.lines lines is.reads reads) is.named

too_many : {P : Type 0} (n : ℕ) → MAX_FAULT_BYTES < n → n ≤ MAX_FAULT_BYTES → P
too_many n long short = absurd (omega arith)

pub never_both : (plan : PlanData) (bytes : List ℕ) (faults : List Strike) (r : TextRefusal) → AreFaultsIn plan bytes faults → AreRefusedFaults plan bytes r → ⊥
never_both plan bytes faults r has (inl long) = too_many (length bytes) long.0 has.short
never_both plan bytes faults r has (inr (inl bad)) = Reads-not_bad bytes has.lines r.line r.reason has.reads bad.1
never_both plan bytes faults r has (inr (inr bad)) =
    let (lines, short, reads, first) = bad in
    resolution.never_both plan lines faults r.line r.reason (faults_of_lines plan bytes lines faults reads has) first

pub one_list : (plan : PlanData) (bytes : List ℕ) (xs ys : List Strike) → AreFaultsIn plan bytes xs → AreFaultsIn plan bytes ys → xs ≡ ys
one_list plan bytes xs ys first second = resolution.one_list plan second.lines xs ys (faults_of_lines plan bytes second.lines xs second.reads first) second.named

pub one_refusal : (plan : PlanData) (bytes : List ℕ) (r s : TextRefusal) → AreRefusedFaults plan bytes r → AreRefusedFaults plan bytes s → r ≡ s
one_refusal plan bytes r s (inl a) (inl b) = same_refusal r s (a.1 ∙ sym b.1) (a.2 ∙ sym b.2)
one_refusal plan bytes r s (inl a) (inr (inl b)) = too_many (length bytes) a.0 b.0
one_refusal plan bytes r s (inl a) (inr (inr b)) = too_many (length bytes) a.0 b.1
one_refusal plan bytes r s (inr (inl a)) (inl b) = too_many (length bytes) b.0 a.0
one_refusal plan bytes r s (inr (inl a)) (inr (inl b)) = let (line, reason) = FirstBad-same bytes r.line s.line r.reason s.reason a.1 b.1 in same_refusal r s line reason
one_refusal plan bytes r s (inr (inl a)) (inr (inr b)) = absurd (Reads-not_bad bytes b.0 r.line r.reason b.2 a.1)
one_refusal plan bytes r s (inr (inr a)) (inl b) = too_many (length bytes) b.0 a.1
one_refusal plan bytes r s (inr (inr a)) (inr (inl b)) = absurd (Reads-not_bad bytes a.0 s.line s.reason a.2 b.1)
one_refusal plan bytes r s (inr (inr a)) (inr (inr b)) =
    let same = Reads-same bytes a.0 b.0 a.2 b.2 in
    let first = subst (λ (l : List FaultLine). FirstBadFault plan l r.line r.reason) same a.3 in
    let (line, reason) = resolution.one_refusal plan b.0 r.line s.line r.reason s.reason first b.3 in
    same_refusal r s line reason
