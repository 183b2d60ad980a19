-- What a call that refuses answers.
use Rattle.std.specs.Prelude.{ℕ, Result, Ok, Err}
use Rattle.rh_words.specs.declared.reason.Reason.{Reason}
use Rattle.rh_words.specs.declared.reason.Refusal.{Refusal}
use Rattle.rh_words.specs.declared.reason.Fault.{Fault}
use Rattle.rh_words.specs.declared.reason.Fault.TheVariants.{Refused, OutOfMemory}

-- P where the call was refused with a reason
abbrev pub OnRefused : {X R : Type 0} → Result X (Fault R) → (R → Type 0) → Type 0
OnRefused (Ok x) P = Unit {0}
OnRefused (Err OutOfMemory) P = Unit {0}
OnRefused (Err (Refused r)) P = P r

-- a fault at a line
abbrev pub fault_at : ℕ → Fault Reason → Fault Refusal
fault_at line OutOfMemory = OutOfMemory
fault_at line (Refused r) = Refused (record { line = line; reason = r })
