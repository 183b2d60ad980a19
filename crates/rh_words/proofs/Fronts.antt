-- A text that only grew still begins as it did.
use Rattle.std.proofs.Common.{◌≡◌, ◌≤◌, ℕ, List, ◌++◌, length, take, drop, sym, ap, ◌∙◌, arith, append_assoc, length-append}
use Rattle.std.specs.Prelude.{Result, Ok, Err, OnErr}
use Rattle.std.proofs.lemmas.List.{take-append-le, take-append-drop}
use Rattle.std.proofs.Math.Seq.{take-length}

-- the whole begins with the front
abbrev pub BeginsWith : List ℕ → List ℕ → Type 0
BeginsWith front whole = (take (length front) whole ≡ front) × (length front ≤ length whole)

-- b begins with a, more was appended, and c begins with that: so c begins with a
pub front_kept : (a b d more c : List ℕ) → BeginsWith a b → more ≡ b ++ d → BeginsWith more c → BeginsWith a c
front_kept a b d more c first is then =
    let whole : c ≡ b ++ (d ++ drop (length more) c) = sym (take-append-drop (length more) c) ∙ ap (λ (l : List ℕ). l ++ drop (length more) c) (then.0 ∙ is) ∙ append_assoc b d (drop (length more) c) in
    let first_len = first.1 in
    let then_len = then.1 in
    let more_len = ap (λ (l : List ℕ). length l) is ∙ length-append b d in
    (ap (λ (l : List ℕ). take (length a) l) whole ∙ take-append-le (length a) b (d ++ drop (length more) c) first.1 ∙ first.0, omega arith)

pub front_same : (a : List ℕ) → BeginsWith a a
front_same a = (take-length a, omega arith)

pub on_err : {T E : Type 0} (r : Result T E) (P : Type 0) → P → OnErr r P
on_err (Ok x) P p = tt
on_err (Err e) P p = p

pub err_weaken : {T E : Type 0} (r : Result T E) (P Q : Type 0) → (P → Q) → OnErr r P → OnErr r Q
err_weaken (Ok x) P Q f p = tt
err_weaken (Err e) P Q f p = f p
