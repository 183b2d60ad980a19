-- A fault text has one reading, or one first bad line with one reason.
use Rattle.std.proofs.Common.{◌≡◌, ℕ, ◌≤◌, ◌<◌, List, [], ◌∷◌, ◌++◌, max, length, drop, subst, sym, ◌∙◌, inl, inr, arith}
use Rattle.std.proofs.lemmas.List.{take-append-drop}
use Rattle.std.proofs.lemmas.Bool.{cases_lt, false≢true}
use Rattle.rh_words.specs.Text.{lines_of}
use Rattle.rh_words.specs.declared.reason.Reason.{Reason}
use Rattle.rh_injector.specs.declared.fault_text.FaultLine.{FaultLine}
use Rattle.rh_injector.specs.FaultTexts.{IsReason, LineReason, AreFaultText, Reads, Why, FirstBad}
use Rattle.rh_injector.proofs.FaultBodies.{IsBody-same}

text_same : (lines : List (List ℕ)) (a b : List FaultLine) → AreFaultText lines a → AreFaultText lines b → a ≡ b
text_same [] a b first second = absurd first
text_same (line ∷ lines) a b first second = IsBody-same 2 lines a b first.1 second.1

-- bytes are read as one list of faults
pub Reads-same : (bytes : List ℕ) (a b : List FaultLine) → Reads bytes a → Reads bytes b → a ≡ b
Reads-same bytes a b first second = text_same (lines_of bytes) a b first second

some_lines : (lines : List (List ℕ)) (faults : List FaultLine) → AreFaultText lines faults → 0 < length lines
some_lines [] faults text = absurd text
some_lines (first ∷ lines) faults text = omega arith

-- what is read has no first bad line
pub Reads-not_bad : (bytes : List ℕ) (faults : List FaultLine) (line : ℕ) (reason : Reason) → Reads bytes faults → FirstBad bytes line reason → ⊥
Reads-not_bad bytes faults line reason reads bad =
    let lines : List (List ℕ) = lines_of bytes in
    let some : 0 < length lines = some_lines lines faults reads in
    let within : line ≤ max 1 (length lines) = bad.within in
    bad.bad (omega arith) (bytes, faults, drop line lines, reads, sym (take-append-drop line lines))

-- lists that go on after equally long fronts
same_front : {A : Type 0} (d e : List A) (x y : A) (l m : List A) → length d ≡ length e → d ++ x ∷ l ≡ e ++ y ∷ m → x ≡ y
same_front [] [] x y l m long same = cc
same_front [] (b ∷ e) x y l m long same = absurd (omega arith)
same_front (a ∷ d) [] x y l m long same = absurd (omega arith)
same_front (a ∷ d) (b ∷ e) x y l m long same = let rest : d ++ x ∷ l ≡ e ++ y ∷ m = cc in same_front d e x y l m (omega arith) rest

-- a line has one reason
one_reason : (line : List ℕ) (r q : Reason) → IsReason line r → IsReason line q → r ≡ q
one_reason line r q a b = elim a [
  | inl x ↦ elim b [ inl y ↦ x.1 ∙ sym y.1 | inr y ↦ absurd (false≢true (sym x.0 ∙ y.0)) ]
  | inr x ↦ elim b [ inl y ↦ absurd (false≢true (sym y.0 ∙ x.0)) | inr y ↦ (let e = x.2 in let f = y.2 in cc) ]
]

line_reason : (lines : List (List ℕ)) (l : ℕ) (r q : Reason) → LineReason lines l r → LineReason lines l q → r ≡ q
line_reason lines l r q a b =
    let at = a.at in
    let bt = b.at in
    let long : length a.done ≡ length b.done = omega arith in
    let wa = a.whole in
    let wb = b.whole in
    let tails : a.done ++ a.bad ∷ a.left ≡ b.done ++ b.bad ∷ b.left = cc in
    let same = same_front a.done b.done a.bad b.bad a.left b.left long tails in
    one_reason b.bad r q (subst (λ (x : List ℕ). IsReason x r) same a.why) b.why

same_reason : (lines : List (List ℕ)) (l : ℕ) (r q : Reason) → Why lines l r → Why lines l q → r ≡ q
same_reason lines l r q a b = elim a [
  | inl x ↦ elim b [ inl y ↦ x.1 ∙ sym y.1 | inr y ↦ (let e = x.0 in let f = y.at in absurd (omega arith)) ]
  | inr x ↦ elim b [ inl y ↦ (let e = y.0 in let f = x.at in absurd (omega arith)) | inr y ↦ line_reason lines l r q x y ]
]

least_one : (lines : List (List ℕ)) (l : ℕ) (r : Reason) → Why lines l r → 1 ≤ l
least_one lines l r why = elim why [ inl x ↦ (let e = x.0 in omega arith) | inr x ↦ (let e = x.at in omega arith) ]

-- no first bad line stands above another
not_above : (bytes : List ℕ) (l m : ℕ) (r q : Reason) → FirstBad bytes l r → FirstBad bytes m q → l < m → ⊥
not_above bytes l m r q a b less =
    let within = b.within in
    let one = least_one (lines_of bytes) l r a.why in
    a.bad (omega arith) (b.good_above l less)

pub FirstBad-same : (bytes : List ℕ) (l m : ℕ) (r q : Reason) → FirstBad bytes l r → FirstBad bytes m q → (l ≡ m) × (r ≡ q)
FirstBad-same bytes l m r q a b =
    elim (cases_lt l m) [
      | inl less ↦ absurd (not_above bytes l m r q a b less)
      | inr most ↦ elim (cases_lt m l) [
        | inl more ↦ absurd (not_above bytes m l q r b a more)
        | inr least ↦ (
            let same : l ≡ m = omega arith in
            (same, same_reason (lines_of bytes) m r q (subst (λ (n : ℕ). Why (lines_of bytes) n r) same a.why) b.why)
            )
      ]
    ]
