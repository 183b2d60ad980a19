-- A text has one first bad line and one reason.
use Rattle.std.proofs.Common.{◌≡◌, ℕ, suc, List, [], ◌∷◌, ◌++◌, length, refl, ap, sym, ◌∙◌, subst, arith, length-append, ◌≤◌, inl, inr}
use Rattle.std.proofs.lemmas.Bool.{false≢true}
use Rattle.rh_words.specs.Text.{words_of}
use Rattle.rh_words.specs.declared.reason.Reason.{Reason}
use Rattle.rh_task_text.specs.declared.statement.Statement.{Statement}
use Rattle.rh_task_text.specs.declared.statement.Item.{Item}
use Rattle.rh_task_text.specs.Program.{upward, IsReason, LineReason, IsBody, Why}
use Rattle.rh_task_text.proofs.Prefixes.{items_same}
use Rattle.rh_task_text.proofs.StatementsOfForms.{Spells-same}

-- lists that go on after equally long fronts
pub same_front : {A : Type 0} (d e : List A) (x y : A) (l m : List A) → length d ≡ length e → d ++ x ∷ l ≡ e ++ y ∷ m → (d ≡ e) × (x ≡ y)
same_front [] [] x y l m long same = (refl, cc)
same_front [] (b ∷ e) x y l m long same = absurd (omega arith)
same_front (a ∷ d) [] x y l m long same = absurd (omega arith)
same_front (a ∷ d) (b ∷ e) x y l m long same =
    let rest : d ++ x ∷ l ≡ e ++ y ∷ m = cc in
    let more = same_front d e x y l m (omega arith) rest in
    let front : a ≡ b = cc in
    let tail : d ≡ e = more.0 in
    (cc, more.1)

-- a line has one reason
pub one_reason : (above : List Statement) (line : List ℕ) (r q : Reason) → IsReason above line r → IsReason above line q → r ≡ q
one_reason above line r q a b = elim a [
  | inl x ↦ elim b [ inl y ↦ (let e = x.1 in let f = y.1 in cc) | inr y ↦ absurd (false≢true (sym x.0 ∙ y.0)) ]
  | inr x ↦ elim b [
    | inl y ↦ absurd (false≢true (sym y.0 ∙ x.0))
    | inr y ↦ elim x.2 [
      | inl m ↦ elim y.2 [ inl n ↦ (let e = m in let f = n in cc) | inr n ↦ (let e = m in let f = n.2 in cc) ]
      | inr m ↦ elim y.2 [
        | inl n ↦ (let e = m.2 in let f = n in cc)
        | inr n ↦ (
            let same = Spells-same (words_of line) m.0 n.0 m.1 n.1 in
            let e = m.3 in
            let f = n.3 in cc
            )
      ]
    ]
  ]
]

line_reason : (lines : List (List ℕ)) (l : ℕ) (r q : Reason) → LineReason lines l r → LineReason lines l q → r ≡ q
line_reason lines l r q a b =
    let at = a.at in
    let bt = b.at in
    let long : length a.done ≡ length b.done = omega arith in
    let wa = a.whole in
    let wb = b.whole in
    let tails : a.done ++ a.bad ∷ a.left ≡ b.done ++ b.bad ∷ b.left = cc in
    let same = same_front a.done b.done a.bad b.bad a.left b.left long tails in
    let read = subst (λ (d : List (List ℕ)). IsBody [] 2 d a.items) same.0 a.read in
    let items = items_same b.done a.items b.items read b.read in
    let why = subst (λ (x : List ℕ). IsReason (upward a.items) x r) same.1 a.why in
    let why2 = subst (λ (its : List Item). IsReason (upward its) b.bad q) items b.why in
    one_reason (upward a.items) b.bad r q why why2

long_enough : (lines : List (List ℕ)) (l : ℕ) (r : Reason) → LineReason lines l r → l ≤ length lines
long_enough lines l r a =
    let at = a.at in
    let total : length lines ≡ suc (length (a.done ++ a.bad ∷ a.left)) = ap (λ (ls : List (List ℕ)). length ls) a.whole in
    omega (arith, length-append a.done (a.bad ∷ a.left))

-- a first bad line has one reason
pub same_reason : (lines : List (List ℕ)) (l : ℕ) (r q : Reason) → Why lines l r → Why lines l q → r ≡ q
same_reason lines l r q a b = elim a [
  | inl x ↦ elim b [
    | inl y ↦ x.1 ∙ sym y.1
    | inr y ↦ elim y [
      | inl m ↦ (let e = x.0 in let f = m.at in absurd (omega arith))
      | inr m ↦ (let e = x.0 in let f = m.0 in let g = m.1 in absurd (omega arith))
    ]
  ]
  | inr x ↦ elim x [
    | inl n ↦ elim b [
      | inl y ↦ (let e = y.0 in let f = n.at in absurd (omega arith))
      | inr y ↦ elim y [
        | inl m ↦ line_reason lines l r q n m
        | inr m ↦ (let e = long_enough lines l r n in let f = m.1 in absurd (omega arith))
      ]
    ]
    | inr n ↦ elim b [
      | inl y ↦ (let e = y.0 in let f = n.0 in let g = n.1 in absurd (omega arith))
      | inr y ↦ elim y [
        | inl m ↦ (let e = long_enough lines l q m in let f = n.1 in absurd (omega arith))
        | inr m ↦ n.2 ∙ sym m.2
      ]
    ]
  ]
]
