-- The words of a statement choose its form.
use Rattle.std.proofs.Common.{◌≡◌, ℕ, List, [], ◌∷◌, Some, None, refl, ap}
use Rattle.std.specs.Prelude.{codes}
use Rattle.rh_task_text.specs.declared.statement.SchemeText.TheVariants.{Plain, Replicate, Replay, Abft}
use Rattle.rh_task_text.specs.declared.statement.Statement.{Statement}
use Rattle.rh_task_text.specs.declared.statement.Statement.TheVariants.{Promise, Matrix, Row, Task, Finish, Group, End, LetLit, LetGen, LetAdd, LetSub, LetMul, LetScale, LetShift, LetCut, LetJoin, LetSum, LetCount, LetStencil1, LetStencil2, LetProduct, Put, DropAwait, CheckRange, CheckTotal, CheckLinear, CheckConserve, CheckConserve2, CheckProduct, CheckUser}
use Rattle.rh_words.specs.declared.value.Value.{Value}
use Rattle.rh_task_text.specs.Forms.{Form, form}
use Rattle.rh_words.specs.Values.{SayWords}
use Rattle.rh_task_text.specs.Statements.{said, kind_of, Spells, FitForm}
use Rattle.rh_task_text.proofs.FormsOfStatements.{shaped}
use Rattle.rh_task_text.specs.LineReasons.{kind_chosen}
use Rattle.rh_words.specs.Text.{SaysNothing}

pub kind_said : (s : Statement) (ws : List (List ℕ)) → SayWords ws (said s) → kind_chosen ws ≡ Some (kind_of s)
unfolding kind_chosen
kind_said (Promise name len temp) ws (w1, r1, e1, s1, h) = let at : ws ≡ codes "promise" ∷ r1 = cc in ap (λ (l : List (List ℕ)). kind_chosen l) at
kind_said (Matrix name rows cols) ws (w1, r1, e1, s1, h) = let at : ws ≡ codes "matrix" ∷ r1 = cc in ap (λ (l : List (List ℕ)). kind_chosen l) at
kind_said (Row columns values) ws (w1, r1, e1, s1, h) = let at : ws ≡ codes "row" ∷ r1 = cc in ap (λ (l : List (List ℕ)). kind_chosen l) at
kind_said (Task name Plain awaits) ws (w1, r1, e1, s1, (w2, r2, e2, s2, (w3, r3, e3, s3, h))) = let at : ws ≡ codes "task" ∷ w2 ∷ codes "plain" ∷ r3 = cc in ap (λ (l : List (List ℕ)). kind_chosen l) at
kind_said (Task name Replicate awaits) ws (w1, r1, e1, s1, (w2, r2, e2, s2, (w3, r3, e3, s3, h))) = let at : ws ≡ codes "task" ∷ w2 ∷ codes "replicate" ∷ r3 = cc in ap (λ (l : List (List ℕ)). kind_chosen l) at
kind_said (Task name (Replay limit) awaits) ws (w1, r1, e1, s1, (w2, r2, e2, s2, (w3, r3, e3, s3, h))) = let at : ws ≡ codes "task" ∷ w2 ∷ codes "replay" ∷ r3 = cc in ap (λ (l : List (List ℕ)). kind_chosen l) at
kind_said (Task name Abft awaits) ws (w1, r1, e1, s1, (w2, r2, e2, s2, (w3, r3, e3, s3, h))) = let at : ws ≡ codes "task" ∷ w2 ∷ codes "abft" ∷ r3 = cc in ap (λ (l : List (List ℕ)). kind_chosen l) at
kind_said (Finish name) ws (w1, r1, e1, s1, h) = let at : ws ≡ codes "finish" ∷ r1 = cc in ap (λ (l : List (List ℕ)). kind_chosen l) at
kind_said (Group name awaits) ws (w1, r1, e1, s1, h) = let at : ws ≡ codes "group" ∷ r1 = cc in ap (λ (l : List (List ℕ)). kind_chosen l) at
kind_said End ws (w1, r1, e1, s1, h) = let at : ws ≡ codes "end" ∷ r1 = cc in ap (λ (l : List (List ℕ)). kind_chosen l) at
kind_said (LetLit x words) ws (w1, r1, e1, s1, (w2, r2, e2, s2, (w3, r3, e3, s3, h))) = let at : ws ≡ codes "let" ∷ w2 ∷ codes "lit" ∷ r3 = cc in ap (λ (l : List (List ℕ)). kind_chosen l) at
kind_said (LetGen x n start limit) ws (w1, r1, e1, s1, (w2, r2, e2, s2, (w3, r3, e3, s3, h))) = let at : ws ≡ codes "let" ∷ w2 ∷ codes "gen" ∷ r3 = cc in ap (λ (l : List (List ℕ)). kind_chosen l) at
kind_said (LetAdd x a b) ws (w1, r1, e1, s1, (w2, r2, e2, s2, (w3, r3, e3, s3, h))) = let at : ws ≡ codes "let" ∷ w2 ∷ codes "add" ∷ r3 = cc in ap (λ (l : List (List ℕ)). kind_chosen l) at
kind_said (LetSub x a b) ws (w1, r1, e1, s1, (w2, r2, e2, s2, (w3, r3, e3, s3, h))) = let at : ws ≡ codes "let" ∷ w2 ∷ codes "sub" ∷ r3 = cc in ap (λ (l : List (List ℕ)). kind_chosen l) at
kind_said (LetMul x a b) ws (w1, r1, e1, s1, (w2, r2, e2, s2, (w3, r3, e3, s3, h))) = let at : ws ≡ codes "let" ∷ w2 ∷ codes "mul" ∷ r3 = cc in ap (λ (l : List (List ℕ)). kind_chosen l) at
kind_said (LetScale x a k) ws (w1, r1, e1, s1, (w2, r2, e2, s2, (w3, r3, e3, s3, h))) = let at : ws ≡ codes "let" ∷ w2 ∷ codes "scale" ∷ r3 = cc in ap (λ (l : List (List ℕ)). kind_chosen l) at
kind_said (LetShift x a s) ws (w1, r1, e1, s1, (w2, r2, e2, s2, (w3, r3, e3, s3, h))) = let at : ws ≡ codes "let" ∷ w2 ∷ codes "shift" ∷ r3 = cc in ap (λ (l : List (List ℕ)). kind_chosen l) at
kind_said (LetCut x a from len) ws (w1, r1, e1, s1, (w2, r2, e2, s2, (w3, r3, e3, s3, h))) = let at : ws ≡ codes "let" ∷ w2 ∷ codes "cut" ∷ r3 = cc in ap (λ (l : List (List ℕ)). kind_chosen l) at
kind_said (LetJoin x parts) ws (w1, r1, e1, s1, (w2, r2, e2, s2, (w3, r3, e3, s3, h))) = let at : ws ≡ codes "let" ∷ w2 ∷ codes "join" ∷ r3 = cc in ap (λ (l : List (List ℕ)). kind_chosen l) at
kind_said (LetSum x a) ws (w1, r1, e1, s1, (w2, r2, e2, s2, (w3, r3, e3, s3, h))) = let at : ws ≡ codes "let" ∷ w2 ∷ codes "sum" ∷ r3 = cc in ap (λ (l : List (List ℕ)). kind_chosen l) at
kind_said (LetCount x a) ws (w1, r1, e1, s1, (w2, r2, e2, s2, (w3, r3, e3, s3, h))) = let at : ws ≡ codes "let" ∷ w2 ∷ codes "count" ∷ r3 = cc in ap (λ (l : List (List ℕ)). kind_chosen l) at
kind_said (LetStencil1 x l m r k s) ws (w1, r1, e1, s1, (w2, r2, e2, s2, (w3, r3, e3, s3, h))) = let at : ws ≡ codes "let" ∷ w2 ∷ codes "stencil1" ∷ r3 = cc in ap (λ (l : List (List ℕ)). kind_chosen l) at
kind_said (LetStencil2 x north south west east m cols k s) ws (w1, r1, e1, s1, (w2, r2, e2, s2, (w3, r3, e3, s3, h))) = let at : ws ≡ codes "let" ∷ w2 ∷ codes "stencil2" ∷ r3 = cc in ap (λ (l : List (List ℕ)). kind_chosen l) at
kind_said (LetProduct x a v) ws (w1, r1, e1, s1, (w2, r2, e2, s2, (w3, r3, e3, s3, h))) = let at : ws ≡ codes "let" ∷ w2 ∷ codes "product" ∷ r3 = cc in ap (λ (l : List (List ℕ)). kind_chosen l) at
kind_said (Put promise local when) ws (w1, r1, e1, s1, h) = let at : ws ≡ codes "put" ∷ r1 = cc in ap (λ (l : List (List ℕ)). kind_chosen l) at
kind_said (DropAwait promise) ws (w1, r1, e1, s1, h) = let at : ws ≡ codes "drop" ∷ r1 = cc in ap (λ (l : List (List ℕ)). kind_chosen l) at
kind_said (CheckRange promise lo hi) ws (w1, r1, e1, s1, (w2, r2, e2, s2, h)) = let at : ws ≡ codes "check" ∷ codes "range" ∷ r2 = cc in ap (λ (l : List (List ℕ)). kind_chosen l) at
kind_said (CheckTotal promise sum) ws (w1, r1, e1, s1, (w2, r2, e2, s2, h)) = let at : ws ≡ codes "check" ∷ codes "total" ∷ r2 = cc in ap (λ (l : List (List ℕ)). kind_chosen l) at
kind_said (CheckLinear promise base inputs factors) ws (w1, r1, e1, s1, (w2, r2, e2, s2, h)) = let at : ws ≡ codes "check" ∷ codes "linear" ∷ r2 = cc in ap (λ (l : List (List ℕ)). kind_chosen l) at
kind_said (CheckConserve promise l m r k s) ws (w1, r1, e1, s1, (w2, r2, e2, s2, h)) = let at : ws ≡ codes "check" ∷ codes "conserve" ∷ r2 = cc in ap (λ (l : List (List ℕ)). kind_chosen l) at
kind_said (CheckConserve2 promise north south west east m cols k s) ws (w1, r1, e1, s1, (w2, r2, e2, s2, h)) = let at : ws ≡ codes "check" ∷ codes "conserve2" ∷ r2 = cc in ap (λ (l : List (List ℕ)). kind_chosen l) at
kind_said (CheckProduct promise a q) ws (w1, r1, e1, s1, (w2, r2, e2, s2, h)) = let at : ws ≡ codes "check" ∷ codes "product" ∷ r2 = cc in ap (λ (l : List (List ℕ)). kind_chosen l) at
kind_said (CheckUser promise check) ws (w1, r1, e1, s1, (w2, r2, e2, s2, h)) = let at : ws ≡ codes "check" ∷ codes "user" ∷ r2 = cc in ap (λ (l : List (List ℕ)). kind_chosen l) at

-- a comment chooses no form
comment_chooses : (bs : List ℕ) (ws : List (List ℕ)) → kind_chosen ((35 ∷ bs) ∷ ws) ≡ None
unfolding kind_chosen
comment_chooses bs ws = refl

-- no words spell no statement
empty_says : (f : Form) (vs : List Value) → FitForm f vs → SayWords [] vs → ⊥
empty_says f [] fits h = fits
empty_says f (v ∷ vs) fits (w, ws, e, s, h) = cc

-- words that say nothing spell nothing
pub nothing_spelled : (ws : List (List ℕ)) (s : Statement) → SaysNothing ws → Spells ws s → ⊥
nothing_spelled [] s nothing spelled = empty_says (form (kind_of s)) (said s) (shaped s spelled.1) spelled.0
nothing_spelled ([] ∷ ws) s nothing spelled = absurd nothing
nothing_spelled ((b ∷ bs) ∷ ws) s nothing spelled =
    let a = kind_said s ((b ∷ bs) ∷ ws) spelled.0 in
    let c = comment_chooses bs ws in
    let d : kind_chosen ((b ∷ bs) ∷ ws) ≡ kind_chosen ((35 ∷ bs) ∷ ws) = ap (λ (n : ℕ). kind_chosen ((n ∷ bs) ∷ ws)) nothing in cc
