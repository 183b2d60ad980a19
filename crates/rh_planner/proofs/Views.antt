-- The statements, by what they do: a promise, a matrix, a row, a task, a scope, a group, an end, a `let`, a put, a drop or a check.
use Rattle.std.proofs.Common.{◌≡◌, ℕ, ◌+◌, List, ◌∷◌, Bool, true, Option, Some, refl}
use Rattle.rh_task_text.specs.declared.statement.Statement.{Statement}
use Rattle.rh_task_text.specs.declared.statement.Statement.TheVariants as text
use Rattle.rh_task_text.specs.declared.statement.SchemeText.{SchemeText}
use Rattle.rh_task_text.specs.declared.form.Standing.TheVariants.{InTask}
use Rattle.rh_task_text.specs.declared.form.Change.TheVariants.{Stays}
use Rattle.rh_task_text.specs.Forms.{form}
use Rattle.rh_task_text.specs.Statements.{kind_of, said}
use Rattle.rh_words.specs.Naming.{is_name}
use Rattle.rh_words.specs.Values.{AreSayable}
use Rattle.rh_task_text.specs.Blocks.{change_by, lets_here, checks_here}
use Rattle.rh_rules.specs.Facets.{facets}

-- a `let` stands in a task, changes no block, counts as one and makes a local of a name
pub record IsLet (s : Statement) (x : List ℕ) : Type 0 where
  pub made : (facets s).made ≡ Some x
  pub standing : (form (kind_of s)).standing ≡ InTask
  pub change : change_by s ≡ Stays
  pub counted : (above : List Statement) → lets_here (s ∷ above) ≡ lets_here above + 1
  pub checks : (above : List Statement) → checks_here (s ∷ above) ≡ checks_here above
  pub named : AreSayable (said s) → is_name x ≡ true

-- a check stands in a task, changes no block and counts as one
pub record IsCheck (s : Statement) (q : List ℕ) : Type 0 where
  pub checked : (facets s).checked ≡ Some q
  pub standing : (form (kind_of s)).standing ≡ InTask
  pub change : change_by s ≡ Stays
  pub lets : (above : List Statement) → lets_here (s ∷ above) ≡ lets_here above
  pub counted : (above : List Statement) → checks_here (s ∷ above) ≡ checks_here above + 1

pub data View : Statement → Type 0 where
  as_promise : (name : List ℕ) (len : ℕ) (temp : Bool) → View (text.Promise name len temp)
  as_matrix : (name : List ℕ) (rows cols : ℕ) → View (text.Matrix name rows cols)
  as_row : (columns values : List ℕ) → View (text.Row columns values)
  as_task : (name : List ℕ) (scheme : SchemeText) (awaits : List (List ℕ)) → View (text.Task name scheme awaits)
  as_finish : (name : List ℕ) → View (text.Finish name)
  as_group : (name : List ℕ) (awaits : List (List ℕ)) → View (text.Group name awaits)
  as_end : View text.End
  as_let : (s : Statement) (x : List ℕ) → IsLet s x → View s
  as_put : (promise x : List ℕ) (when : Option (List ℕ)) → View (text.Put promise x when)
  as_drop : (promise : List ℕ) → View (text.DropAwait promise)
  as_check : (s : Statement) (q : List ℕ) → IsCheck s q → View s

pub view : (s : Statement) → View s
unfolding facets
view (text.Promise name len temp) = as_promise name len temp
view (text.Matrix name rows cols) = as_matrix name rows cols
view (text.Row columns values) = as_row columns values
view (text.Task name scheme awaits) = as_task name scheme awaits
view (text.Finish name) = as_finish name
view (text.Group name awaits) = as_group name awaits
view text.End = as_end
view (text.LetLit x words) = as_let (text.LetLit x words) x (record { made = refl; standing = refl; change = refl; counted = λ above. refl; checks = λ above. refl; named = λ h. h.1.0 })
view (text.LetGen x n start limit) = as_let (text.LetGen x n start limit) x (record { made = refl; standing = refl; change = refl; counted = λ above. refl; checks = λ above. refl; named = λ h. h.1.0 })
view (text.LetAdd x a c) = as_let (text.LetAdd x a c) x (record { made = refl; standing = refl; change = refl; counted = λ above. refl; checks = λ above. refl; named = λ h. h.1.0 })
view (text.LetSub x a c) = as_let (text.LetSub x a c) x (record { made = refl; standing = refl; change = refl; counted = λ above. refl; checks = λ above. refl; named = λ h. h.1.0 })
view (text.LetMul x a c) = as_let (text.LetMul x a c) x (record { made = refl; standing = refl; change = refl; counted = λ above. refl; checks = λ above. refl; named = λ h. h.1.0 })
view (text.LetScale x a k) = as_let (text.LetScale x a k) x (record { made = refl; standing = refl; change = refl; counted = λ above. refl; checks = λ above. refl; named = λ h. h.1.0 })
view (text.LetShift x a s) = as_let (text.LetShift x a s) x (record { made = refl; standing = refl; change = refl; counted = λ above. refl; checks = λ above. refl; named = λ h. h.1.0 })
view (text.LetCut x a from len) = as_let (text.LetCut x a from len) x (record { made = refl; standing = refl; change = refl; counted = λ above. refl; checks = λ above. refl; named = λ h. h.1.0 })
view (text.LetJoin x parts) = as_let (text.LetJoin x parts) x (record { made = refl; standing = refl; change = refl; counted = λ above. refl; checks = λ above. refl; named = λ h. h.1.0 })
view (text.LetSum x a) = as_let (text.LetSum x a) x (record { made = refl; standing = refl; change = refl; counted = λ above. refl; checks = λ above. refl; named = λ h. h.1.0 })
view (text.LetCount x a) = as_let (text.LetCount x a) x (record { made = refl; standing = refl; change = refl; counted = λ above. refl; checks = λ above. refl; named = λ h. h.1.0 })
view (text.LetStencil1 x l m r k s) = as_let (text.LetStencil1 x l m r k s) x (record { made = refl; standing = refl; change = refl; counted = λ above. refl; checks = λ above. refl; named = λ h. h.1.0 })
view (text.LetStencil2 x north south west east m cols k s) = as_let (text.LetStencil2 x north south west east m cols k s) x (record { made = refl; standing = refl; change = refl; counted = λ above. refl; checks = λ above. refl; named = λ h. h.1.0 })
view (text.LetProduct x a v) = as_let (text.LetProduct x a v) x (record { made = refl; standing = refl; change = refl; counted = λ above. refl; checks = λ above. refl; named = λ h. h.1.0 })
view (text.Put promise x when) = as_put promise x when
view (text.DropAwait promise) = as_drop promise
view (text.CheckRange promise lo hi) = as_check (text.CheckRange promise lo hi) promise (record { checked = refl; standing = refl; change = refl; lets = λ above. refl; counted = λ above. refl })
view (text.CheckTotal promise total) = as_check (text.CheckTotal promise total) promise (record { checked = refl; standing = refl; change = refl; lets = λ above. refl; counted = λ above. refl })
view (text.CheckLinear promise base inputs factors) = as_check (text.CheckLinear promise base inputs factors) promise (record { checked = refl; standing = refl; change = refl; lets = λ above. refl; counted = λ above. refl })
view (text.CheckConserve promise l m r k s) = as_check (text.CheckConserve promise l m r k s) promise (record { checked = refl; standing = refl; change = refl; lets = λ above. refl; counted = λ above. refl })
view (text.CheckConserve2 promise north south west east m cols k s) = as_check (text.CheckConserve2 promise north south west east m cols k s) promise (record { checked = refl; standing = refl; change = refl; lets = λ above. refl; counted = λ above. refl })
view (text.CheckProduct promise a q) = as_check (text.CheckProduct promise a q) promise (record { checked = refl; standing = refl; change = refl; lets = λ above. refl; counted = λ above. refl })
view (text.CheckUser promise check) = as_check (text.CheckUser promise check) promise (record { checked = refl; standing = refl; change = refl; lets = λ above. refl; counted = λ above. refl })
