-- The locals of an attempt of a task, and what it puts and drops.
use Rattle.std.specs.Prelude.{ℕ, ◌≡◌, ◌+◌, ◌==◌, ◌++◌, List, [], ◌∷◌, Option, Some, None, Bool, true, not, cond, length, map, slice_get, slice_index, if◌then◌else◌}
use Rattle.std.specs.List.{AllByRecursion, find}
use Rattle.std.specs.Option.{option_map}
use Rattle.rh_words.specs.Kernels.{lit_value, gen_value, add_value, sub_value, mul_value, scale_value, shift_value, cut_value, join_value, sum_value, count_value}
use Rattle.rh_stencil.specs.Steps.{step1_value}
use Rattle.rh_stencil.specs.Grids.{step2_value}
use Rattle.rh_sparse.specs.Matrix.{MatrixData}
use Rattle.rh_sparse.specs.Product.{product_value}
use Rattle.rh_check.specs.Checks.{words_at}
use Rattle.rh_injector.specs.declared.faults.Strike.{Strike}
use Rattle.rh_rules.specs.declared.body.Step.{Step}
use Rattle.rh_rules.specs.declared.body.Step.TheVariants.{Lit, Gen, Add, Sub, Mul, Scale, Shift, Cut, Join, Sum, Count, Stencil1, Stencil2, Product, Put, DropAwait}
use Rattle.rh_rules.specs.Bodies.{drops_of}
use Rattle.rh_rules.specs.Lawful.{promise_lens}
use Rattle.rh_plan.specs.declared.made_put.MadePut.{MadePut}
use Rattle.rh_plan.specs.Plans.{PlanData}
use Rattle.rh_plan.specs.Faulted.{faulted}

-- An attempt's buffer: what it puts, and which awaited promises it drops, in body order.
pub record BufferData : Type 0 where
  pub puts : List MadePut
  pub drops : List ℕ

abbrev pub buffer_data : List MadePut → List ℕ → BufferData
buffer_data puts drops = record { puts = puts; drops = drops }

-- the product of a matrix, where there is one, and a local
abbrev pub product_if_held : Option MatrixData → List ℕ → List ℕ
product_if_held None words = []
product_if_held (Some a) words = product_value a words

-- The result of a `let` on these locals.
abbrev pub let_value : PlanData → List (List ℕ) → Step → Option (List ℕ)
let_value plan locals (Lit words) = Some (lit_value words)
let_value plan locals (Gen n start limit) = Some (gen_value n start limit)
let_value plan locals (Add a b) = Some (add_value (words_at locals a) (words_at locals b))
let_value plan locals (Sub a b) = Some (sub_value (words_at locals a) (words_at locals b))
let_value plan locals (Mul a b) = Some (mul_value (words_at locals a) (words_at locals b))
let_value plan locals (Scale a k) = Some (scale_value (words_at locals a) k)
let_value plan locals (Shift a s) = Some (shift_value (words_at locals a) s)
let_value plan locals (Cut a from len) = Some (cut_value (words_at locals a) from len)
let_value plan locals (Join parts) = Some (join_value (map (words_at locals) parts))
let_value plan locals (Sum a) = Some (sum_value (words_at locals a) ∷ [])
let_value plan locals (Count a) = Some (count_value (words_at locals a) ∷ [])
let_value plan locals (Stencil1 l m r k s) = Some (step1_value (words_at locals l) (words_at locals m) (words_at locals r) k s)
let_value plan locals (Stencil2 north south west east m cols k s) =
    let at = words_at locals in
    Some (step2_value (at north) (at south) (at west) (at east) (at m) cols k s)
let_value plan locals (Product matrix v) = Some (product_if_held (slice_get plan.matrices matrix) (words_at locals v))
let_value plan locals (Put promise local when) = None
let_value plan locals (DropAwait promise) = None

-- one more local, as the faults of the attempt leave it
abbrev pub with_local : List Strike → List (List ℕ) → Option (List ℕ) → List (List ℕ)
with_local faults locals None = locals
with_local faults locals (Some words) = locals ++ faulted faults (length locals) words ∷ []

abbrev pub locals_after : PlanData → List Strike → List (List ℕ) → Step → List (List ℕ)
locals_after plan faults locals step = with_local faults locals (let_value plan locals step)

-- the locals after these and the steps
abbrev pub locals_from : PlanData → List Strike → List (List ℕ) → List Step → List (List ℕ)
locals_from plan faults locals [] = locals
locals_from plan faults locals (step ∷ steps) = locals_from plan faults (locals_after plan faults locals step) steps

-- the attempt's copies of the awaited words, the first of which is the local of this number
abbrev pub copies_from : List Strike → ℕ → List (List ℕ) → List (List ℕ)
copies_from faults i [] = []
copies_from faults i (words ∷ inputs) = faulted faults i words ∷ copies_from faults (i + 1) inputs

-- The locals of an attempt with these faults, on these awaited words: the copies of these in await order, then the results of the `let`
-- steps in body order.
abbrev pub locals_of : PlanData → List Strike → List (List ℕ) → List Step → List (List ℕ)
locals_of plan faults inputs steps = locals_from plan faults (copies_from faults 0 inputs) steps

-- a put without `when` is made, and one with it where the word of that local is not 0
abbrev pub is_made : List (List ℕ) → Option ℕ → Bool
is_made locals None = true
is_made locals (Some y) = not (slice_index (words_at locals y) 0 == 0)

-- what a step puts, given all locals of the attempt
abbrev pub puts_at : List (List ℕ) → Step → List MadePut
puts_at locals (Lit words) = []
puts_at locals (Gen n start limit) = []
puts_at locals (Add a b) = []
puts_at locals (Sub a b) = []
puts_at locals (Mul a b) = []
puts_at locals (Scale a k) = []
puts_at locals (Shift a s) = []
puts_at locals (Cut a from len) = []
puts_at locals (Join parts) = []
puts_at locals (Sum a) = []
puts_at locals (Count a) = []
puts_at locals (Stencil1 l m r k s) = []
puts_at locals (Stencil2 north south west east m cols k s) = []
puts_at locals (Product matrix v) = []
puts_at locals (Put promise local when) = cond (is_made locals when) ((record { promise = promise; words = words_at locals local }) ∷ []) []
puts_at locals (DropAwait promise) = []

-- what the steps put, in their order, given all locals of the attempt
abbrev pub puts_of : List (List ℕ) → List Step → List MadePut
puts_of locals [] = []
puts_of locals (step ∷ steps) = puts_at locals step ++ puts_of locals steps

-- The buffer of an attempt with these faults, on these awaited words: its puts read the finished locals.
unfoldable pub buffer_of : PlanData → List Strike → List (List ℕ) → List Step → BufferData
buffer_of plan faults inputs steps = buffer_data (puts_of (locals_of plan faults inputs steps) steps) (drops_of steps)

-- the words that a buffer puts to a promise
abbrev pub words_put : ℕ → List MadePut → Option (List ℕ)
words_put q puts = option_map (λ p. p.words) (find (λ p. p.promise == q) puts)

-- each put has as many words as its promise
abbrev pub PutsFit : PlanData → List MadePut → Type 0
PutsFit plan puts = AllByRecursion (λ p. length p.words ≡ slice_index (promise_lens plan.promises) p.promise) puts

abbrev pub made_put : ℕ → List ℕ → MadePut
made_put promise words = record { promise = promise; words = words }

-- the puts with these words in the place of those of the first put to the promise
abbrev pub puts_with : ℕ → List ℕ → List MadePut → List MadePut
puts_with q words [] = []
puts_with q words (p ∷ puts) = if p.promise == q then made_put q words ∷ puts else p ∷ puts_with q words puts

-- the buffer with these words in the place of those that it puts to the promise
abbrev pub buffer_with : ℕ → List ℕ → BufferData → BufferData
buffer_with q words b = buffer_data (puts_with q words b.puts) b.drops
