-- What the steps of a body use, how long their locals are, and what they put and drop.
use Rattle.std.specs.Prelude.{ℕ, ◌≡◌, ◌<◌, ◌≤◌, ◌+◌, ◌*◌, ◌^◌, List, [], ◌∷◌, ◌++◌, ⊤, Option, Some, None, length, sum, map, slice_get, slice_index, unwrap_or, IsSomeAnd}
use Rattle.std.specs.List.{AllByRecursion}
use Rattle.std.specs.Option.{option_map}
use Rattle.rh_words.specs.declared.limits.TheConstants.{MAX_PROMISE_WORDS, MAX_SHIFT, MAX_PARTS}
use Rattle.rh_sparse.specs.Matrix.{MatrixData}
use Rattle.rh_rules.specs.declared.shape.Shape.{Shape}
use Rattle.rh_rules.specs.declared.body.Step.{Step}
use Rattle.rh_rules.specs.declared.body.Step.TheVariants.{Lit, Gen, Add, Sub, Mul, Scale, Shift, Cut, Join, Sum, Count, Stencil1, Stencil2, Product, Put, DropAwait}

abbrev pub shapes_of : List MatrixData → List Shape
shapes_of matrices = map (λ a. record { rows = length a.rows; cols = a.cols }) matrices

-- how many rows the matrix of this number has
abbrev pub rows_at : List Shape → ℕ → ℕ
rows_at shapes matrix = unwrap_or (option_map (λ s. s.rows) (slice_get shapes matrix)) 0

-- the local of this number is there
abbrev pub IsThere : List ℕ → ℕ → Type 0
IsThere lens a = a < length lens

-- two locals that are there and equally long
abbrev pub AreAlike : List ℕ → ℕ → ℕ → Type 0
AreAlike lens a b = IsThere lens a × IsThere lens b × (slice_index lens a ≡ slice_index lens b)

-- a local that is there and not empty
abbrev pub HasWords : List ℕ → ℕ → Type 0
HasWords lens a = IsThere lens a × (0 < slice_index lens a)

-- The local m is a grid of `cols` words a row. Those in the north and the south have a word for each column, those in the west and the
-- east one for each row.
pub record AreHalos (lens : List ℕ) (north south west east m cols : ℕ) : Type 0 where
  pub there : IsThere lens north × IsThere lens south × IsThere lens west × IsThere lens east × IsThere lens m
  pub columns : 0 < cols
  pub rows : 0 < slice_index lens west
  pub north_len : slice_index lens north ≡ cols
  pub south_len : slice_index lens south ≡ cols
  pub east_len : slice_index lens east ≡ slice_index lens west
  pub whole : slice_index lens m ≡ slice_index lens west * cols

-- a local of one word, where there is a `when`
abbrev pub IsSoundWhen : List ℕ → Option ℕ → Type 0
IsSoundWhen lens None = ⊤
IsSoundWhen lens (Some y) = IsThere lens y × (slice_index lens y ≡ 1)

-- the lengths of the locals at these numbers
abbrev pub lens_at : List ℕ → List ℕ → List ℕ
lens_at lens numbers = map (λ i. slice_index lens i) numbers

-- The step uses locals that are there, of the lengths that it needs, and its own numbers are within their limits. Matrices are given by their shapes, promises and locals by their lengths.
abbrev pub IsSoundStep : List Shape → List ℕ → List ℕ → Step → Type 0
IsSoundStep shapes promises lens (Lit words) = (0 < length words) × (length words ≤ MAX_PROMISE_WORDS) × AllByRecursion (λ w. w < 2 ^ 64) words
IsSoundStep shapes promises lens (Gen n start limit) = (0 < n) × (n ≤ MAX_PROMISE_WORDS) × (0 < limit)
IsSoundStep shapes promises lens (Add a b) = AreAlike lens a b
IsSoundStep shapes promises lens (Sub a b) = AreAlike lens a b
IsSoundStep shapes promises lens (Mul a b) = AreAlike lens a b
IsSoundStep shapes promises lens (Scale a k) = IsThere lens a
IsSoundStep shapes promises lens (Shift a s) = IsThere lens a × (s ≤ MAX_SHIFT)
IsSoundStep shapes promises lens (Cut a from len) = IsThere lens a × (0 < len) × (from + len ≤ slice_index lens a)
IsSoundStep shapes promises lens (Join parts) = AllByRecursion (IsThere lens) parts × (0 < length parts) × (length parts ≤ MAX_PARTS) × (sum (lens_at lens parts) ≤ MAX_PROMISE_WORDS)
IsSoundStep shapes promises lens (Sum a) = IsThere lens a
IsSoundStep shapes promises lens (Count a) = IsThere lens a
IsSoundStep shapes promises lens (Stencil1 l m r k s) = HasWords lens l × HasWords lens m × HasWords lens r × (s ≤ MAX_SHIFT)
IsSoundStep shapes promises lens (Stencil2 north south west east m cols k s) = AreHalos lens north south west east m cols × (s ≤ MAX_SHIFT)
IsSoundStep shapes promises lens (Product matrix v) = IsThere lens v × IsSomeAnd (slice_get shapes matrix) (λ s. slice_index lens v ≡ s.cols)
IsSoundStep shapes promises lens (Put promise local when) = (promise < length promises) × IsThere lens local × (slice_index lens local ≡ slice_index promises promise) × IsSoundWhen lens when
IsSoundStep shapes promises lens (DropAwait promise) = promise < length promises

-- how many words the result of a `let` has
abbrev pub let_len : List Shape → List ℕ → Step → Option ℕ
let_len shapes lens (Lit words) = Some (length words)
let_len shapes lens (Gen n start limit) = Some n
let_len shapes lens (Add a b) = Some (slice_index lens a)
let_len shapes lens (Sub a b) = Some (slice_index lens a)
let_len shapes lens (Mul a b) = Some (slice_index lens a)
let_len shapes lens (Scale a k) = Some (slice_index lens a)
let_len shapes lens (Shift a s) = Some (slice_index lens a)
let_len shapes lens (Cut a from len) = Some len
let_len shapes lens (Join parts) = Some (sum (lens_at lens parts))
let_len shapes lens (Sum a) = Some 1
let_len shapes lens (Count a) = Some 1
let_len shapes lens (Stencil1 l m r k s) = Some (slice_index lens m)
let_len shapes lens (Stencil2 north south west east m cols k s) = Some (slice_index lens m)
let_len shapes lens (Product matrix v) = Some (rows_at shapes matrix)
let_len shapes lens (Put promise local when) = None
let_len shapes lens (DropAwait promise) = None

abbrev pub with_len : List ℕ → Option ℕ → List ℕ
with_len lens None = lens
with_len lens (Some n) = lens ++ n ∷ []

-- the lengths of the locals after a step, and after these steps
abbrev pub lens_after : List Shape → List ℕ → Step → List ℕ
lens_after shapes lens step = with_len lens (let_len shapes lens step)

abbrev pub lens_after_all : List Shape → List ℕ → List Step → List ℕ
lens_after_all shapes lens [] = lens
lens_after_all shapes lens (step ∷ steps) = lens_after_all shapes (lens_after shapes lens step) steps

-- each step is sound where it stands
abbrev pub AreSoundSteps : List Shape → List ℕ → List ℕ → List Step → Type 0
AreSoundSteps shapes promises lens [] = ⊤
AreSoundSteps shapes promises lens (step ∷ steps) = IsSoundStep shapes promises lens step × AreSoundSteps shapes promises (lens_after shapes lens step) steps

-- the promise of a `put`
abbrev pub put_at : Step → List ℕ
put_at (Lit words) = []
put_at (Gen n start limit) = []
put_at (Add a b) = []
put_at (Sub a b) = []
put_at (Mul a b) = []
put_at (Scale a k) = []
put_at (Shift a s) = []
put_at (Cut a from len) = []
put_at (Join parts) = []
put_at (Sum a) = []
put_at (Count a) = []
put_at (Stencil1 l m r k s) = []
put_at (Stencil2 north south west east m cols k s) = []
put_at (Product matrix v) = []
put_at (Put promise local when) = promise ∷ []
put_at (DropAwait promise) = []

-- the promises that the steps may put, in their order
abbrev pub promises_put : List Step → List ℕ
promises_put [] = []
promises_put (step ∷ steps) = put_at step ++ promises_put steps

-- the promise of a `drop`
abbrev pub drop_at : Step → List ℕ
drop_at (Lit words) = []
drop_at (Gen n start limit) = []
drop_at (Add a b) = []
drop_at (Sub a b) = []
drop_at (Mul a b) = []
drop_at (Scale a k) = []
drop_at (Shift a s) = []
drop_at (Cut a from len) = []
drop_at (Join parts) = []
drop_at (Sum a) = []
drop_at (Count a) = []
drop_at (Stencil1 l m r k s) = []
drop_at (Stencil2 north south west east m cols k s) = []
drop_at (Product matrix v) = []
drop_at (Put promise local when) = []
drop_at (DropAwait promise) = promise ∷ []

-- the awaits that the steps drop, in their order
abbrev pub drops_of : List Step → List ℕ
drops_of [] = []
drops_of (step ∷ steps) = drop_at step ++ drops_of steps
