-- Locals, promises and matrices, and how they are looked up by name.
use Rattle.std.specs.Prelude.{ℕ, ◌==◌, List, [], ◌∷◌, Bool, false, Option, Some, None, map, unwrap_or, slice_index, slice_get, position, is_some, option_and_then, cond}
use Rattle.std.specs.List.{list_any}
use Rattle.std.specs.Option.{option_map}
use Rattle.std.specs.Str.{bytes_eq}
use Rattle.rh_rules.specs.declared.node.PlannedPromise.{PlannedPromise}
use Rattle.rh_rules.specs.declared.shape.Shape.{Shape}
use Rattle.rh_rules.specs.declared.shape.NamedShape.{NamedShape}

-- a local: a name, and how many words it has
pub record LocalName : Type 0 where
  pub name : List ℕ
  pub len : ℕ

abbrev pub local : List ℕ → ℕ → LocalName
local name len = record { name = name; len = len }

-- a promise as its line declares it, with no putter
abbrev pub declared_promise : List ℕ → ℕ → Bool → Bool → PlannedPromise
declared_promise name len temp scope = record { name = name; len = len; putter = None; temp = temp; scope = scope }

-- a matrix by its line: its name, and how many rows and columns it has
abbrev pub named_shape : List ℕ → ℕ → ℕ → NamedShape
named_shape name rows cols = record { name = name; shape = record { rows = rows; cols = cols } }

-- a promise that a line puts, and the number of the node that this line is in
pub record Putting : Type 0 where
  pub promise : List ℕ
  pub node : ℕ

abbrev pub putting : List ℕ → ℕ → Putting
putting promise node = record { promise = promise; node = node }

-- whether the test holds of what is there
abbrev pub if_any : {X : Type 0} → (X → Bool) → Option X → Bool
if_any test None = false
if_any test (Some x) = test x

-- whether one of the names is this one
abbrev pub is_among : List ℕ → List (List ℕ) → Bool
is_among name names = list_any (λ n. bytes_eq n name) names

-- whether one of the numbers is this one
abbrev pub is_in : ℕ → List ℕ → Bool
is_in n numbers = list_any (λ m. m == n) numbers

-- the place of a name among locals, which is the number of the local
abbrev pub place_of : List ℕ → List LocalName → Option ℕ
place_of name locals = position (λ t. bytes_eq t.name name) locals

abbrev pub is_local : List LocalName → List ℕ → Bool
is_local locals name = is_some (place_of name locals)

abbrev pub number_of : List LocalName → List ℕ → ℕ
number_of locals name = unwrap_or (place_of name locals) 0

-- how many words each local has
abbrev pub lens_of : List LocalName → List ℕ
lens_of locals = map (λ t. t.len) locals

-- the place of a name among promises, which is the number of the promise
abbrev pub promise_at : List ℕ → List PlannedPromise → Option ℕ
promise_at name promises = position (λ p. bytes_eq p.name name) promises

abbrev pub promise_named : List PlannedPromise → List ℕ → Option PlannedPromise
promise_named promises name = option_and_then (λ i. slice_get promises i) (promise_at name promises)

abbrev pub is_promise : List PlannedPromise → List ℕ → Bool
is_promise promises name = is_some (promise_at name promises)

abbrev pub promise_number : List PlannedPromise → List ℕ → ℕ
promise_number promises name = unwrap_or (promise_at name promises) 0

-- how many words the promise has
abbrev pub promise_len : List PlannedPromise → List ℕ → ℕ
promise_len promises name = unwrap_or (option_map (λ p. p.len) (promise_named promises name)) 0

-- the place of a name among matrices, which is the number of the matrix
abbrev pub matrix_at : List ℕ → List NamedShape → Option ℕ
matrix_at name matrices = position (λ m. bytes_eq m.name name) matrices

abbrev pub is_matrix : List NamedShape → List ℕ → Bool
is_matrix matrices name = is_some (matrix_at name matrices)

abbrev pub matrix_number : List NamedShape → List ℕ → ℕ
matrix_number matrices name = unwrap_or (matrix_at name matrices) 0

-- the shape of no matrix
abbrev pub no_shape : Shape
no_shape = record { rows = 0; cols = 0 }

abbrev pub matrix_shape : List NamedShape → List ℕ → Shape
matrix_shape matrices name = unwrap_or (option_map (λ m. m.shape) (option_and_then (λ i. slice_get matrices i) (matrix_at name matrices))) no_shape

-- some node puts the promise
abbrev pub is_put : List PlannedPromise → List ℕ → Bool
is_put promises name = if_any (λ p. is_some p.putter) (promise_named promises name)

-- the promise is a scope's own
abbrev pub is_own : List PlannedPromise → List ℕ → Bool
is_own promises name = if_any (λ p. p.scope) (promise_named promises name)

-- the first of two that is there
abbrev pub or_else : Option ℕ → Option ℕ → Option ℕ
or_else None o = o
or_else (Some n) o = Some n

-- the promise, put by this node where it has this name and no putter
abbrev pub given : Putting → PlannedPromise → PlannedPromise
given put p = cond (bytes_eq put.promise p.name) (record p { putter = or_else p.putter (Some put.node) }) p

-- the promises after these puts
abbrev pub put_all : List Putting → List PlannedPromise → List PlannedPromise
put_all [] ps = ps
put_all (put ∷ puts) ps = put_all puts (map (given put) ps)
