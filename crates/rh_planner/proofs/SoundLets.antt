-- The step of a `let` that keeps the rules and the grammar is sound.
use Rattle.std.proofs.Common.{◌≡◌, ℕ, zero, suc, ◌+◌, ◌*◌, ◌<◌, ◌≤◌, ◌==◌, ◌&&◌, List, [], ◌∷◌, ◌++◌, ◌∙◌, get_or, Bool, true, false, sym, Option, Some, not, refl, arith, length, map, sum, ap, subst, unwrap_or, slice_index}
use Rattle.std.proofs.lemmas.Bool.{false≢true}
use Rattle.std.proofs.lemmas.Bool.Decides.{nat_tests}
use Rattle.std.proofs.lemmas.Option.{none-some, slice_get-get_or}
use Rattle.std.proofs.lemmas.List.{length-map}
use Rattle.std.proofs.lemmas.List.Sums.{sum_by-cons}
use Rattle.std.proofs.lemmas.List.Quantifiers.{position-Some}
use Rattle.std.specs.Prelude.{nat_le, slice_get, option_and_then}
use Rattle.std.specs.Option.{option_map}
use Rattle.std.specs.Str.{bytes_eq}
use Rattle.std.specs.List.{list_any, AllByRecursion}
use Rattle.rh_task_text.specs.declared.statement.Statement.{Statement}
use Rattle.rh_task_text.specs.declared.statement.Statement.TheVariants as text
use Rattle.rh_rules.specs.declared.shape.Shape.{Shape}
use Rattle.rh_rules.specs.declared.shape.NamedShape.{NamedShape}
use Rattle.rh_rules.specs.declared.body.Step.{Step}
use Rattle.rh_rules.specs.declared.body.Step.TheVariants as steps
use Rattle.rh_rules.specs.Tables.{LocalName, local, if_any, place_of, is_local, number_of, lens_of, named_shape, matrix_at, is_matrix, matrix_number, matrix_shape, no_shape}
use Rattle.rh_rules.specs.Facets.{facets, are_sides}
use Rattle.rh_rules.specs.Limits.{IsWithinLimits}
use Rattle.rh_rules.specs.Bodies.{IsThere, IsSoundStep, let_len, put_at, drop_at}
use Rattle.rh_rules.specs.Above.{matrix_used, shape_used, numbers_used, lens_used, made_len}
use Rattle.rh_planner.specs.Sound.{shapes_named}
use Rattle.rh_tables.proofs.Using.{not_false, neither}
use Rattle.rh_tables.proofs.SoundTasks.{IsShort, some_is}
use Rattle.rh_planner.proofs.DeclaredPromises.{some_of, all_at, mapped_at, slice_get_append}

-- the number of a local that is there
abbrev pub IsKnown : List LocalName → List ℕ → Type 0
IsKnown ls x = number_of ls x < length (lens_of ls)

pub known : (ls : List LocalName) (x : List ℕ) → is_local ls x ≡ true → IsKnown ls x
known ls x there =
    let (i, at) = some_of (place_of x ls) there in
    let h : i < length ls = (position-Some (λ (t : LocalName). bytes_eq t.name x) ls i (local [] 0) at).0 in
    let number : number_of ls x ≡ i = ap (λ (o : Option ℕ). unwrap_or o 0) at in
    let same : length (lens_of ls) ≡ length ls = simp length-map in
    omega arith

pub all_known : (ls : List LocalName) (xs : List (List ℕ)) → list_any (λ y. not (is_local ls y)) xs ≡ false → AllByRecursion (IsKnown ls) xs
all_known ls [] e = tt
all_known ls (x ∷ xs) e =
    let (first, rest) = neither (not (is_local ls x)) (list_any (λ y. not (is_local ls y)) xs) e in
    (known ls x (not_false (is_local ls x) first), all_known ls xs rest)

-- a length at a place that is there
pub short_at : (lens : List ℕ) (i : ℕ) → AllByRecursion IsShort lens → i < length lens → IsShort (slice_index lens i)
short_at [] i all h = absurd (omega arith)
short_at (n ∷ lens) zero all h = all.0
short_at (n ∷ lens) (suc i) all h = short_at lens i all.1 (omega arith)

-- the step of a `let`: sound, and as long as the local that it makes
pub record IsSoundLet (shapes : List Shape) (promises lens : List ℕ) (step : Option Step) (len : ℕ) : Type 0 where
  pub made : Step
  pub is : step ≡ Some made
  pub sound : IsSoundStep shapes promises lens made
  pub long : let_len shapes lens made ≡ Some len
  pub short : 1 ≤ len
  pub puts : put_at made ≡ []
  pub drops : drop_at made ≡ []

parts_there : (ls : List LocalName) (xs : List (List ℕ)) → AllByRecursion (IsKnown ls) xs → AllByRecursion (IsThere (lens_of ls)) (map (number_of ls) xs)
parts_there ls [] k = tt
parts_there ls (x ∷ xs) k = (k.0, parts_there ls xs k.1)

same : (a b : ℕ) → (a == b) ≡ true → a ≡ b
same a b e = grind (arith, nat_tests)

at_most : (a b : ℕ) → nat_le a b ≡ true → a ≤ b
at_most a b e = grind (arith, nat_tests)

sum_first : (lens : List ℕ) (ls : List LocalName) (xs : List (List ℕ)) → lens ≡ lens_of ls → 0 < length xs → AllByRecursion IsShort lens → AllByRecursion (IsKnown ls) xs → 1 ≤ sum (map (λ i. slice_index (lens_of ls) i) (map (number_of ls) xs))
sum_first lens ls [] is few short k = absurd (omega arith)
sum_first lens ls (x ∷ xs) is few short k =
    let h : 1 ≤ slice_index (lens_of ls) (number_of ls x) = (short_at (lens_of ls) (number_of ls x) (subst (AllByRecursion IsShort) is short) k.0).0 in
    let first : sum (map (λ i. slice_index (lens_of ls) i) (map (number_of ls) (x ∷ xs))) ≡ slice_index (lens_of ls) (number_of ls x) + sum (map (λ i. slice_index (lens_of ls) i) (map (number_of ls) xs)) = sum_by-cons (λ (n : ℕ). n) (slice_index (lens_of ls) (number_of ls x)) (map (λ i. slice_index (lens_of ls) i) (map (number_of ls) xs)) in
    omega arith

some_at : (ls : List LocalName) (x : List ℕ) → AllByRecursion IsShort (lens_of ls) → IsKnown ls x → 1 ≤ slice_index (lens_of ls) (number_of ls x)
some_at ls x short k = (short_at (lens_of ls) (number_of ls x) short k).0

both_true : (a b : Bool) → (a && b) ≡ true → (a ≡ true) × (b ≡ true)
both_true true b e = (refl, e)
both_true false b e = absurd (false≢true e)

-- the four sides fit the grid, as equations
pub record SidesFit (cols : ℕ) (lens : List ℕ) : Type 0 where
  pub north : slice_index lens 0 ≡ cols
  pub south : slice_index lens 1 ≡ cols
  pub east : slice_index lens 2 ≡ slice_index lens 3
  pub whole : slice_index lens 2 * cols ≡ slice_index lens 4

pub sides_fit : (cols : ℕ) (lens : List ℕ) → are_sides cols lens ≡ true → SidesFit cols lens
sides_fit cols lens fits =
    let (north, rest) = both_true (slice_index lens 0 == cols) _ fits in
    let (south, more) = both_true (slice_index lens 1 == cols) _ rest in
    let (east, whole) = both_true (slice_index lens 2 == slice_index lens 3) _ more in
    record { north = same _ _ north; south = same _ _ south; east = same _ _ east; whole = same _ _ whole }

-- the shapes begin with those of the matrices of the lines above, each of which has a row
pub record AreFirstShapes (shapes : List Shape) (ms : List NamedShape) : Type 0 where
  pub more : List Shape
  pub whole : shapes ≡ shapes_named ms ++ more
  pub rows : AllByRecursion (λ m. 1 ≤ m.shape.rows) ms

-- the shape of a matrix that is named, by its number
pub record IsNamedMatrix (shapes : List Shape) (ms : List NamedShape) (name : List ℕ) : Type 0 where
  pub at : slice_get shapes (matrix_number ms name) ≡ Some (matrix_shape ms name)
  pub some : 1 ≤ (matrix_shape ms name).rows

pub matrix_there : (shapes : List Shape) (ms : List NamedShape) (name : List ℕ) → AreFirstShapes shapes ms → is_matrix ms name ≡ true → IsNamedMatrix shapes ms name
matrix_there shapes ms name first there =
    let (i, place) = some_of (matrix_at name ms) there in
    let d : NamedShape = named_shape [] 0 0 in
    let m : NamedShape = get_or ms i d in
    let here : slice_get ms i ≡ Some m = slice_get-get_or ms i d (position-Some (λ (n : NamedShape). bytes_eq n.name name) ms i d place).0 in
    let number : matrix_number ms name ≡ i = ap (λ (o : Option ℕ). unwrap_or o 0) place in
    let shape : matrix_shape ms name ≡ m.shape =
    ap (λ (o : Option ℕ). unwrap_or (option_map (λ (n : NamedShape). n.shape) (option_and_then (λ k. slice_get ms k) o)) no_shape) place ∙ ap (λ (o : Option NamedShape). unwrap_or (option_map (λ n. n.shape) o) no_shape) here in
    let at : slice_get shapes i ≡ Some m.shape = ap (λ (l : List Shape). slice_get l i) first.whole ∙ slice_get_append (shapes_named ms) first.more i m.shape (mapped_at (λ (n : NamedShape). n.shape) ms i m here) in
    record {
      at = ap (λ (k : ℕ). slice_get shapes k) number ∙ at ∙ ap (λ (s : Shape). Some s) (sym shape);
      some = subst (λ (s : Shape). 1 ≤ s.rows) (sym shape) (all_at (λ (n : NamedShape). 1 ≤ n.shape.rows) ms i m first.rows here);
    }

pub let_sound : (shapes : List Shape) (s : Statement) (promises : List ℕ) (ms : List NamedShape) (ls : List LocalName) (x : List ℕ) → AreFirstShapes shapes ms → if_any (λ a. not (is_matrix ms a)) (facets s).matrix ≡ false → (facets s).made ≡ Some x → IsWithinLimits s
    → AllByRecursion IsShort (lens_of ls) → AllByRecursion (IsKnown ls) (facets s).used → (facets s).fits (shape_used ms s) (lens_used ls s) ≡ true → made_len ms ls s ≤ 4096
    → IsSoundLet shapes promises (lens_of ls) ((facets s).step (matrix_used ms s) (numbers_used ls s)) (made_len ms ls s)
unfolding facets
let_sound shapes (text.LetLit y words) promises ms ls x first named e h short k fits most = record { made = steps.Lit words; is = refl; sound = h; long = refl; short = h.0; puts = refl; drops = refl }
let_sound shapes (text.LetGen y n start limit) promises ms ls x first named e h short k fits most = record { made = steps.Gen n start limit; is = refl; sound = h; long = refl; short = h.0; puts = refl; drops = refl }
let_sound shapes (text.LetAdd y a c) promises ms ls x first named e h short k fits most =
    let na = number_of ls a in let nc = number_of ls c in
    record { made = steps.Add na nc; is = refl; sound = (k.0, k.1.0, same _ _ fits); long = refl; short = (short_at (lens_of ls) na short k.0).0; puts = refl; drops = refl }
let_sound shapes (text.LetSub y a c) promises ms ls x first named e h short k fits most =
    let na = number_of ls a in let nc = number_of ls c in
    record { made = steps.Sub na nc; is = refl; sound = (k.0, k.1.0, same _ _ fits); long = refl; short = (short_at (lens_of ls) na short k.0).0; puts = refl; drops = refl }
let_sound shapes (text.LetMul y a c) promises ms ls x first named e h short k fits most =
    let na = number_of ls a in let nc = number_of ls c in
    record { made = steps.Mul na nc; is = refl; sound = (k.0, k.1.0, same _ _ fits); long = refl; short = (short_at (lens_of ls) na short k.0).0; puts = refl; drops = refl }
let_sound shapes (text.LetScale y a f) promises ms ls x first named e h short k fits most =
    record { made = steps.Scale (number_of ls a) f; is = refl; sound = k.0; long = refl; short = (short_at (lens_of ls) (number_of ls a) short k.0).0; puts = refl; drops = refl }
let_sound shapes (text.LetShift y a n) promises ms ls x first named e h short k fits most =
    record { made = steps.Shift (number_of ls a) n; is = refl; sound = (k.0, h); long = refl; short = (short_at (lens_of ls) (number_of ls a) short k.0).0; puts = refl; drops = refl }
let_sound shapes (text.LetCut y a from len) promises ms ls x first named e h short k fits most =
    let some : 0 < len = h in
    record { made = steps.Cut (number_of ls a) from len; is = refl; sound = (k.0, some, at_most (from + len) (slice_index (lens_of ls) (number_of ls a)) fits); long = refl; short = some; puts = refl; drops = refl }
let_sound shapes (text.LetJoin y parts) promises ms ls x first named e h short k fits most =
    let some : 0 < length parts = h.0 in
    let few : length parts ≤ 16 = h.1 in
    let same_length : length (map (number_of ls) parts) ≡ length parts = simp length-map in
    record { made = steps.Join (map (number_of ls) parts); is = refl; sound = (parts_there ls parts k, omega arith, omega arith, most); long = refl; short = sum_first (lens_of ls) ls parts refl some short k; puts = refl; drops = refl }
let_sound shapes (text.LetSum y a) promises ms ls x first named e h short k fits most =
    record { made = steps.Sum (number_of ls a); is = refl; sound = k.0; long = refl; short = omega arith; puts = refl; drops = refl }
let_sound shapes (text.LetCount y a) promises ms ls x first named e h short k fits most =
    record { made = steps.Count (number_of ls a); is = refl; sound = k.0; long = refl; short = omega arith; puts = refl; drops = refl }
let_sound shapes (text.LetStencil1 y l m r f n) promises ms ls x first named e h short k fits most =
    record { made = steps.Stencil1 (number_of ls l) (number_of ls m) (number_of ls r) f n; is = refl; sound = ((k.0, some_at ls l short k.0), (k.1.0, some_at ls m short k.1.0), (k.1.1.0, some_at ls r short k.1.1.0), h); long = refl; short = some_at ls m short k.1.0; puts = refl; drops = refl }
let_sound shapes (text.LetStencil2 y north south west east m cols f n) promises ms ls x first named e h short k fits most =
    let sides = sides_fit cols (lens_used ls (text.LetStencil2 y north south west east m cols f n)) fits in
    record {
      made = steps.Stencil2 (number_of ls north) (number_of ls south) (number_of ls west) (number_of ls east) (number_of ls m) cols f n;
      is = refl;
      sound = (record { there = (k.0, k.1.0, k.1.1.0, k.1.1.1.0, k.1.1.1.1.0); columns = h.0; rows = some_at ls west short k.1.1.0; north_len = sides.north; south_len = sides.south; east_len = sym sides.east; whole = sym sides.whole }, h.1);
      long = refl;
      short = some_at ls m short k.1.1.1.1.0;
      puts = refl;
      drops = refl;
    }
let_sound shapes (text.LetProduct y a v) promises ms ls x first named e h short k fits most =
    let m = matrix_there shapes ms a first (not_false (is_matrix ms a) named) in
    record {
      made = steps.Product (matrix_number ms a) (number_of ls v);
      is = refl;
      sound = (k.0, some_is (λ (s : Shape). slice_index (lens_of ls) (number_of ls v) ≡ s.cols) (slice_get shapes (matrix_number ms a)) (matrix_shape ms a) m.at (same _ _ fits));
      long = ap (λ (o : Option Shape). Some (unwrap_or (option_map (λ s. s.rows) o) 0)) m.at;
      short = m.some;
      puts = refl;
      drops = refl;
    }
let_sound shapes s promises ms ls x first named e h short k fits most = absurd (none-some x e)
