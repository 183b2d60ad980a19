-- What holds of a task while its lines are read, and that it stays so when promises are declared and put.
use Rattle.std.proofs.Common.{◌≡◌, ℕ, zero, suc, ◌<◌, ◌≤◌, List, [], ◌∷◌, ◌++◌, Bool, false, Option, Some, None, length, slice_index, refl, arith, ap, sym, ◌∙◌, subst, length-append, append_assoc, append-nil, map}
use Rattle.std.proofs.lemmas.List.{get_or_append_left}
use Rattle.std.proofs.lemmas.Option.{none-some}
use Rattle.std.specs.Prelude.{IsSomeAnd, nat_eq, slice_get, option_and_then}
use Rattle.std.specs.List.{AllByRecursion, IsDistinct}
use Rattle.rh_rules.specs.declared.shape.Shape.{Shape}
use Rattle.rh_rules.specs.declared.body.Step.{Step}
use Rattle.rh_rules.specs.declared.body.Step.TheVariants.{Lit, Gen, Add, Sub, Mul, Scale, Shift, Cut, Join, Sum, Count, Stencil1, Stencil2, Product, Put, DropAwait}
use Rattle.rh_rules.specs.declared.node.PlannedPromise.{PlannedPromise}
use Rattle.rh_rules.specs.Bodies.{AreSoundSteps, IsSoundStep, lens_at, let_len, with_len, lens_after, lens_after_all, promises_put, drops_of}
use Rattle.rh_rules.specs.Lawful.{promise_lens, putter_of, IsAmong}

-- how many words a promise or a local may have
abbrev pub IsShort : ℕ → Type 0
IsShort n = (1 ≤ n) × (n ≤ 4096)

-- the lengths of the locals after these steps
abbrev pub lens_here : List Shape → List PlannedPromise → List ℕ → List Step → List ℕ
lens_here shapes ps inputs steps = lens_after_all shapes (lens_at (promise_lens ps) inputs) steps

-- whether the promise of a number is a scope's own, where there is one
abbrev pub scope_of : List PlannedPromise → ℕ → Option Bool
scope_of ps q = option_and_then (λ p. Some p.scope) (slice_get ps q)

-- The task of this number awaits what is put before it, each once, its steps are sound, and it is the putter of what they put, each once, no scope's own promise among these.
pub record IsSoundTask (shapes : List Shape) (ps : List PlannedPromise) (v : ℕ) (inputs : List ℕ) (steps : List Step) : Type 0 where
  pub awaited : AllByRecursion (λ q. IsSomeAnd (putter_of ps q) (λ u. u < v)) inputs
  pub awaits_once : IsDistinct nat_eq inputs
  pub sound : AreSoundSteps shapes (promise_lens ps) (lens_at (promise_lens ps) inputs) steps
  pub own : AllByRecursion (λ q. putter_of ps q ≡ Some v) (promises_put steps)
  pub once : IsDistinct nat_eq (promises_put steps)
  pub unscoped : AllByRecursion (λ q. scope_of ps q ≡ Some false) (promises_put steps)
  pub dropped : AllByRecursion (IsAmong inputs) (drops_of steps)
  pub drops_once : IsDistinct nat_eq (drops_of steps)
  pub short : AllByRecursion IsShort (lens_here shapes ps inputs steps)

-- What is known of some promises is known of others: their putters, whether they are scopes' own, and their lengths and names at their places.
pub record Grows (ps qs : List PlannedPromise) : Type 0 where
  pub putters : (q u : ℕ) → putter_of ps q ≡ Some u → putter_of qs q ≡ Some u
  pub scopes : (q : ℕ) (b : Bool) → scope_of ps q ≡ Some b → scope_of qs q ≡ Some b
  pub lens : (more : List ℕ) × (promise_lens qs ≡ promise_lens ps ++ more)
  pub names : (more : List (List ℕ)) × (map (λ q. q.name) qs ≡ map (λ p. p.name) ps ++ more)

pub all_map : {X : Type 0} {P Q : X → Type 0} (xs : List X) → ((x : X) → P x → Q x) → AllByRecursion P xs → AllByRecursion Q xs
all_map [] f all = tt
all_map (x ∷ xs) f all = (f x all.0, all_map xs f all.1)

pub all_append : {X : Type 0} (P : X → Type 0) (xs ys : List X) → AllByRecursion P xs → AllByRecursion P ys → AllByRecursion P (xs ++ ys)
all_append P [] ys a b = b
all_append P (x ∷ xs) ys a b = (a.0, all_append P xs ys a.1 b)

pub some_and : {X : Type 0} (P : X → Type 0) (a b : Option X) → ((x : X) → a ≡ Some x → b ≡ Some x) → IsSomeAnd a P → IsSomeAnd b P
some_and P None b f h = absurd h
some_and P (Some x) b f h = subst (λ o. IsSomeAnd o P) (sym (f x refl)) h

pub some_is : {X : Type 0} (P : X → Type 0) (a : Option X) (x : X) → a ≡ Some x → P x → IsSomeAnd a P
some_is P a x e h = subst (λ o. IsSomeAnd o P) (sym e) h

pub some_parts : {X : Type 0} (P : X → Type 0) (a : Option X) → IsSomeAnd a P → (x : X) × (a ≡ Some x) × P x
some_parts P None h = absurd h
some_parts P (Some x) h = (x, refl, h)

-- a promise with a putter is there
pub putter_within : (ps : List PlannedPromise) (q u : ℕ) → putter_of ps q ≡ Some u → q < length (promise_lens ps)
putter_within [] q u e = absurd (none-some u e)
putter_within (p ∷ ps) zero u e = omega arith
putter_within (p ∷ ps) (suc q) u e = let h = putter_within ps q u e in omega arith

-- the lengths of promises that are there stay
pub lens_at_grown : (lens more numbers : List ℕ) → AllByRecursion (λ q. q < length lens) numbers → lens_at (lens ++ more) numbers ≡ lens_at lens numbers
lens_at_grown lens more [] all = refl
lens_at_grown lens more (q ∷ numbers) all =
    let h : q < length lens = all.0 in
    ap (λ (n : ℕ). n ∷ lens_at (lens ++ more) numbers) (get_or_append_left lens more 0 q h)
    ∙ ap (λ (l : List ℕ). slice_index lens q ∷ l) (lens_at_grown lens more numbers all.1)

step_grown : (shapes : List Shape) (promises more lens : List ℕ) (step : Step) → IsSoundStep shapes promises lens step → IsSoundStep shapes (promises ++ more) lens step
step_grown shapes promises more lens (Put promise local when) sound =
    let h : promise < length promises = sound.0 in
    (omega (arith, length-append promises more), sound.1, sound.2 ∙ sym (get_or_append_left promises more 0 promise h), sound.3)
step_grown shapes promises more lens (DropAwait promise) sound =
    let h : promise < length promises = sound in
    omega (arith, length-append promises more)
step_grown shapes promises more lens (Lit words) sound = sound
step_grown shapes promises more lens (Gen n start limit) sound = sound
step_grown shapes promises more lens (Add a b) sound = sound
step_grown shapes promises more lens (Sub a b) sound = sound
step_grown shapes promises more lens (Mul a b) sound = sound
step_grown shapes promises more lens (Scale a k) sound = sound
step_grown shapes promises more lens (Shift a s) sound = sound
step_grown shapes promises more lens (Cut a from len) sound = sound
step_grown shapes promises more lens (Join parts) sound = sound
step_grown shapes promises more lens (Sum a) sound = sound
step_grown shapes promises more lens (Count a) sound = sound
step_grown shapes promises more lens (Stencil1 l m r k s) sound = sound
step_grown shapes promises more lens (Stencil2 north south west east m cols k s) sound = sound
step_grown shapes promises more lens (Product matrix v) sound = sound

pub steps_grown : (shapes : List Shape) (promises more lens : List ℕ) (steps : List Step) → AreSoundSteps shapes promises lens steps → AreSoundSteps shapes (promises ++ more) lens steps
steps_grown shapes promises more lens [] sound = tt
steps_grown shapes promises more lens (step ∷ steps) sound = (step_grown shapes promises more lens step sound.0, steps_grown shapes promises more (lens_after shapes lens step) steps sound.1)

pub steps_push : (shapes : List Shape) (promises lens : List ℕ) (steps : List Step) (step : Step) → AreSoundSteps shapes promises lens steps → IsSoundStep shapes promises (lens_after_all shapes lens steps) step → AreSoundSteps shapes promises lens (steps ++ step ∷ [])
steps_push shapes promises lens [] step sound one = (one, tt)
steps_push shapes promises lens (s ∷ steps) step sound one = (sound.0, steps_push shapes promises (lens_after shapes lens s) steps step sound.1 one)

pub lens_after_push : (shapes : List Shape) (lens : List ℕ) (steps : List Step) (step : Step) → lens_after_all shapes lens (steps ++ step ∷ []) ≡ lens_after shapes (lens_after_all shapes lens steps) step
lens_after_push shapes lens [] step = refl
lens_after_push shapes lens (s ∷ steps) step = lens_after_push shapes (lens_after shapes lens s) steps step

more_lens : (lens : List ℕ) (o : Option ℕ) → (more : List ℕ) × (with_len lens o ≡ lens ++ more)
more_lens lens None = ([], sym (append-nil lens))
more_lens lens (Some n) = (n ∷ [], refl)

-- the locals of a task begin with those that it has when it begins
pub lens_begin : (shapes : List Shape) (lens : List ℕ) (steps : List Step) → (more : List ℕ) × (lens_after_all shapes lens steps ≡ lens ++ more)
lens_begin shapes lens [] = ([], sym (append-nil lens))
lens_begin shapes lens (step ∷ steps) =
    let (one, here) = more_lens lens (let_len shapes lens step) in
    let (rest, there) = lens_begin shapes (lens_after shapes lens step) steps in
    (one ++ rest, there ∙ ap (λ (l : List ℕ). l ++ rest) here ∙ append_assoc lens one rest)

-- awaited promises are there
pub awaited_within : (ps : List PlannedPromise) (v : ℕ) (numbers : List ℕ) → AllByRecursion (λ q. IsSomeAnd (putter_of ps q) (λ u. u < v)) numbers → AllByRecursion (λ q. q < length (promise_lens ps)) numbers
awaited_within ps v numbers all = all_map numbers (λ q h. let k = some_parts (λ u. u < v) (putter_of ps q) h in putter_within ps q k.0 k.1) all

-- the locals of a task stay as long as they are
pub inputs_grown : (ps qs : List PlannedPromise) (v : ℕ) (inputs : List ℕ) → Grows ps qs → AllByRecursion (λ q. IsSomeAnd (putter_of ps q) (λ u. u < v)) inputs → lens_at (promise_lens qs) inputs ≡ lens_at (promise_lens ps) inputs
inputs_grown ps qs v inputs grows awaited =
    let (more, lens) = grows.lens in
    ap (λ (l : List ℕ). lens_at l inputs) lens ∙ lens_at_grown (promise_lens ps) more inputs (awaited_within ps v inputs awaited)

pub locals_grown : (shapes : List Shape) (ps qs : List PlannedPromise) (v : ℕ) (inputs : List ℕ) (steps : List Step) → Grows ps qs → AllByRecursion (λ q. IsSomeAnd (putter_of ps q) (λ u. u < v)) inputs → lens_here shapes qs inputs steps ≡ lens_here shapes ps inputs steps
locals_grown shapes ps qs v inputs steps grows awaited = ap (λ (l : List ℕ). lens_after_all shapes l steps) (inputs_grown ps qs v inputs grows awaited)

pub task_grown : (shapes : List Shape) (ps qs : List PlannedPromise) (v : ℕ) (inputs : List ℕ) (steps : List Step) → Grows ps qs → IsSoundTask shapes ps v inputs steps → IsSoundTask shapes qs v inputs steps
task_grown shapes ps qs v inputs steps grows task =
    let (more, lens) = grows.lens in
    let same = inputs_grown ps qs v inputs grows task.awaited in
    let body : AreSoundSteps shapes (promise_lens qs) (lens_at (promise_lens ps) inputs) steps =
    subst (λ (l : List ℕ). AreSoundSteps shapes l (lens_at (promise_lens ps) inputs) steps) (sym lens) (steps_grown shapes (promise_lens ps) more (lens_at (promise_lens ps) inputs) steps task.sound) in
    record {
      awaited = all_map inputs (λ q h. some_and (λ u. u < v) (putter_of ps q) (putter_of qs q) (grows.putters q) h) task.awaited;
      awaits_once = task.awaits_once;
      sound = subst (λ (l : List ℕ). AreSoundSteps shapes (promise_lens qs) l steps) (sym same) body;
      own = all_map (promises_put steps) (λ q h. grows.putters q v h) task.own;
      once = task.once;
      unscoped = all_map (promises_put steps) (λ q h. grows.scopes q false h) task.unscoped;
      dropped = task.dropped;
      drops_once = task.drops_once;
      short = subst (AllByRecursion IsShort) (sym (locals_grown shapes ps qs v inputs steps grows task.awaited)) task.short;
    }
