-- What an attempt puts, step by step, while locals give their words away.
use Rattle.std.proofs.Common.{◌≡◌, ℕ, zero, suc, ◌+◌, ◌-◌, ◌<◌, ◌≤◌, ◌==◌, List, [], ◌∷◌, ◌++◌, Bool, true, false, not, cond, Option, Some, None, length, map, drop, set, slice_index, refl, arith, ap, sym, ◌∙◌, subst, inl, inr, append_assoc, get_or-set_other}
use Rattle.std.proofs.lemmas.Bool.{false≢true, cases_Bool, cases_lt, lt-ltb, le-ltb, or_left, or_right, eq-eqb, cond-true, cond-false}
use Rattle.std.proofs.lemmas.List.{length-set, length-map, length-drop, take_all}
use Rattle.std.proofs.lemmas.Option.{none-some, same_Some}
use Rattle.std.specs.Prelude.{nat_lt, Result, Ok, Err, OnOk}
use Rattle.std.specs.List.{AllByRecursion, position, position_or_len, slice_set, slice_range}
use Rattle.rh_rules.specs.declared.body.Step.{Step}
use Rattle.rh_rules.specs.declared.body.Step.TheVariants.{Lit, Gen, Add, Sub, Mul, Scale, Shift, Cut, Join, Sum, Count, Stencil1, Stencil2, Product, Put, DropAwait}
use Rattle.rh_rules.specs.Bodies.{IsSoundWhen, drop_at, drops_of}
use Rattle.rh_plan.specs.declared.made_put.MadePut.{MadePut}
use Rattle.rh_check.specs.Checks.{words_at}
use Rattle.rh_plan.specs.Buffers.{BufferData, is_made, puts_at, puts_of, made_put, puts_with}
use Rattle.rh_attempt.specs.Attempting.{ReadsLocals, is_local, reads_local, is_read, AreAsBefore, with_step}

-- one local less, which no later put reads
pub given_away : (later : List Step) (locals after : List (List ℕ)) (local : ℕ) (words : List ℕ) → is_read later local ≡ false → after ≡ slice_set locals local words → AreAsBefore later locals after
given_away later locals after local words unread is =
    subst (AreAsBefore later locals) (sym is)
    (record {
      count = length-set locals local words;
      read = λ i here. get_or-set_other locals local i words [] (λ same. false≢true (sym unread ∙ ap (is_read later) (sym same) ∙ here));
    })

pub unchanged : (later : List Step) (locals after : List (List ℕ)) → after ≡ locals → AreAsBefore later locals after
unchanged later locals after is = subst (AreAsBefore later locals) (sym is) (record { count = refl; read = λ i here. refl })

as_later : (step : Step) (steps : List Step) (locals after : List (List ℕ)) → AreAsBefore (step ∷ steps) locals after → AreAsBefore steps locals after
as_later step steps locals after kept = record { count = kept.count; read = λ i here. kept.read i (or_right (reads_local i step) (is_read steps i) here) }

as_here : (step : Step) (steps : List Step) (locals after : List (List ℕ)) (i : ℕ) → AreAsBefore (step ∷ steps) locals after → reads_local i step ≡ true → words_at after i ≡ words_at locals i
as_here step steps locals after i kept here = kept.read i (or_left (reads_local i step) (is_read steps i) here)

same_when : (locals after : List (List ℕ)) (when : Option ℕ) → ((i : ℕ) → is_local i when ≡ true → words_at after i ≡ words_at locals i) → is_made after when ≡ is_made locals when
same_when locals after None same = refl
same_when locals after (Some y) same = ap (λ (l : List ℕ). not (slice_index l 0 == 0)) (same y (eq-eqb y y refl))

same_put : (promise local : ℕ) (when : Option ℕ) (steps : List Step) (locals after : List (List ℕ)) → AreAsBefore (Put promise local when ∷ steps) locals after → puts_at after (Put promise local when) ≡ puts_at locals (Put promise local when)
same_put promise local when steps locals after kept =
    let words = as_here (Put promise local when) steps locals after local kept (or_left (local == local) (is_local local when) (eq-eqb local local refl)) in
    let made = same_when locals after when (λ i here. as_here (Put promise local when) steps locals after i kept (or_right (local == i) (is_local i when) here)) in
    ap (λ (b : Bool). cond b ((record { promise = promise; words = words_at after local }) ∷ []) []) made
    ∙ ap (λ (l : List ℕ). cond (is_made locals when) ((record { promise = promise; words = l }) ∷ []) []) words

same_step : (step : Step) (steps : List Step) (locals after : List (List ℕ)) → AreAsBefore (step ∷ steps) locals after → puts_at after step ≡ puts_at locals step
same_step (Put promise local when) steps locals after kept = same_put promise local when steps locals after kept
same_step (Lit words) steps locals after kept = refl
same_step (Gen n start limit) steps locals after kept = refl
same_step (Add a b) steps locals after kept = refl
same_step (Sub a b) steps locals after kept = refl
same_step (Mul a b) steps locals after kept = refl
same_step (Scale a k) steps locals after kept = refl
same_step (Shift a s) steps locals after kept = refl
same_step (Cut a from len) steps locals after kept = refl
same_step (Join parts) steps locals after kept = refl
same_step (Sum a) steps locals after kept = refl
same_step (Count a) steps locals after kept = refl
same_step (Stencil1 l m r k s) steps locals after kept = refl
same_step (Stencil2 north south west east m cols k s) steps locals after kept = refl
same_step (Product matrix v) steps locals after kept = refl
same_step (DropAwait promise) steps locals after kept = refl

-- locals that are as before put as before
same_puts : (steps : List Step) (locals after : List (List ℕ)) → AreAsBefore steps locals after → puts_of after steps ≡ puts_of locals steps
same_puts [] locals after kept = refl
same_puts (step ∷ steps) locals after kept =
    ap (λ (l : List MadePut). l ++ puts_of after steps) (same_step step steps locals after kept)
    ∙ ap (λ (l : List MadePut). puts_at locals step ++ l) (same_puts steps locals after (as_later step steps locals after kept))

len_at : (locals : List (List ℕ)) (i : ℕ) → slice_index (map length locals) i ≡ length (words_at locals i)
len_at [] i = refl
len_at (l ∷ locals) zero = refl
len_at (l ∷ locals) (suc i) = len_at locals i

when_as : (locals after : List (List ℕ)) (when : Option ℕ) → length after ≡ length locals → ((i : ℕ) → is_local i when ≡ true → words_at after i ≡ words_at locals i) → IsSoundWhen (map length locals) when → IsSoundWhen (map length after) when
when_as locals after None count same sound = tt
when_as locals after (Some y) count same sound = (
  let a = length-map locals (λ (l : List ℕ). length l) in let b = length-map after (λ (l : List ℕ). length l) in omega (arith, sound.0),
  len_at after y ∙ ap length (same y (eq-eqb y y refl)) ∙ sym (len_at locals y) ∙ sound.1,
)

reads_as : (step : Step) (steps : List Step) (locals after : List (List ℕ)) → AreAsBefore (step ∷ steps) locals after → ReadsLocals (map length locals) step → ReadsLocals (map length after) step
reads_as (Put promise local when) steps locals after kept reads = (
  let a = length-map locals (λ (l : List ℕ). length l) in let b = length-map after (λ (l : List ℕ). length l) in omega (arith, reads.0, kept.count),
  when_as locals after when kept.count (λ i here. as_here (Put promise local when) steps locals after i kept (or_right (local == i) (is_local i when) here)) reads.1,
)
reads_as (Lit words) steps locals after kept reads = tt
reads_as (Gen n start limit) steps locals after kept reads = tt
reads_as (Add a b) steps locals after kept reads = tt
reads_as (Sub a b) steps locals after kept reads = tt
reads_as (Mul a b) steps locals after kept reads = tt
reads_as (Scale a k) steps locals after kept reads = tt
reads_as (Shift a s) steps locals after kept reads = tt
reads_as (Cut a from len) steps locals after kept reads = tt
reads_as (Join parts) steps locals after kept reads = tt
reads_as (Sum a) steps locals after kept reads = tt
reads_as (Count a) steps locals after kept reads = tt
reads_as (Stencil1 l m r k s) steps locals after kept reads = tt
reads_as (Stencil2 north south west east m cols k s) steps locals after kept reads = tt
reads_as (Product matrix v) steps locals after kept reads = tt
reads_as (DropAwait promise) steps locals after kept reads = tt

all_as : (steps : List Step) (locals after : List (List ℕ)) → AreAsBefore steps locals after → AllByRecursion (ReadsLocals (map length locals)) steps → AllByRecursion (ReadsLocals (map length after)) steps
all_as [] locals after kept reads = tt
all_as (step ∷ steps) locals after kept reads = (reads_as step steps locals after kept reads.0, all_as steps locals after (as_later step steps locals after kept) reads.1)

-- what the loop over the steps keeps: the buffer so far and what the steps that are left put and drop
pub record IsFilling (locals : List (List ℕ)) (buffer : BufferData) (left : List Step) (puts : List MadePut) (drops : List ℕ) : Type 0 where
  pub put_so_far : buffer.puts ++ puts_of locals left ≡ puts
  pub dropped_so_far : buffer.drops ++ drops_of left ≡ drops
  pub reads : AllByRecursion (ReadsLocals (map length locals)) left

pub filled_more : (locals after : List (List ℕ)) (buffer new : BufferData) (step : Step) (left rest : List Step) (puts : List MadePut) (drops : List ℕ) → left ≡ step ∷ rest → IsFilling locals buffer left puts drops → new ≡ with_step buffer locals step → AreAsBefore rest locals after → IsFilling after new rest puts drops
filled_more locals after buffer new step left rest puts drops is filling new_is kept =
    let here = subst (λ (l : List Step). IsFilling locals buffer l puts drops) is filling in
    subst (λ (b : BufferData). IsFilling after b rest puts drops) (sym new_is)
    (record {
      put_so_far = ap (λ (l : List MadePut). (buffer.puts ++ puts_at locals step) ++ l) (same_puts rest locals after kept) ∙ append_assoc buffer.puts (puts_at locals step) (puts_of locals rest) ∙ here.put_so_far;
      dropped_so_far = append_assoc buffer.drops (drop_at step) (drops_of rest) ∙ here.dropped_so_far;
      reads = all_as rest locals after kept here.reads.1;
    })

-- the first put to a promise gets other words
first_replaced : (q : ℕ) (words : List ℕ) (puts : List MadePut) (i : ℕ) → i ≡ position_or_len (λ p. p.promise == q) puts → i < length puts → set puts i (made_put q words) ≡ puts_with q words puts
first_replaced q words [] i is within = absurd (omega arith)
first_replaced q words (p ∷ puts) i is within = elim (cases_Bool (p.promise == q)) [
  | inl here ↦
      let zeroth : i ≡ 0 = is ∙ ap (λ (b : Bool). cond (not b) (1 + position_or_len (λ r. r.promise == q) puts) 0) here in
      ap (λ (n : ℕ). set (p ∷ puts) n (made_put q words)) zeroth
      ∙ sym (cond-true (p.promise == q) (made_put q words ∷ puts) (p ∷ puts_with q words puts) here)
  | inr other ↦
      let later : i ≡ 1 + position_or_len (λ r. r.promise == q) puts = is ∙ ap (λ (b : Bool). cond (not b) (1 + position_or_len (λ r. r.promise == q) puts) 0) other in
      let next : i ≡ suc (position_or_len (λ r. r.promise == q) puts) = omega arith in
      ap (λ (n : ℕ). set (p ∷ puts) n (made_put q words)) next
      ∙ ap (λ (l : List MadePut). p ∷ l) (first_replaced q words puts (position_or_len (λ r. r.promise == q) puts) refl (omega arith))
      ∙ sym (cond-false (p.promise == q) (made_put q words ∷ puts) (p ∷ puts_with q words puts) other)
]

place_some : (n i m : ℕ) → cond (nat_lt n m) (Some n) None ≡ Some i → (i ≡ n) × (n < m)
place_some n i m is = elim (cases_lt n m) [
  | inl below ↦ (same_Some i n (sym is ∙ cond-true (nat_lt n m) (Some n) None (lt-ltb n m below)), below)
  | inr past ↦ absurd (none-some i (sym (cond-false (nat_lt n m) (Some n) None (le-ltb n m past)) ∙ is))
]

pub replaced : (q : ℕ) (words : List ℕ) (puts : List MadePut) (i : ℕ) → position (λ p. p.promise == q) puts ≡ Some i → set puts i (made_put q words) ≡ puts_with q words puts
replaced q words puts i is =
    let (first, within) = place_some (position_or_len (λ (p : MadePut). p.promise == q) puts) i (length puts) is in
    first_replaced q words puts i first (omega arith)

pub always_ok : {T E : Type 0} (r : Result T E) (P : Type 0) → P → OnOk r P
always_ok (Ok x) P p = p
always_ok (Err e) P p = tt

-- the steps behind one of them
pub rest_is : (steps : List Step) (i : ℕ) → slice_range steps (i + 1) (length steps) ≡ drop (i + 1) steps
rest_is steps i = take_all (length steps - (i + 1)) (drop (i + 1) steps) (let long = length-drop (i + 1) steps in omega arith)

not_placed : (q : ℕ) (words : List ℕ) (puts : List MadePut) → length puts ≤ position_or_len (λ p. p.promise == q) puts → puts ≡ puts_with q words puts
not_placed q words [] past = refl
not_placed q words (p ∷ puts) past = elim (cases_Bool (p.promise == q)) [
  | inl here ↦
      let zeroth = ap (λ (b : Bool). cond (not b) (1 + position_or_len (λ r. r.promise == q) puts) 0) here in
      absurd (omega arith)
  | inr other ↦
      let later = ap (λ (b : Bool). cond (not b) (1 + position_or_len (λ r. r.promise == q) puts) 0) other in
      ap (λ (l : List MadePut). p ∷ l) (not_placed q words puts (omega arith))
      ∙ sym (cond-false (p.promise == q) (made_put q words ∷ puts) (p ∷ puts_with q words puts) other)
]

pub none_replaced : (q : ℕ) (words : List ℕ) (puts : List MadePut) → position (λ p. p.promise == q) puts ≡ None → puts ≡ puts_with q words puts
none_replaced q words puts none = elim (cases_lt (position_or_len (λ (p : MadePut). p.promise == q) puts) (length puts)) [
  | inl below ↦ absurd (none-some (position_or_len (λ (p : MadePut). p.promise == q) puts) (sym none ∙ cond-true (nat_lt (position_or_len (λ (p : MadePut). p.promise == q) puts) (length puts)) (Some (position_or_len (λ (p : MadePut). p.promise == q) puts)) None (lt-ltb (position_or_len (λ (p : MadePut). p.promise == q) puts) (length puts) below)))
  | inr past ↦ not_placed q words puts past
]
