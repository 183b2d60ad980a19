-- What sound steps put has as many words as the promises.
use Rattle.std.proofs.Common.{◌≡◌, ℕ, zero, suc, ◌+◌, ◌-◌, ◌<◌, ◌≤◌, ◌==◌, List, [], ◌∷◌, ◌++◌, Bool, true, false, cond, Option, Some, None, length, map, sum, slice_index, refl, arith, ap, sym, ◌∙◌, subst, inl, inr, length-append, append_assoc, append-nil}
use Rattle.std.proofs.lemmas.List.{map-append, length-map, length-take, length-drop, get_or_append_left}
use Rattle.std.proofs.lemmas.List.Sums.{sum_by-cons}
use Rattle.std.proofs.lemmas.List.FromFn.{length-map-range_with_len}
use Rattle.std.proofs.lemmas.Bool.{cases_Bool, eqb-true, cond-true, cond-false}
use Rattle.std.proofs.lemmas.Option.{none-some, same_Some}
use Rattle.std.specs.List.{slice_get, AllByRecursion, find, concat, slice_range}
use Rattle.std.specs.Prelude.{drop}
use Rattle.std.specs.Option.{option_map}
use Rattle.rh_words.specs.Kernels.{word_by_word, gen_word}
use Rattle.rh_words.specs.Modular.{add_word, sub_word, mul_word, asr_word}
use Rattle.rh_stencil.specs.Steps.{line_word, last_word, first_word}
use Rattle.rh_stencil.specs.Grids.{grid_word}
use Rattle.rh_injector.specs.declared.faults.Strike.{Strike}
use Rattle.rh_rules.specs.declared.body.Step.{Step}
use Rattle.rh_rules.specs.declared.body.Step.TheVariants.{Lit, Gen, Add, Sub, Mul, Scale, Shift, Cut, Join, Sum, Count, Stencil1, Stencil2, Product, Put, DropAwait}
use Rattle.rh_sparse.specs.Matrix.{MatrixData}
use Rattle.rh_sparse.specs.Product.{row_product}
use Rattle.rh_rules.specs.Bodies.{rows_at, shapes_of, IsSoundStep, AreAlike, let_len, with_len, lens_after, AreSoundSteps}
use Rattle.rh_plan.specs.declared.made_put.MadePut.{MadePut}
use Rattle.rh_rules.specs.Lawful.{promise_lens}
use Rattle.rh_plan.specs.Plans.{PlanData, shapes_in}
use Rattle.rh_plan.specs.Faulted.{faulted, faulted_from}
use Rattle.rh_check.specs.Checks.{words_at}
use Rattle.rh_plan.specs.Buffers.{product_if_held, let_value, with_local, locals_after, locals_from, copies_from, is_made, puts_at, puts_of, buffer_of, words_put, PutsFit}

length-faulted_from : (faults : List Strike) (local at : ℕ) (words : List ℕ) → length (faulted_from faults local at words) ≡ length words
length-faulted_from faults local at [] = refl
length-faulted_from faults local at (w ∷ words) = ap suc (length-faulted_from faults local (at + 1) words)

pub lens_copies : (faults : List Strike) (i : ℕ) (inputs : List (List ℕ)) → map length (copies_from faults i inputs) ≡ map length inputs
lens_copies faults i [] = refl
lens_copies faults i (words ∷ inputs) =
    ap (λ (n : ℕ). n ∷ map length (copies_from faults (i + 1) inputs)) (length-faulted_from faults i 0 words)
    ∙ ap (λ (l : List ℕ). length words ∷ l) (lens_copies faults (i + 1) inputs)

length-words_at : (locals : List (List ℕ)) (i : ℕ) → i < length (map length locals) → length (words_at locals i) ≡ slice_index (map length locals) i
length-words_at [] i h = absurd (omega arith)
length-words_at (l ∷ locals) zero h = refl
length-words_at (l ∷ locals) (suc i) h = length-words_at locals i (omega arith)

length-word_by_word : (f : ℕ → ℕ → ℕ) (xs ys : List ℕ) → length xs ≡ length ys → length (word_by_word f xs ys) ≡ length xs
length-word_by_word f [] ys e = refl
length-word_by_word f (x ∷ xs) [] e = absurd (omega arith)
length-word_by_word f (x ∷ xs) (y ∷ ys) e = ap suc (length-word_by_word f xs ys (omega arith))

-- the length of a result that is made word by word of two locals
len_of_both : (f : ℕ → ℕ → ℕ) (locals : List (List ℕ)) (a b : ℕ) → AreAlike (map length locals) a b → length (word_by_word f (words_at locals a) (words_at locals b)) ≡ slice_index (map length locals) a
len_of_both f locals a b sound =
    let same : length (words_at locals a) ≡ length (words_at locals b) = length-words_at locals a sound.0 ∙ sound.2 ∙ sym (length-words_at locals b sound.1) in
    length-word_by_word f (words_at locals a) (words_at locals b) same ∙ length-words_at locals a sound.0

-- the length of a result that is made word by word of one local
len_of_each : (f : ℕ → ℕ) (locals : List (List ℕ)) (a : ℕ) → a < length (map length locals) → length (map f (words_at locals a)) ≡ slice_index (map length locals) a
len_of_each f locals a there = length-map (words_at locals a) f ∙ length-words_at locals a there

len_of_join : (locals : List (List ℕ)) (parts : List ℕ) → AllByRecursion (λ a. a < length (map length locals)) parts → length (concat (map (words_at locals) parts)) ≡ sum (map (slice_index (map length locals)) parts)
len_of_join locals [] there = refl
len_of_join locals (a ∷ parts) there =
    let here = length-words_at locals a there.0 in
    let rest = len_of_join locals parts there.1 in
    length-append (words_at locals a) (concat (map (words_at locals) parts)) ∙ ap (λ (n : ℕ). n + length (concat (map (words_at locals) parts))) here ∙ ap (λ (n : ℕ). slice_index (map length locals) a + n) rest
    ∙ sym (sum_by-cons (λ x. x) (slice_index (map length locals) a) (map (slice_index (map length locals)) parts))

len_of_cut : (from len : ℕ) (words : List ℕ) (n : ℕ) → length words ≡ n → from + len ≤ n → length (slice_range words from (from + len)) ≡ len
len_of_cut from len words n is fits =
    let cut = length-take (from + len - from) (drop from words) in
    let rest = length-drop from words in
    omega arith

-- a product has a word for each row of its matrix
len_of_product : (matrices : List MatrixData) (matrix : ℕ) (words : List ℕ) → length (product_if_held (slice_get matrices matrix) words) ≡ rows_at (shapes_of matrices) matrix
len_of_product [] matrix words = refl
len_of_product (a ∷ matrices) zero words = length-map a.rows (row_product words)
len_of_product (a ∷ matrices) (suc matrix) words = len_of_product matrices matrix words

-- the length of a `let` result
pub len_of_let : (plan : PlanData) (ps : List ℕ) (locals : List (List ℕ)) (step : Step) → IsSoundStep (shapes_in plan) ps (map length locals) step → option_map length (let_value plan locals step) ≡ let_len (shapes_in plan) (map length locals) step
len_of_let plan ps locals (Lit words) sound = refl
len_of_let plan ps locals (Gen n start limit) sound = ap Some (length-map-range_with_len (gen_word start limit) 0 n)
len_of_let plan ps locals (Add a b) sound = ap Some (len_of_both add_word locals a b sound)
len_of_let plan ps locals (Sub a b) sound = ap Some (len_of_both sub_word locals a b sound)
len_of_let plan ps locals (Mul a b) sound = ap Some (len_of_both mul_word locals a b sound)
len_of_let plan ps locals (Scale a k) sound = ap Some (len_of_each (λ x. mul_word x k) locals a sound)
len_of_let plan ps locals (Shift a s) sound = ap Some (len_of_each (λ x. asr_word x s) locals a sound.0)
len_of_let plan ps locals (Cut a from len) sound = ap Some (len_of_cut from len (words_at locals a) (slice_index (map length locals) a) (length-words_at locals a sound.0) sound.2)
len_of_let plan ps locals (Join parts) sound = ap Some (len_of_join locals parts sound.0)
len_of_let plan ps locals (Sum a) sound = refl
len_of_let plan ps locals (Count a) sound = refl
len_of_let plan ps locals (Stencil1 l m r k s) sound =
    ap Some (length-map-range_with_len (line_word (last_word (words_at locals l)) (words_at locals m) (first_word (words_at locals r)) k s) 0 (length (words_at locals m)) ∙ length-words_at locals m sound.1.0)
len_of_let plan ps locals (Stencil2 north south west east m cols k s) sound =
    let at = words_at locals in
    ap Some (length-map-range_with_len (grid_word (at north) (at south) (at west) (at east) (at m) cols k s) 0 (length (at m)) ∙ length-words_at locals m sound.0.there.4)
len_of_let plan ps locals (Product matrix v) sound = ap Some (len_of_product plan.matrices matrix (words_at locals v))
len_of_let plan ps locals (Put promise local when) sound = refl
len_of_let plan ps locals (DropAwait promise) sound = refl

lens_with : (faults : List Strike) (locals : List (List ℕ)) (o : Option (List ℕ)) → map length (with_local faults locals o) ≡ with_len (map length locals) (option_map length o)
lens_with faults locals None = refl
lens_with faults locals (Some words) =
    map-append length locals (faulted faults (length locals) words ∷ [])
    ∙ ap (λ (n : ℕ). map length locals ++ n ∷ []) (length-faulted_from faults (length locals) 0 words)

-- the lengths of the locals after a step
pub lens_step : (plan : PlanData) (ps : List ℕ) (faults : List Strike) (locals : List (List ℕ)) (step : Step) → IsSoundStep (shapes_in plan) ps (map length locals) step → map length (locals_after plan faults locals step) ≡ lens_after (shapes_in plan) (map length locals) step
lens_step plan ps faults locals step sound = lens_with faults locals (let_value plan locals step) ∙ ap (with_len (map length locals)) (len_of_let plan ps locals step sound)

-- more locals than these, behind them
abbrev Extends : List (List ℕ) → List (List ℕ) → Type 0
Extends locals all = (more : List (List ℕ)) × (all ≡ locals ++ more)

extends_with : (faults : List Strike) (locals : List (List ℕ)) (o : Option (List ℕ)) → Extends locals (with_local faults locals o)
extends_with faults locals None = ([], sym (append-nil locals))
extends_with faults locals (Some words) = (faulted faults (length locals) words ∷ [], refl)

extends_from : (plan : PlanData) (faults : List Strike) (locals : List (List ℕ)) (steps : List Step) → Extends locals (locals_from plan faults locals steps)
extends_from plan faults locals [] = ([], sym (append-nil locals))
extends_from plan faults locals (step ∷ steps) =
    let (one, after) = extends_with faults locals (let_value plan locals step) in
    let (more, all) = extends_from plan faults (locals_after plan faults locals step) steps in
    (one ++ more, all ∙ ap (λ (l : List (List ℕ)). l ++ more) after ∙ append_assoc locals one more)

-- A local never changes: among all locals it is what it was when it was made.
pub local_stays : (plan : PlanData) (faults : List Strike) (locals : List (List ℕ)) (steps : List Step) (i : ℕ) → i < length (map length locals) → words_at (locals_from plan faults locals steps) i ≡ words_at locals i
local_stays plan faults locals steps i there =
    let (more, all) = extends_from plan faults locals steps in
    let long = length-map locals (λ (l : List ℕ). length l) in
    ap (λ (l : List (List ℕ)). words_at l i) all ∙ get_or_append_left locals more [] i (omega arith)

fits_append : (plan : PlanData) (ps qs : List MadePut) → PutsFit plan ps → PutsFit plan qs → PutsFit plan (ps ++ qs)
fits_append plan [] qs a b = b
fits_append plan (p ∷ ps) qs a b = (a.0, fits_append plan ps qs a.1 b)

fits_if : (plan : PlanData) (made : Bool) (ps : List MadePut) → PutsFit plan ps → PutsFit plan (cond made ps [])
fits_if plan true ps fit = fit
fits_if plan false ps fit = tt

put_fits : (plan : PlanData) (faults : List Strike) (locals : List (List ℕ)) (steps : List Step) (promise local : ℕ) (when : Option ℕ) → IsSoundStep (shapes_in plan) (promise_lens plan.promises) (map length locals) (Put promise local when) → PutsFit plan (puts_at (locals_from plan faults locals steps) (Put promise local when))
put_fits plan faults locals steps promise local when sound =
    let all = locals_from plan faults locals steps in
    fits_if plan (is_made all when) ((record { promise = promise; words = words_at all local }) ∷ [])
    (ap length (local_stays plan faults locals steps local sound.1) ∙ length-words_at locals local sound.1 ∙ sound.2, tt)

step_fits : (plan : PlanData) (faults : List Strike) (locals : List (List ℕ)) (steps : List Step) (step : Step) → IsSoundStep (shapes_in plan) (promise_lens plan.promises) (map length locals) step → PutsFit plan (puts_at (locals_from plan faults locals steps) step)
step_fits plan faults locals steps (Put promise local when) sound = put_fits plan faults locals steps promise local when sound
step_fits plan faults locals steps (Lit words) sound = tt
step_fits plan faults locals steps (Gen n start limit) sound = tt
step_fits plan faults locals steps (Add a b) sound = tt
step_fits plan faults locals steps (Sub a b) sound = tt
step_fits plan faults locals steps (Mul a b) sound = tt
step_fits plan faults locals steps (Scale a k) sound = tt
step_fits plan faults locals steps (Shift a s) sound = tt
step_fits plan faults locals steps (Cut a from len) sound = tt
step_fits plan faults locals steps (Join parts) sound = tt
step_fits plan faults locals steps (Sum a) sound = tt
step_fits plan faults locals steps (Count a) sound = tt
step_fits plan faults locals steps (Stencil1 l m r k s) sound = tt
step_fits plan faults locals steps (Stencil2 north south west east m cols k s) sound = tt
step_fits plan faults locals steps (Product matrix v) sound = tt
step_fits plan faults locals steps (DropAwait promise) sound = tt

puts_fit : (plan : PlanData) (faults : List Strike) (locals : List (List ℕ)) (steps : List Step) → AreSoundSteps (shapes_in plan) (promise_lens plan.promises) (map length locals) steps → PutsFit plan (puts_of (locals_from plan faults locals steps) steps)
puts_fit plan faults locals [] sound = tt
puts_fit plan faults locals (step ∷ steps) sound =
    fits_append plan (puts_at (locals_from plan faults locals (step ∷ steps)) step) (puts_of (locals_from plan faults locals (step ∷ steps)) steps)
    (step_fits plan faults locals (step ∷ steps) step sound.0)
    (puts_fit plan faults (locals_after plan faults locals step) steps (subst (λ (l : List ℕ). AreSoundSteps (shapes_in plan) (promise_lens plan.promises) l steps) (sym (lens_step plan (promise_lens plan.promises) faults locals step sound.0)) sound.1))

-- what an attempt of a sound body puts fits, whatever faults it has
pub buffer_fits : (plan : PlanData) (faults : List Strike) (inputs : List (List ℕ)) (steps : List Step) → AreSoundSteps (shapes_in plan) (promise_lens plan.promises) (map length inputs) steps → PutsFit plan (buffer_of plan faults inputs steps).puts
unfolding buffer_of
buffer_fits plan faults inputs steps sound =
    puts_fit plan faults (copies_from faults 0 inputs) steps (subst (λ (l : List ℕ). AreSoundSteps (shapes_in plan) (promise_lens plan.promises) l steps) (sym (lens_copies faults 0 inputs)) sound)

pub words_fit : (plan : PlanData) (puts : List MadePut) (q : ℕ) (w : List ℕ) → PutsFit plan puts → words_put q puts ≡ Some w → length w ≡ slice_index (promise_lens plan.promises) q
words_fit plan [] q w fit is = absurd (none-some w is)
words_fit plan (p ∷ puts) q w fit is = elim (cases_Bool (p.promise == q)) [
  | inl same ↦
      let here = ap (option_map (λ r. r.words)) (cond-true (p.promise == q) (Some p) (find (λ r. r.promise == q) puts) same) in
      let words : p.words ≡ w = same_Some p.words w (sym here ∙ is) in
      ap length (sym words) ∙ fit.0 ∙ ap (λ (k : ℕ). slice_index (promise_lens plan.promises) k) (eqb-true p.promise q same)
  | inr other ↦
      let rest = ap (option_map (λ r. r.words)) (cond-false (p.promise == q) (Some p) (find (λ r. r.promise == q) puts) other) in
      words_fit plan puts q w fit.1 (sym rest ∙ is)
]
