-- The locals of an attempt, one after another.
use Rattle.std.proofs.Common.{◌≡◌, ℕ, ◌+◌, ◌<◌, List, [], ◌∷◌, ◌++◌, Option, Some, None, length, map, drop, refl, arith, ap, sym, ◌∙◌, subst, append_assoc, append-nil, length-append}
use Rattle.std.proofs.lemmas.List.{map-append, drop_more, get_or_append_left}
use Rattle.std.proofs.lemmas.List.Folds.{concat-append}
use Rattle.std.proofs.lemmas.Option.{get_or_from_slice_get}
use Rattle.std.specs.List.{AllByRecursion, slice_get, concat}
use Rattle.rh_words.specs.Kernels.{join_value}
use Rattle.rh_injector.specs.declared.faults.Strike.{Strike}
use Rattle.rh_rules.specs.declared.body.Step.{Step}
use Rattle.rh_rules.specs.declared.body.Step.TheVariants.{Lit, Gen, Add, Sub, Mul, Scale, Shift, Cut, Join, Sum, Count, Stencil1, Stencil2, Product, Put, DropAwait}
use Rattle.rh_attempt.specs.Attempting.{ReadsLocals}
use Rattle.rh_rules.specs.declared.shape.Shape.{Shape}
use Rattle.rh_rules.specs.Bodies.{AreSoundSteps, IsSoundStep, IsSoundWhen, let_len, lens_after, lens_after_all, with_len}
use Rattle.rh_plan.specs.Plans.{PlanData, shapes_in}
use Rattle.rh_rules.specs.Lawful.{promise_lens}
use Rattle.rh_plan.specs.Faulted.{faulted}
use Rattle.rh_check.specs.Checks.{words_at}
use Rattle.rh_plan.specs.Buffers.{copies_from, locals_after, locals_from}
use Rattle.rh_plan.proofs.Fitting.{lens_copies, lens_step}

-- one more copy of an awaited list
pub copied : (strikes : List Strike) (locals lists whole : List (List ℕ)) (i : ℕ) (words copy : List ℕ) → i < length lists → slice_get lists i ≡ Some words → copy ≡ faulted strikes i words → locals ++ copies_from strikes i (drop i lists) ≡ whole → (locals ++ copy ∷ []) ++ copies_from strikes (i + 1) (drop (i + 1) lists) ≡ whole
copied strikes locals lists whole i words copy within at is all =
    let front : drop i lists ≡ words ∷ drop (i + 1) lists = drop_more lists i words within ∙ ap (λ (w : List ℕ). w ∷ drop (i + 1) lists) (get_or_from_slice_get lists i words words at) in
    let here = subst (λ (l : List (List ℕ)). locals ++ copies_from strikes i l ≡ whole) front all in
    append_assoc locals (copy ∷ []) (copies_from strikes (i + 1) (drop (i + 1) lists))
    ∙ ap (λ (c : List ℕ). locals ++ c ∷ copies_from strikes (i + 1) (drop (i + 1) lists)) is ∙ here

-- one more part of a join
pub joined_more : (locals : List (List ℕ)) (before after : List ℕ) (parts : List ℕ) (part : ℕ) → before ≡ join_value (map (words_at locals) parts) → after ≡ before ++ words_at locals part → after ≡ join_value (map (words_at locals) (parts ++ part ∷ []))
joined_more locals before after parts part is is_after =
    is_after ∙ ap (λ (l : List ℕ). l ++ words_at locals part) is
    ∙ ap (λ (l : List ℕ). join_value (map (words_at locals) parts) ++ l) (sym (append-nil (words_at locals part)))
    ∙ sym (concat-append (map (words_at locals) parts) (words_at locals part ∷ []))
    ∙ ap (λ (l : List (List ℕ)). concat l) (sym (map-append (words_at locals) parts (part ∷ [])))

-- what the loop over the steps keeps: the steps that are left make the locals whole
pub record IsMaking (plan : PlanData) (strikes : List Strike) (locals : List (List ℕ)) (left : List Step) (whole : List (List ℕ)) : Type 0 where
  pub made : locals_from plan strikes locals left ≡ whole
  pub sound : AreSoundSteps (shapes_in plan) (promise_lens plan.promises) (map length locals) left

pub made_more : (plan : PlanData) (strikes : List Strike) (locals after : List (List ℕ)) (step : Step) (left rest : List Step) (whole : List (List ℕ)) → left ≡ step ∷ rest → IsMaking plan strikes locals left whole → after ≡ locals_after plan strikes locals step → IsMaking plan strikes after rest whole
made_more plan strikes locals after step left rest whole is making after_is =
    let here = subst (λ (l : List Step). IsMaking plan strikes locals l whole) is making in
    subst (λ (l : List (List ℕ)). IsMaking plan strikes l rest whole) (sym after_is)
    (record {
      made = here.made;
      sound = subst (λ (l : List ℕ). AreSoundSteps (shapes_in plan) (promise_lens plan.promises) l rest) (sym (lens_step plan (promise_lens plan.promises) strikes locals step here.sound.0)) here.sound.1;
    })

-- the body of a task is sound on the copies of its awaited words
pub sound_copies : (plan : PlanData) (strikes : List Strike) (inputs locals : List (List ℕ)) (body : List Step) → AreSoundSteps (shapes_in plan) (promise_lens plan.promises) (map length inputs) body → locals ≡ copies_from strikes 0 inputs → AreSoundSteps (shapes_in plan) (promise_lens plan.promises) (map length locals) body
sound_copies plan strikes inputs locals body sound are =
    let lens : map length locals ≡ map length inputs = ap (λ (l : List (List ℕ)). map length l) are ∙ lens_copies strikes 0 inputs in
    subst (λ (l : List ℕ). AreSoundSteps (shapes_in plan) (promise_lens plan.promises) l body) (sym lens) sound

-- the lengths of all locals of sound steps
lens_all : (plan : PlanData) (strikes : List Strike) (locals : List (List ℕ)) (steps : List Step) → AreSoundSteps (shapes_in plan) (promise_lens plan.promises) (map length locals) steps → map length (locals_from plan strikes locals steps) ≡ lens_after_all (shapes_in plan) (map length locals) steps
lens_all plan strikes locals [] sound = refl
lens_all plan strikes locals (step ∷ steps) sound =
    let next = lens_step plan (promise_lens plan.promises) strikes locals step sound.0 in
    lens_all plan strikes (locals_after plan strikes locals step) steps (subst (λ (l : List ℕ). AreSoundSteps (shapes_in plan) (promise_lens plan.promises) l steps) (sym next) sound.1)
    ∙ ap (λ (l : List ℕ). lens_after_all (shapes_in plan) l steps) next

more_with : (lens : List ℕ) (o : Option ℕ) → (more : List ℕ) × (with_len lens o ≡ lens ++ more)
more_with lens None = ([], sym (append-nil lens))
more_with lens (Some n) = (n ∷ [], refl)

more_lens : (shapes : List Shape) (lens : List ℕ) (steps : List Step) → (more : List ℕ) × (lens_after_all shapes lens steps ≡ lens ++ more)
more_lens shapes lens [] = ([], sym (append-nil lens))
more_lens shapes lens (step ∷ steps) =
    let (one, here) = more_with lens (let_len shapes lens step) in
    let (rest, there) = more_lens shapes (lens_after shapes lens step) steps in
    (one ++ rest, there ∙ ap (λ (l : List ℕ). l ++ rest) here ∙ append_assoc lens one rest)

when_more : (lens more : List ℕ) (when : Option ℕ) → IsSoundWhen lens when → IsSoundWhen (lens ++ more) when
when_more lens more None sound = tt
when_more lens more (Some y) sound = (let l = length-append lens more in omega (arith, sound.0), get_or_append_left lens more 0 y sound.0 ∙ sound.1)

reads_more : (shapes : List Shape) (ps lens more : List ℕ) (step : Step) → IsSoundStep shapes ps lens step → ReadsLocals (lens ++ more) step
reads_more shapes ps lens more (Put promise local when) sound = (let l = length-append lens more in omega (arith, sound.1), when_more lens more when sound.3)
reads_more shapes ps lens more (Lit words) sound = tt
reads_more shapes ps lens more (Gen n start limit) sound = tt
reads_more shapes ps lens more (Add a b) sound = tt
reads_more shapes ps lens more (Sub a b) sound = tt
reads_more shapes ps lens more (Mul a b) sound = tt
reads_more shapes ps lens more (Scale a k) sound = tt
reads_more shapes ps lens more (Shift a s) sound = tt
reads_more shapes ps lens more (Cut a from len) sound = tt
reads_more shapes ps lens more (Join parts) sound = tt
reads_more shapes ps lens more (Sum a) sound = tt
reads_more shapes ps lens more (Count a) sound = tt
reads_more shapes ps lens more (Stencil1 l m r k s) sound = tt
reads_more shapes ps lens more (Stencil2 north south west east m cols k s) sound = tt
reads_more shapes ps lens more (Product matrix v) sound = tt
reads_more shapes ps lens more (DropAwait promise) sound = tt

reads_all : (shapes : List Shape) (ps lens : List ℕ) (steps : List Step) → AreSoundSteps shapes ps lens steps → AllByRecursion (ReadsLocals (lens_after_all shapes lens steps)) steps
reads_all shapes ps lens [] sound = tt
reads_all shapes ps lens (step ∷ steps) sound =
    let (more, is) = more_lens shapes lens (step ∷ steps) in
    (subst (λ (l : List ℕ). ReadsLocals l step) (sym is) (reads_more shapes ps lens more step sound.0), reads_all shapes ps (lens_after shapes lens step) steps sound.1)

-- the puts of sound steps read locals that are there once all are made
pub puts_read : (plan : PlanData) (strikes : List Strike) (locals finished : List (List ℕ)) (steps : List Step) → AreSoundSteps (shapes_in plan) (promise_lens plan.promises) (map length locals) steps → finished ≡ locals_from plan strikes locals steps → AllByRecursion (ReadsLocals (map length finished)) steps
puts_read plan strikes locals finished steps sound is =
    let lens : map length finished ≡ lens_after_all (shapes_in plan) (map length locals) steps = ap (λ (l : List (List ℕ)). map length l) is ∙ lens_all plan strikes locals steps sound in
    subst (λ (l : List ℕ). AllByRecursion (ReadsLocals l) steps) (sym lens) (reads_all (shapes_in plan) (promise_lens plan.promises) (map length locals) steps sound)
