-- An attempt of a task of a lawful plan.
use Rattle.std.proofs.Common.{◌≡◌, ℕ, List, length, map, ap, sym, ◌∙◌, subst}
use Rattle.rh_injector.specs.declared.faults.Strike.{Strike}
use Rattle.rh_injector.specs.Faults.{faults_in}
use Rattle.rh_rules.specs.declared.body.Step.{Step}
use Rattle.rh_rules.specs.Bodies.{AreSoundSteps, drops_of}
use Rattle.rh_plan.specs.Plans.{PlanData, OfNode, shapes_in}
use Rattle.rh_rules.specs.Lawful.{promise_lens}
use Rattle.rh_plan.specs.Lawful.{IsLawfulPlan}
use Rattle.rh_rules.specs.Lawful.{IsLawfulKind}
use Rattle.rh_plan.specs.Asked.{IsTaskOn}
use Rattle.rh_plan.specs.Buffers.{BufferData, buffer_data, buffer_of, copies_from, locals_from, puts_of}
use Rattle.rh_attempt.specs.Attempting.{IsAttemptAt}
use Rattle.rh_attempt.proofs.Locals.{sound_copies}

-- the steps are those of the task
abbrev pub AreStepsOf : PlanData → ℕ → List Step → Type 0
AreStepsOf plan v steps = OfNode plan v (λ node. steps ≡ node.body)

-- the body of a task is sound on the copies of what it awaits
pub sound_here : (plan : PlanData) (strikes : List Strike) (v : ℕ) (inputs locals : List (List ℕ)) (steps : List Step) → IsLawfulPlan plan → IsTaskOn plan v inputs → AreStepsOf plan v steps → locals ≡ copies_from strikes 0 inputs → AreSoundSteps (shapes_in plan) (promise_lens plan.promises) (map length locals) steps
sound_here plan strikes v inputs locals steps lawful task are copies =
    let kind = subst (IsLawfulKind (shapes_in plan) plan.promises task.node) task.kind (lawful.parts.nodes v task.node task.there).kind in
    let sound = subst (λ (l : List ℕ). AreSoundSteps (shapes_in plan) (promise_lens plan.promises) l task.node.body) (sym task.lens) kind.sound in
    sound_copies plan strikes inputs locals steps (subst (λ (l : List Step). AreSoundSteps (shapes_in plan) (promise_lens plan.promises) (map length inputs) l) (sym (are task.node task.there)) sound) copies

-- the buffer of the steps on the finished locals is that of the attempt
pub attempted : (plan : PlanData) (faults strikes : List Strike) (v k : ℕ) (inputs copies finished : List (List ℕ)) (steps : List Step) (buffer : BufferData) → AreStepsOf plan v steps → strikes ≡ faults_in faults v k → copies ≡ copies_from strikes 0 inputs → finished ≡ locals_from plan strikes copies steps → buffer ≡ buffer_data (puts_of finished steps) (drops_of steps) → IsAttemptAt plan faults v inputs k buffer
unfolding buffer_of
attempted plan faults strikes v k inputs copies finished steps buffer are strikes_are copies_are finished_are is node at =
    is ∙ ap (λ (l : List (List ℕ)). buffer_data (puts_of l steps) (drops_of steps)) finished_are
    ∙ ap (λ (l : List (List ℕ)). buffer_data (puts_of (locals_from plan strikes l steps) steps) (drops_of steps)) copies_are
    ∙ ap (λ (s : List Strike). buffer_of plan s inputs steps) strikes_are
    ∙ ap (λ (l : List Step). buffer_of plan (faults_in faults v k) inputs l) (are node at)
