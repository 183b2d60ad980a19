use Rattle.std.specs.Prelude.{Result, Ok, Err, IfOk}
use Rattle.rh_journal.specs.Own.{run_of}
use Rattle.rh_plain.proofs.running.run_plain.Goals as goal

-- what two facts give, where there is a value
of_two : {T E : Type 0} (r : Result T E) (P Q R : T → Type 0) → ((x : T) → P x → Q x → R x) → IfOk r P → IfOk r Q → IfOk r R
of_two (Ok x) P Q R f p q = f x p q
of_two (Err e) P Q R f p q = tt

pub returns-clause-tells : goal.returns-clause-tells
returns-clause-tells g c =
    of_two c.into_outcome.result _ _ _
    (λ outcome journal shown. rw journal (rw shown (c.one_thread_tells.ensures (run_of c.args.plan.now c.args.faults.now) c.nodes-known.ensures.lawful)))
    c.into_outcome.ensures.journal c.into_outcome.ensures.shown
