use Rattle.std.specs.Prelude.{Result, Ok, Err, OnOk}
use Rattle.rh_plain.proofs.Steps.{told_by}
use Rattle.rh_plain.proofs.progress.Progress.tell.Goals as goal

-- what three facts give, where there is a value
of_three : {T E A B C D : Type 0} (r : Result T E) → (A → B → C → D) → OnOk r A → OnOk r B → OnOk r C → OnOk r D
of_three (Ok x) f a b c = f a b c
of_three (Err e) f a b c = tt

pub returns : goal.returns
returns c =
    of_three c.tell_ended.result
    (told_by c.args.plan.now c.args.node c.args.ending c.args.self.now c.self.inside.verdicts.items c.self.inside.values c.self.inside.history c.tell_ended.new.verdicts.items c.give_all.new.self c.tell_ended.new.values c.tell_ended.new.history c.as_slice.result.now
    c.self.view_is c.as_slice.ensures c.give_all.ensures) c.tell_ended.ensures.drawn c.tell_ended.ensures.kept c.tell_ended.ensures.verdicts
