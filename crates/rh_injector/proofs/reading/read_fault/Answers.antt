use Rattle.std.proofs.Common.{List, sym, ◌∙◌, subst}
use Rattle.rh_words.specs.Text.{words_of}
use Rattle.rh_words.specs.Values.{SayWords}
use Rattle.rh_words.specs.declared.value.Value.{Value}
use Rattle.rh_injector.proofs.FaultAnswers.{kept_words}
use Rattle.rh_injector.proofs.reading.read_fault.Goals as goal

pub fault_of-requires : goal.fault_of-requires
fault_of-requires c =
    let told = kept_words c.in_ok-_kept._kept (words_of c.args.line.now) c.fault_places.result c.read.new.self c.fault_places.ensures c.in_ok-_kept.ensures.ok in
    rw c.as_slice.ensures told.1

pub returns-clause-ok : goal.returns-clause-ok
returns-clause-ok c =
    let told = kept_words c.in_ok-_kept._kept (words_of c.args.line.now) c.fault_places.result c.read.new.self c.fault_places.ensures c.in_ok-_kept.ensures.ok in
    record { numbered = c.fault_of.ensures.line; spelled = subst (λ (vs : List Value). SayWords (words_of c.args.line.now) vs) (sym (c.fault_of.ensures.said ∙ c.as_slice.ensures)) told.0 }
