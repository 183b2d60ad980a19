use Rattle.std.proofs.Common.{◌++◌, ◌<◌, [], ◌∷◌, List, Bool, length, map, take, get_or, ap, sym, ◌∙◌, arith}
use Rattle.std.proofs.lemmas.List.{take_more, take_more_set, map-append, length-set}
use Rattle.rh_plain.specs.Values.{has_words}
use Rattle.rh_plain.proofs.running.are_present.Goals as goal

pub loop-at-preserved : goal.loop-at-preserved
loop-at-preserved c =
    let i = c.loop-at.at in
    let present = c.loop-at.present in
    let awaits = c.args.awaits.now in
    let few = c.requires in
    let size = c.loop-at.invariant.size in
    let within : i < length present = omega arith in
    let flag = c.has.ensures in
    record {
      size = length-set present i c.has.result ∙ size;
      flags =
          take_more_set present i c.has.result within
          ∙ ap (λ (l : List Bool). l ++ c.has.result ∷ []) c.loop-at.invariant.flags
          ∙ ap (λ (b : Bool). map (has_words c.args.values.now) (take i awaits) ++ b ∷ []) flag
          ∙ sym (map-append (has_words c.args.values.now) (take i awaits) (get_or awaits i 0 ∷ []))
          ∙ ap (map (has_words c.args.values.now)) (sym (take_more awaits i 0 c.loop-at-test.true));
    }
