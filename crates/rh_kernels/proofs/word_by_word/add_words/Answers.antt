use Rattle.std.proofs.Common.{rules, arith, length, ◌∙◌}
use Rattle.std.proofs.lemmas.Iterator.{items_from_collect, YieldsList-from_map, YieldsList-from_range}
use Rattle.std.specs.List.{slice_index}
use Rattle.rh_words.specs.Modular.{add_word}
use Rattle.rh_words.proofs.KernelValues.{word_by_word-places}
use Rattle.rh_kernels.proofs.word_by_word.add_words.Goals as goal

pub returns : goal.returns
returns c =
    let made = items_from_collect c.collect.result c.collect.ensures.ran (YieldsList-from_map _ (λ i. add_word (slice_index c.args.a.now i) (slice_index c.args.b.now i)) (YieldsList-from_range 0 (length c.args.a.now) (length c.args.a.now) c.map.ensures.source (omega arith)) c.map.ensures.closure (λ x r q k. search rules)) in
    c.from_vec.ensures ∙ rw c.in_ok-sums.was at made ∙ word_by_word-places add_word c.args.a.now c.args.b.now c.requires
