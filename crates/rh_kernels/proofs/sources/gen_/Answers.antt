use Rattle.std.proofs.Common.{arith, rules, ◌∙◌}
use Rattle.std.proofs.lemmas.Iterator.{items_from_collect, YieldsList-from_map, YieldsList-from_range}
use Rattle.rh_words.specs.Kernels.{gen_word}
use Rattle.rh_kernels.proofs.sources.gen_.Goals as goal

pub returns : goal.returns
returns c =
    let made = items_from_collect c.collect.result c.collect.ensures.ran (YieldsList-from_map _ (gen_word c.args.start c.args.limit) (YieldsList-from_range 0 c.args.n c.args.n c.map.ensures.source (omega arith)) c.map.ensures.closure (λ x r q k. search rules)) in
    c.from_vec.ensures ∙ rw c.in_ok-words.was at made
