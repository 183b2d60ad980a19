use Rattle.std.proofs.Common.{◌++◌, List, ℕ, sym, ap, ◌∙◌, arith}
use Rattle.std.proofs.Common.{length-append, ◌∷◌, []}
use Rattle.rh_plain.specs.Telling.{pair_at, pairs_from}
use Rattle.rh_plain.proofs.ShownPairs.{pairs_more}
use Rattle.rh_plain.proofs.showing.shown_pairs.Goals as goal

pub loop-words-preserved : goal.loop-words-preserved
loop-words-preserved c =
    let inv = c.loop-words.invariant in
    let count = inv.number in
    let long = length-append c.loop-words.yielded (c.in-Some.words ∷ []) in
    record {
      pairs =
          c.in_ok-show.ensures
          ∙ ap (λ (l : List (ℕ × List ℕ)). l ++ pair_at c.args.plan.now c.loop-words.promise c.in-Some.words) inv.pairs
          ∙ ap (λ (n : ℕ). pairs_from c.args.plan.now 0 c.loop-words.yielded ++ pair_at c.args.plan.now n c.in-Some.words) (omega arith)
          ∙ sym (pairs_more c.args.plan.now 0 c.loop-words.yielded c.in-Some.words);
      number = omega arith;
    }
