use Rattle.std.proofs.Common.{◌≡◌, ◌-◌, ◌≤◌, ◌<◌, max, ◌++◌, ◌∷◌, [], ◌∙◌, ℕ, List, arith, ap, sym}
use Rattle.std.specs.List.{range_with_len}
use Rattle.rh_tables.proofs.Members.{numbers_more}
use Rattle.rh_tables.proofs.node.numbers_between.Goals as goal

pub loop-number-init : goal.loop-number-init
loop-number-init c =
    let none : c.args.first - c.args.first ≡ 0 = omega arith in
    record { so_far = c.new-numbers.ensures ∙ ap (range_with_len c.args.first) (sym none); rising = omega arith; within = omega arith }

pub loop-number-preserved : goal.loop-number-preserved
loop-number-preserved c =
    let rising : c.args.first ≤ c.loop-number.number = c.loop-number.invariant.rising in
    record {
      so_far = c.in_ok-push.ensures.ok ∙ ap (λ (l : List ℕ). l ++ c.loop-number.number ∷ []) c.loop-number.invariant.so_far ∙ sym (numbers_more c.args.first c.loop-number.number rising);
      rising = omega arith;
      within = let test : c.loop-number.number < c.args.last = c.loop-number-test.true in omega arith;
    }

pub returns : goal.returns
returns c =
    let rising : c.args.first ≤ c.loop-number.number = c.loop-number.invariant.rising in
    let end : c.args.last ≤ c.loop-number.number = c.loop-number-test.false in
    let same : c.loop-number.number - c.args.first ≡ c.args.last - c.args.first = let within : c.loop-number.number ≤ max c.args.first c.args.last = c.loop-number.invariant.within in omega arith in
    c.loop-number.invariant.so_far ∙ ap (range_with_len c.args.first) same
