use Rattle.std.proofs.Common.{◌≡◌, ℕ, List, length, take, drop, replicate, ◌-◌, true, arith, sym, ap, ◌∙◌, get_or, rules}
use Rattle.std.proofs.Math.Seq.{take-length}
use Rattle.std.proofs.lemmas.List.{length-set}
use Rattle.std.specs.List.{list_all}
use Rattle.rh_words.specs.Naming.{is_name, begins_name, continues_name}
use Rattle.rh_words.proofs.Names.{is_name-from, copied_more, blank_more, continues_more, copied_all}
use Rattle.rh_words.proofs.name.Name.read.Goals as goal

pub loop-at-preserved : goal.loop-at-preserved
loop-at-preserved c =
    let bytes = c.args.bytes.now in
    let whole : length c.loop-at.whole ≡ 32 = c.loop-at.invariant.whole in
    record {
      whole = length-set c.loop-at.whole c.loop-at.at (get_or bytes c.loop-at.at 0) ∙ whole;
      copied = copied_more c.loop-at.whole bytes c.loop-at.at (omega (arith, whole)) (omega arith) c.loop-at.invariant.copied;
      blank = blank_more c.loop-at.whole c.loop-at.at (get_or bytes c.loop-at.at 0) (omega arith) c.loop-at.invariant.blank;
      continues = continues_more bytes c.loop-at.at (omega arith) c.loop-at.invariant.continues (sym c.continues_name.ensures ∙ c.if-not-continues_name.false);
    }

pub invariant_of-result : goal.invariant_of-result
invariant_of-result c =
    let bytes = c.args.bytes.now in
    let end : c.loop-at.at ≡ length bytes = omega arith in
    let copied = copied_all c.loop-at.whole bytes c.loop-at.at end c.loop-at.invariant.copied in
    let all : list_all continues_name bytes ≡ true = sym (ap (λ (l : List ℕ). list_all continues_name l) (ap (λ (k : ℕ). take k bytes) end ∙ take-length bytes)) ∙ c.loop-at.invariant.continues in
    let begins : begins_name (get_or bytes 0 0) ≡ true = ap (λ (b : ℕ). begins_name b) (sym (c.in-Some.ensures.item.3.1 0)) ∙ sym c.begins_name.ensures ∙ c.if-not-begins_name.false in
    record {
      whole = c.loop-at.invariant.whole;
      within = omega arith;
      named = ap (λ (l : List ℕ). is_name l) copied ∙ is_name-from bytes begins (omega arith) all;
      blank = ap (λ (k : ℕ). drop k c.loop-at.whole) (sym end) ∙ c.loop-at.invariant.blank ∙ ap (λ (k : ℕ). replicate (32 - k) 0) end;
    }

pub returns-then-not-begins_name : goal.returns-then-not-begins_name
returns-then-not-begins_name = search rules
