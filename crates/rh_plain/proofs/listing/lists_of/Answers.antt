use Rattle.std.proofs.Common.{◌≡◌, ◌++◌, ◌≤◌, ◌&&◌, ◌∙◌, ℕ, List, length, drop, ap, not, arith, length-append, append_assoc}
use Rattle.std.proofs.Math.Seq.{drop-append_seam}
use Rattle.std.specs.List.{filter}
use Rattle.rh_rules.specs.Tables.{is_in}
use Rattle.rh_plan.proofs.Sources.{node_there}
use Rattle.rh_journal.specs.Own.{drops_by, puts_by}
use Rattle.rh_schemes.specs.Judges.{result_data}
use Rattle.rh_plain.specs.Values.{has_words}
use Rattle.rh_plain.proofs.listing.lists_of.Goals as goal

longer : (slice others puts whole : List ℕ) → slice ≡ others → whole ≡ others ++ puts → length slice ≤ length whole
longer slice others puts whole same is =
    let a = ap (λ (l : List ℕ). length l) same in
    let b = ap (λ (l : List ℕ). length l) is in
    let sum = length-append others puts in
    omega arith

tail_is : (others slice whole puts : List ℕ) → slice ≡ others → whole ≡ others ++ puts → drop (length slice) whole ≡ puts
tail_is others slice whole puts same is =
    ap (λ (l : List ℕ). drop (length slice) l) is ∙ ap (λ (l : List ℕ). drop (length l) (others ++ puts)) same ∙ drop-append_seam others puts

pub from-requires : goal.from-requires
from-requires c =
    let (node, at) = node_there c.args.plan.now c.args.node c.requires in
    longer c.as_slice-first_put.result.now c.in_ok-released.released (puts_by node (result_data c.args.ended.now)) c.append_puts.new.into c.as_slice-first_put.ensures (c.in_ok-append_puts.ensures node at)

pub invariant_of-result : goal.invariant_of-result
invariant_of-result c =
    let (node, at) = node_there c.args.plan.now c.args.node c.requires in
    longer c.as_slice-first_put.result.now c.in_ok-released.released (puts_by node (result_data c.args.ended.now)) c.append_puts.new.into c.as_slice-first_put.ensures (c.in_ok-append_puts.ensures node at)

pub returns : goal.returns
returns c node at =
    let r = result_data c.args.ended.now in
    let puts = tail_is c.in_ok-released.released c.as_slice-first_put.result.now c.append_puts.new.into (puts_by node r) c.as_slice-first_put.ensures (c.in_ok-append_puts.ensures node at) in
    record {
      puts = puts;
      voids = c.in_ok-voids.ensures node at ∙ ap (λ (l : List ℕ). filter (λ q. not (is_in q l)) node.puts) (c.from.ensures ∙ puts);
      released = c.in_ok-append_puts.ensures node at ∙ ap (λ (l : List ℕ). l ++ puts_by node r) (c.in_ok-released.ensures node at)
          ∙ append_assoc (drops_by r.accepted) (filter (λ q. not (is_in q (drops_by r.accepted)) && has_words c.args.values.now q) node.awaits) (puts_by node r);
    }
