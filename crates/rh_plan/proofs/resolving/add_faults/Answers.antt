use Rattle.std.proofs.Common.{◌≡◌, ℕ, ap, subst, arith, length}
use Rattle.rh_plan.specs.FaultTables.{AreFaultsBelow}
use Rattle.rh_plan.proofs.ResolvedFaults.{line_there, few_below, count_below, refused_line, added_at}
use Rattle.rh_plan.proofs.resolving.add_faults.Goals as goal

pub returns-in-Err-clause-refused : goal.returns-in-Err-clause-refused
returns-in-Err-clause-refused c =
    let there = line_there c.lines-fault-items.result.now c.args.text.now c.loop-fault.fault-index c.fault-item.result c.lines-fault-items.ensures.value c.loop-fault-test.true c.fault-item.is in
    refused_line (Unit {0}) c.args.plan.now c.args.text.now c.loop-fault.fault-index c.loop-fault.named c.fault-item.result c.in-Err.error c.at_line.result there c.loop-fault.invariant.0 c.at_line.ensures c.in-Err.ensures.refused

pub loop-fault-preserved : goal.loop-fault-preserved
loop-fault-preserved c =
    let there = line_there c.lines-fault-items.result.now c.args.text.now c.loop-fault.fault-index c.fault-item.result c.lines-fault-items.ensures.value c.loop-fault-test.true c.fault-item.is in
    let few = few_below c.args.plan.now c.args.text.now c.loop-fault.fault-index c.loop-fault.named c.fault-item.result c.lines-fault-items.ensures.lawful there c.loop-fault.invariant.0 (omega arith) in
    let same : length c.lines-fault-items.result.now ≡ length c.args.text.now = ap length c.lines-fault-items.ensures.value in
    let inside = c.loop-fault-test.true in
    let count : length c.loop-fault.named ≡ c.loop-fault.fault-index = count_below c.args.plan.now c.args.text.now c.loop-fault.fault-index c.loop-fault.named (omega arith) c.loop-fault.invariant.0 in (
      added_at c.args.plan.now c.args.text.now c.loop-fault.fault-index c.loop-fault.named c.add_fault.new.named c.fault-item.result there c.loop-fault.invariant.0 c.in_default.ensures.ok,
      omega arith,
    )

pub returns-clause-ok : goal.returns-clause-ok
returns-clause-ok c =
    let same : length c.lines-fault-items.result.now ≡ length c.args.text.now = ap length c.lines-fault-items.ensures.value in
    let all : c.loop-fault.fault-index ≡ length c.args.text.now = omega arith in
    subst (λ (n : ℕ). AreFaultsBelow c.args.plan.now c.args.text.now n c.loop-fault.named) all c.loop-fault.invariant.0

pub returns-clause-few : goal.returns-clause-few
returns-clause-few c =
    let same : length c.lines-fault-items.result.now ≡ length c.args.text.now = ap length c.lines-fault-items.ensures.value in
    let count : length c.loop-fault.named ≡ c.loop-fault.fault-index = count_below c.args.plan.now c.args.text.now c.loop-fault.fault-index c.loop-fault.named (omega arith) c.loop-fault.invariant.0 in
    let few = c.loop-fault.invariant.1 in
    omega arith
