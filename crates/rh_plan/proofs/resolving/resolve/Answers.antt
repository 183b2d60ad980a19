use Rattle.std.proofs.Common.{arith, length, refl}
use Rattle.rh_plan.proofs.ResolvedFaults.{masks_below, reordered_below, all_below, faults_of_plan}
use Rattle.rh_plan.proofs.resolving.resolve.Goals as goal

pub into_faults-requires-clause-masked : goal.into_faults-requires-clause-masked
into_faults-requires-clause-masked c = masks_below c.args.plan.now c.args.text.now (length c.args.text.now) c.name_faults.new.named (omega arith) c.in_ok-name_faults.ensures.ok

pub returns-clause-ok : goal.returns-clause-ok
returns-clause-ok c =
    all_below c.args.plan.now c.args.text.now (length c.args.text.now) c.in_ok-faults.faults refl
    (reordered_below c.args.plan.now c.args.text.now (length c.args.text.now) c.name_faults.new.named c.in_ok-faults.faults c.in_ok-name_faults.ensures.ok c.in_ok-faults.ensures) c.as_slice-in_order.ensures.lawful.ascending

pub returns-clause-plans : goal.returns-clause-plans
returns-clause-plans c =
    faults_of_plan c.args.plan.now c.args.text.now c.in_ok-faults.faults c.name_faults.ensures.lawful
    (all_below c.args.plan.now c.args.text.now (length c.args.text.now) c.in_ok-faults.faults refl
    (reordered_below c.args.plan.now c.args.text.now (length c.args.text.now) c.name_faults.new.named c.in_ok-faults.faults c.in_ok-name_faults.ensures.ok c.in_ok-faults.ensures) c.as_slice-in_order.ensures.lawful.ascending)
