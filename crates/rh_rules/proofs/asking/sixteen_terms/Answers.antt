use Rattle.std.proofs.Common.{refl}
use Rattle.rh_rules.specs.Facets.{no_terms}
use Rattle.rh_rules.proofs.LinearTerms.{written_next, written_all}
use Rattle.rh_rules.proofs.asking.sixteen_terms.Goals as goal

pub loop-at-init : goal.loop-at-init
unfolding no_terms
loop-at-init c = record { size = refl; front = refl; back = refl }

pub loop-at-preserved : goal.loop-at-preserved
loop-at-preserved c = written_next c.loop-at.terms c.args.inputs.now c.args.factors.now c.loop-at.at c.loop-at.invariant c.requires.pairs c.requires.few c.loop-at-test.true

pub returns : goal.returns
returns c = written_all c.loop-at.terms c.args.inputs.now c.args.factors.now c.loop-at.at c.loop-at.invariant c.requires.pairs c.loop-at-test.false c.loop-at.auto.at-end
