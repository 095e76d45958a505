use Rattle.std.proofs.Common.{◌∙◌, refl, arith}
use Rattle.xc_joint.proofs.Gathering.{placed_all, placed_kept, placed_more}
use Rattle.xc_joint.proofs.settling.put_values.Goals as goal

pub loop-number-init : goal.loop-number-init
loop-number-init c = record { among = λ i p x h. absurd (omega (arith, h)); kept = λ p out. refl }

pub loop-number-preserved : goal.loop-number-preserved
loop-number-preserved c = record {
  among = placed_more c.args.points.now c.args.values.now c.loop-number.all c.loop-number.number c.index-values-number.result c.requires.ascend c.loop-number-test.true c.requires.each c.index-values-number.is
      (omega (arith, c.requires.inside c.loop-number.number 0 c.loop-number-test.true, c.loop-number.auto.all)) c.loop-number.invariant.among;
  kept = λ p out. placed_kept c.args.points.now c.args.values.now c.loop-number.all c.loop-number.number c.index-values-number.result c.loop-number-test.true p out ∙ c.loop-number.invariant.kept p out;
}

pub returns-clause-among : goal.returns-clause-among
returns-clause-among c = placed_all c.args.points.now c.args.values.now c.loop-number.all c.loop-number.number c.loop-number-test.false c.loop-number.invariant.among

pub returns-clause-kept : goal.returns-clause-kept
returns-clause-kept c = c.loop-number.invariant.kept
