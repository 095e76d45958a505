use Rattle.std.proofs.Common.{List, ◌++◌, drop}
use Rattle.xc_joint.specs.Small.{AreAt}
use Rattle.xc_joint.specs.Steps.Gaps.{AreWholeSoFar}
use Rattle.xc_model.specs.Ratio.{Ratio, fraction_of}
use Rattle.xc_joint.proofs.small.numbers_at.Given as goal

-- the numbers so far, with those of the values that are left, are those of all
abbrev pub invariant-loop-value : goal.invariant-loop-value
invariant-loop-value l = record {
  are : (rest : List Ratio) → AreAt (fraction_of l.small) (drop l.value-index l.values) rest → AreAt (fraction_of l.small) l.values (l.numbers.items ++ rest);
  room : AreWholeSoFar l.small l.values (drop l.value-index l.values) l.numbers.items;
}
