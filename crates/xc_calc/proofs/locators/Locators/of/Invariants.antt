use Rattle.xc_calc.specs.Steps.Labels.{AreLabelled}
use Rattle.xc_calc.proofs.locators.Locators.of.Given as goal

-- the lists have the locators of the nodes so far
abbrev pub invariant-loop-at : goal.invariant-loop-at
invariant-loop-at l = AreLabelled l.lists l.tree l.at
