use Rattle.std.proofs.Common.{◌≡◌, ◌++◌, drop}
use Rattle.xc_calc.specs.Linked.{concepts_at}
use Rattle.xc_calc.specs.Rules.{locator_fault}
use Rattle.xc_lists.specs.Places.{first_given}
use Rattle.xc_calc.proofs.linked.concepts_at.Given as goal

-- the concepts so far and those that are left are all, and what is left breaks the same rule first
abbrev pub invariant-loop-at : goal.invariant-loop-at
invariant-loop-at l = record {
  found : l.found.items ++ concepts_at l.concepts l.tree (drop l.at-index l.locators) ≡ concepts_at l.concepts l.tree l.locators;
  left : first_given (locator_fault l.concepts l.tree) (drop l.at-index l.locators) ≡ first_given (locator_fault l.concepts l.tree) l.locators;
}
