use Rattle.xc_elements.proofs.laws.tree_or_fault.Goals as goal

pub returns : goal.returns
returns c = λ bytes nodes fault t f. t.faultless fault f.stands
