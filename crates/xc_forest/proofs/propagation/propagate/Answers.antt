use Rattle.xc_forest.proofs.propagation.propagate.Goals as goal

pub links-requires-clause-rows : goal.links-requires-clause-rows
links-requires-clause-rows g c = rw (c.as_slice-2.ensures, c.as_slice.ensures) c.requires.rows
