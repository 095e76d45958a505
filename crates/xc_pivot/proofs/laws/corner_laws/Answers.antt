use Rattle.xc_pivot.proofs.laws.corner_laws.Goals as goal

pub returns : goal.returns
returns c = record {
  form = c.solved_forms.ensures.one;
  value = c.values_at_corners.ensures.one;
  outside = c.values_at_corners.ensures.outside;
  leaving = c.values_at_corners.ensures.leaving;
  choice = c.one_run.ensures.choice;
  run = c.one_run.ensures.run;
  on = c.one_run.ensures.on;
  along = c.one_run.ensures.along;
  feasible = c.one_run.ensures.feasible;
  conflict = c.one_run.ensures.conflict;
}
