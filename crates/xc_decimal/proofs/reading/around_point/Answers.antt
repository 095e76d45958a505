use Rattle.std.proofs.Common.{sym, ◌∙◌}
use Rattle.xc_decimal.specs.Reading.{is_point}
use Rattle.xc_decimal.proofs.Points.{before_place, after_place, before_none, after_none}
use Rattle.xc_decimal.proofs.reading.around_point.Goals as goal

pub returns-in-Some-clause-before : goal.returns-in-Some-clause-before
returns-in-Some-clause-before c = before_place is_point c.args.text.now c.in-Some.at (sym c.point_at.ensures ∙ c.in-Some.is)

pub returns-in-Some-clause-after : goal.returns-in-Some-clause-after
returns-in-Some-clause-after c = after_place is_point c.args.text.now c.in-Some.at (sym c.point_at.ensures ∙ c.in-Some.is)

pub returns-in-None-clause-before : goal.returns-in-None-clause-before
returns-in-None-clause-before c = before_none is_point c.args.text.now (sym c.point_at.ensures ∙ c.in-None.is)

pub returns-in-None-clause-after : goal.returns-in-None-clause-after
returns-in-None-clause-after c = after_none is_point c.args.text.now (sym c.point_at.ensures ∙ c.in-None.is)
