use Rattle.std.proofs.Common.{◌∙◌}
use Rattle.xc_calc.proofs.locators.Locators.locators_with_label.Goals as goal

pub returns : goal.returns
returns c = λ nodes found. c.list_of.ensures ∙ found (record { link = c.args.link; label = c.args.label })
