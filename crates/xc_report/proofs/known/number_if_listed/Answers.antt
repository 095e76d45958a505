use Rattle.std.proofs.Common.{is_some, option_map, sym, ap, ◌∙◌}
use Rattle.xc_report.specs.Wanted.{number_if_listed}
use Rattle.xc_report.proofs.Listed.{found_listed, listed_there, listed_nowhere}
use Rattle.xc_report.proofs.known.number_if_listed.Goals as goal

pub returns-then-is_some : goal.returns-then-is_some
returns-then-is_some c =
    listed_there c.args.ids.now c.in-Some.id (sym (found_listed c.in-Some.id c.args.ids.now) ∙ ap is_some (sym c.first.ensures) ∙ sym c.if-is_some.ensures)
    ∙ ap (λ o. number_if_listed c.args.ids.now (option_map (λ id. id.0) o)) (sym c.in-Some.is)

pub returns-else-is_some : goal.returns-else-is_some
returns-else-is_some c =
    listed_nowhere c.args.ids.now c.in-Some.id (sym (found_listed c.in-Some.id c.args.ids.now) ∙ ap is_some (sym c.first.ensures) ∙ sym c.if-is_some.ensures)
    ∙ ap (λ o. number_if_listed c.args.ids.now (option_map (λ id. id.0) o)) (sym c.in-Some.is)
