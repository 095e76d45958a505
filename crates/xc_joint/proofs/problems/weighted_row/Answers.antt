use Rattle.std.proofs.Common.{◌≡◌, get_or, ap, ◌∙◌, sym, subst}
use Rattle.std.specs.Prelude.{All}
use Rattle.xc_lists.specs.Members.{IsIn}
use Rattle.xc_system.specs.Systems.{equation_at}
use Rattle.xc_joint.proofs.Each.{other_default}
use Rattle.xc_joint.proofs.problems.weighted_row.Goals as goal

pub weighted_places-requires-clause-own : goal.weighted_places-requires-clause-own
weighted_places-requires-clause-own c =
    let same : c.as_slice.result.now ≡ (equation_at c.args.system.now.equations c.args.number).entries = c.as_slice.ensures ∙ ap (λ e. e.entries) (ap (λ l. get_or l c.args.number c.index-equations-number.result) c.equations.ensures.is ∙ other_default c.args.system.now.equations c.args.number c.index-equations-number.result _ c.requires.inside) in
    subst (λ es. All (λ entry. IsIn entry.point c.args.points.now) es) (sym same) c.requires.own
