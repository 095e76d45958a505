use Rattle.std.proofs.Common.{rules, sym, ap, ◌∙◌}
use Rattle.std.specs.Prelude.{FitsSigned, unsigned_abs}
use Rattle.std.specs.Int.{w128}
use Rattle.std.proofs.lemmas.Int.{to_z-of_z}
use Rattle.xc_decimal.proofs.Spelled.{lowest_same, lowest_other}
use Rattle.xc_decimal.proofs.fractions.lowest.Goals as goal

pub returns-then-unsigned_abs-den : goal.returns-then-unsigned_abs-den
returns-then-unsigned_abs-den c =
    let num : FitsSigned w128 c.args.num = c.ranges.num in
    let den : FitsSigned w128 c.den.result = search rules in
    let over = simp to_z-of_z at c.ratio-value.ensures in
    let size = simp to_z-of_z at c.unsigned_abs.ensures.value in
    lowest_same c.ratio-value.result c.args.num c.args.den over (ap unsigned_abs (sym c.den.ensures) ∙ sym size ∙ c.if-unsigned_abs-den.true)

pub returns-else-unsigned_abs-den : goal.returns-else-unsigned_abs-den
returns-else-unsigned_abs-den c =
    let num : FitsSigned w128 c.args.num = c.ranges.num in
    let den : FitsSigned w128 c.den.result = search rules in
    let over = simp to_z-of_z at c.ratio-value.ensures in
    let size = simp to_z-of_z at c.unsigned_abs.ensures.value in
    lowest_other c.ratio-value.result c.args.num c.args.den over (λ e. c.if-unsigned_abs-den.false (size ∙ ap unsigned_abs c.den.ensures ∙ e))
