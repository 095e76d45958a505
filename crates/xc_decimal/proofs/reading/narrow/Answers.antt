use Rattle.std.proofs.Common.{◌≤◌, arith, rules, length, subst, sym, ap, ◌∙◌}
use Rattle.std.specs.Prelude.{FitsSigned}
use Rattle.std.specs.Int.{w128}
use Rattle.std.proofs.lemmas.Int.{to_z-of_z}
use Rattle.xc_decimal.specs.Decimals.{signed}
use Rattle.xc_decimal.specs.Shortest.{IsShortest}
use Rattle.xc_decimal.proofs.Narrow.{whole_wide, shortest_of}
use Rattle.xc_decimal.proofs.reading.narrow.Goals as goal

pub returns-in_default : goal.returns-in_default
returns-in_default c = whole_wide c.args.negative c.args.whole.now c.args.kept.now c.in_default.ensures

pub shortest-requires : goal.shortest-requires
shortest-requires c =
    let fits : FitsSigned w128 c.signed.result = search rules in
    let number = c.signed.ensures ∙ ap (signed c.args.negative) c.in-Some-number_behind.ensures.1 in
    let within = c.in-Some-number_behind.ensures.0 in
    let few : length c.args.kept.now ≤ 37 = omega arith in
    let form = shortest_of c.args.negative c.in-Some.before c.args.kept.now c.requires.kept c.requires.last within few in
    simp to_z-of_z (subst (λ z. IsShortest z (length c.args.kept.now)) (sym number) form)
