use Rattle.std.proofs.Common.{rules, Err, ◌≡◌, length, map, sym, ap, ◌∙◌, subst, arith}
use Rattle.std.proofs.lemmas.List.{length-map}
use Rattle.xc_forest.specs.Forests.{AreRanges, AreRows, Contradicts, IsSignedSum, Solves}
use Rattle.xc_forest.specs.Settled.{Settles}
use Rattle.xc_joint.specs.Small.{closed_pairs, pair, pairs, AreNumbersOf}
use Rattle.xc_joint.specs.Solved.{AreWhole, NumbersSolve, SolvesRanges}
use Rattle.xc_joint.specs.Laws.{width_of}
use Rattle.xc_joint.specs.Widths.{AreWithin}
use Rattle.xc_joint.proofs.Nonempty.{are_ranges}
use Rattle.xc_joint.proofs.Solved.{none_made}
use Rattle.xc_joint.proofs.solving.solve.Goals as goal

pub propagate-requires-clause-rows : goal.propagate-requires-clause-rows
propagate-requires-clause-rows c =
    let are : map pairs c.of.result ≡ map closed_pairs c.args.ranges.now = ap (map pairs) c.of.ensures ∙ c.in_ok-closed.ensures in
    let one = length-map c.of.result pairs in
    let other = length-map c.args.ranges.now closed_pairs in
    let long : length c.args.ranges.now ≡ length c.of.result = omega (arith, ap length are, one, other) in
    subst (λ n. AreRows n c.args.rows) long c.requires.rows

pub propagate-requires-clause-ranges : goal.propagate-requires-clause-ranges
propagate-requires-clause-ranges c =
    let are : map pairs c.of.result ≡ map closed_pairs c.args.ranges.now = ap (map pairs) c.of.ensures ∙ c.in_ok-closed.ensures in
    subst AreRanges (sym are) (are_ranges c.args.ranges.now c.requires.ranges)

pub propagate-requires-clause-room : goal.propagate-requires-clause-room
propagate-requires-clause-room c =
    let are : map pairs c.of.result ≡ map closed_pairs c.args.ranges.now = ap (map pairs) c.of.ensures ∙ c.in_ok-closed.ensures in
    let n = c.requires.narrow in
    λ x y s t w. c.narrow_forests_have_room.ensures n.system n.component (map closed_pairs c.args.ranges.now) n.narrow n.are x y (subst (λ rs. IsSignedSum rs (pair x)) are s) (subst (λ rs. IsSignedSum rs (pair y)) are t) w

pub returns-in_err-numbers-in-Feasible : goal.returns-in_err-numbers-in-Feasible
returns-in_err-numbers-in-Feasible c =
    let are : map pairs c.of.result ≡ map closed_pairs c.args.ranges.now = ap (map pairs) c.of.ensures ∙ c.in_ok-closed.ensures in
    let settles : Solves c.args.rows (map pairs c.of.result) (map pair c.in-Feasible.values) = subst (Settles pair (record { ranges = c.of.result; rows = c.args.rows })) c.in-Feasible.is c.in_ok-values.ensures in
    let solved : Solves c.args.rows (map closed_pairs c.args.ranges.now) (map pair c.in-Feasible.values) = subst (λ rs. Solves c.args.rows rs (map pair c.in-Feasible.values)) are settles in
    let many = length-map c.args.ranges.now closed_pairs in
    let n = c.requires.narrow in
    let w = width_of n.system n.component n.narrow in
    let room = c.narrow_forests_have_numbers.ensures n.system n.component c.args.ranges.now c.in-Feasible.values n.narrow n.are (λ p l. solved.signed_sums p (omega (arith, many, l))) in
    let within : AreWithin w c.args.ranges.now c.as_slice.result.now = subst (AreWithin w c.args.ranges.now) (sym c.as_slice.ensures) room.2 in
    let e = c.in_err-numbers-in-Feasible.field-0.0 in
    let is : c.from_residual-in_err-numbers-in-Feasible.result ≡ Err e = search rules in
    subst (SolvesRanges c.args.rows c.args.ranges.now) (sym is) (none_made (λ xs. xs.items) c.args.rows c.args.ranges.now w c.numbers.result e c.in_err-numbers-in-Feasible.was (c.numbers.ensures.room w room.1 room.0 within))

pub returns-in-Feasible : goal.returns-in-Feasible
returns-in-Feasible c =
    let are : map pairs c.of.result ≡ map closed_pairs c.args.ranges.now = ap (map pairs) c.of.ensures ∙ c.in_ok-closed.ensures in
    let settles : Solves c.args.rows (map pairs c.of.result) (map pair c.in-Feasible.values) = subst (Settles pair (record { ranges = c.of.result; rows = c.args.rows })) c.in-Feasible.is c.in_ok-values.ensures in
    let solved : Solves c.args.rows (map closed_pairs c.args.ranges.now) (map pair c.in-Feasible.values) = subst (λ rs. Solves c.args.rows rs (map pair c.in-Feasible.values)) are settles in
    let numbers : AreNumbersOf c.args.ranges.now c.in-Feasible.values c.in_ok-numbers-in-Feasible.numbers.items = subst (λ vs. AreNumbersOf c.args.ranges.now vs c.in_ok-numbers-in-Feasible.numbers.items) c.as_slice.ensures c.in_ok-numbers-in-Feasible.ensures.are in
    let many = length-map c.args.ranges.now closed_pairs in
    let whole : AreWhole c.args.ranges.now c.in_ok-numbers-in-Feasible.numbers.items = λ n.
    let w = width_of n.system n.component n.narrow in
    let room = c.narrow_forests_have_numbers.ensures n.system n.component c.args.ranges.now c.in-Feasible.values n.narrow n.are (λ p l. solved.signed_sums p (omega (arith, many, l))) in
    let within : AreWithin w c.args.ranges.now c.as_slice.result.now = subst (AreWithin w c.args.ranges.now) (sym c.as_slice.ensures) room.2 in
    c.in_ok-numbers-in-Feasible.ensures.room w room.1 room.0 within in
    subst (λ xs. NumbersSolve c.args.rows c.args.ranges.now xs × AreWhole c.args.ranges.now xs) (sym c.of-in-Feasible.ensures) (c.numbers_of_solutions_solve.ensures c.args.rows c.args.ranges.now c.in-Feasible.values c.in_ok-numbers-in-Feasible.numbers.items solved numbers, whole)

pub returns : goal.returns
returns c =
    let are : map pairs c.of.result ≡ map closed_pairs c.args.ranges.now = ap (map pairs) c.of.ensures ∙ c.in_ok-closed.ensures in
    let settles : Contradicts c.args.rows (map pairs c.of.result) c.in-Infeasible.rows c.in-Infeasible.ends = subst (Settles pair (record { ranges = c.of.result; rows = c.args.rows })) c.in-Infeasible.is c.in_ok-values.ensures in
    subst (λ rs. Contradicts c.args.rows rs c.in-Infeasible.rows c.in-Infeasible.ends) are settles
