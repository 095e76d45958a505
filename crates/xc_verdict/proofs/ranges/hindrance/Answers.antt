use Rattle.std.proofs.Common.{map, sym, subst}
use Rattle.std.specs.Prelude.{All}
use Rattle.xc_bind.specs.Placed.{IsInside}
use Rattle.xc_interval.specs.Ranges.{is_empty_range, is_wide_range}
use Rattle.xc_verdict.specs.Ranges.{point_of}
use Rattle.xc_verdict.specs.Steps.Sums.{IsMetRange, IsKeptRange, AllAreMet, SomeIsWide, SomeIsEmpty}
use Rattle.xc_verdict.proofs.AllMet.{met_range, met_terms, not_so, not_true}
use Rattle.xc_verdict.proofs.ranges.hindrance.Goals as goal

pub returns-clause-none : goal.returns-clause-none
returns-clause-none c =
    let points = c.args.points.now in
    let terms = c.as_slice-terms.result.now in
    let total = c.range_at-total.result in
    let ks = map point_of terms in
    let kept = subst IsKeptRange (sym c.range_at-total.ensures) (c.requires.kept c.args.binding.now.total c.requires.total) in
    let inside = subst (All (IsInside points)) (sym c.as_slice-terms.ensures) c.requires.terms in
    let met = met_range total kept (not_true c.is_wide.result (is_wide_range total) c.is_wide.ensures c.if-is_wide.false) (not_true c.is_empty.result (is_empty_range total) c.is_empty.ensures c.if-is_empty.false) in
    let each = met_terms points terms c.requires.kept inside (not_so (SomeIsWide points ks) c.some_is_wide.result c.some_is_wide.ensures c.if-some_is_wide.false) (not_so (SomeIsEmpty points ks) c.some_is_empty.result c.some_is_empty.ensures c.if-some_is_empty.false) in
    (subst IsMetRange c.range_at-total.ensures met, subst (λ ts. AllAreMet points (map point_of ts)) c.as_slice-terms.ensures each)
