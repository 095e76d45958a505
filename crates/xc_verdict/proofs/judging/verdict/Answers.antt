use Rattle.std.proofs.Common.{ℕ, ◌<◌, length, sym, subst}
use Rattle.xc_verdict.specs.Ranges.{range_at}
use Rattle.xc_verdict.specs.Steps.Sums.{IsKeptRange, IsFound}
use Rattle.xc_verdict.proofs.Found.{verdict_of}
use Rattle.xc_verdict.proofs.Judged.{all_there, kept_at}
use Rattle.xc_verdict.proofs.judging.verdict.Goals as goal

pub verdict_by_ranges-requires-clause-kept : goal.verdict_by_ranges-requires-clause-kept
verdict_by_ranges-requires-clause-kept c =
    let kept = c.as_slice.ensures.kept in
    subst (λ points. (k : ℕ) → k < length points → IsKeptRange (range_at points k)) (sym c.as_slice.ensures.points) (kept_at c.args.points.now.points c.args.points.now.ends kept)

pub returns : goal.returns
returns c = record {
  verdict = λ mode facts are.
      let points = c.args.points.now.points in
      let binding = c.args.binding.now in
      let found = subst (λ ps. IsFound ps binding c.verdict_by_ranges.result) c.as_slice.ensures.points c.verdict_by_ranges.ensures in
      verdict_of c.ends_tell.ensures.numbers mode facts points are.ranges binding (all_there points binding c.requires.total c.requires.terms) c.verdict_by_ranges.result found;
}
