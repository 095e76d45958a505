use Rattle.std.proofs.Common.{get_or}
use Rattle.std.proofs.lemmas.Option.{slice_get-get_or}
use Rattle.xc_lines.specs.Findings.{HaveFacts}
use Rattle.xc_points.specs.Kept.{AreKept, Gathered}
use Rattle.xc_lines.proofs.found.findings.Goals as goal

-- each point that is kept has a fact
have_facts : (g : Gathered) → AreKept g.points g.ends → HaveFacts g.points
have_facts g kept k d within = kept.some k (get_or g.points k d) (slice_get-get_or g.points k d within)

pub push_bindings-requires-clause-some : goal.push_bindings-requires-clause-some
push_bindings-requires-clause-some c = rw c.as_slice-points.ensures.points (have_facts c.args.points.now c.as_slice-points.ensures.kept)

pub push_empty_points-requires-clause-some : goal.push_empty_points-requires-clause-some
push_empty_points-requires-clause-some c = rw c.as_slice-points.ensures.points (have_facts c.args.points.now c.as_slice-points.ensures.kept)
