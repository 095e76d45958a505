-- The points of facts are their distinct pairs of a concept and a key.
use Rattle.std.proofs.Common.{◌≡◌, ◌<◌, sym, ap, subst, ◌∙◌}
use Rattle.std.proofs.lemmas.Option.{slice_get_within}
use Rattle.xc_points.proofs.PointsKept.{length_ends, all_covered, no_same, point_at, has_same, same_fact}
use Rattle.xc_points.proofs.Together.{same_concept}
use Rattle.xc_points.specs.Laws.{IsPlaceOf, HasPoint, HasOwnFacts, HasDistinct}

pub has_own_facts : HasOwnFacts
has_own_facts mode facts g are k point at f has =
    let own = point_at facts g.points g.ends are.groups_are (length_ends mode facts g.ends are.ends) k point at in
    let b = has_same facts g.points g.ends are.groups_are (length_ends mode facts g.ends are.ends) k point at f has in
    (b.0, b.1, record { concept = ap (λ g. g.0) own.group ∙ same_concept own.fact b.0 b.2; key = ap (λ g. g.1) own.group ∙ b.2.key })

pub has_point : HasPoint
has_point mode facts g are f fact at =
    let long = length_ends mode facts g.ends are.ends in
    let covered = all_covered facts g.points g.ends are.groups_are long f (subst (λ n. f < n) (sym long) (slice_get_within facts f fact at)) in
    let own = has_own_facts mode facts g are covered.0 covered.1 covered.2.0 f covered.2.1 in
    let same : own.0 ≡ fact = same_fact facts g.points g.ends are.groups_are long f own.0 fact own.1 at in
    (covered.0, covered.1, covered.2.0, subst (λ b. IsPlaceOf covered.1 b) same own.2, covered.2.1)

pub are_distinct : HasDistinct
are_distinct mode facts g are j k p q at_j at_k = no_same facts g.points g.ends are.groups_are (length_ends mode facts g.ends are.ends) j k p q at_j at_k
