use Rattle.std.proofs.Common.{◌≡◌, arith, ◌∙◌}
use Rattle.std.proofs.lemmas.Grind.{common_steps}
use Rattle.std.specs.List.{list_any}
use Rattle.xc_bind.proofs.TotalPoints.{totals_are}
use Rattle.xc_bind.specs.Steps.Numbered.{numbers_of}
use Rattle.xc_names.specs.NameSets.{is_among}
use Rattle.xc_bind.proofs.totals.totals_of.Goals as goal

pub returns : goal.returns
returns c = λ k.
    let points = c.args.points.now in
    let concepts = c.in_ok-total_concepts.field-0.items in
    let all : is_among c.loop-concept.totals.keys k ≡ list_any (λ concept. is_among (numbers_of points concept) k) concepts = grind (arith, common_steps, c.loop-concept.invariant k) in
    all ∙ totals_are points c.args.arcs.now concepts c.in_ok-total_concepts.ensures k
