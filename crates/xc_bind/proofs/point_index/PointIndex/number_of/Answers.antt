use Rattle.std.proofs.Common.{rules, ◌≡◌, ◌<◌, Some, length, sym, ap, subst, ◌∙◌}
use Rattle.xc_bind.specs.Bindings.{number_of}
use Rattle.xc_bind.specs.Steps.Places.{place_at}
use Rattle.xc_bind.proofs.PointPlaces.{place_cmp, number_is, number_below}
use Rattle.xc_lists.specs.Firsts.{first_equal}
use Rattle.xc_bind.proofs.point_index.PointIndex.number_of.Goals as goal

pub overflow_cast-result : goal.overflow_cast-result
overflow_cast-result c =
    let points = c.self.inside.points.now in
    let number : number_of points c.args.concept c.args.key ≡ Some c.in-Some.place =
    sym (number_is points c.args.concept c.args.key)
    ∙ ap (first_equal place_cmp (place_at c.args.concept c.args.key)) (sym c.self.invariant.0)
    ∙ ap (λ place. first_equal place_cmp place c.self.inside.places) (sym c.place_at.ensures)
    ∙ sym c.first.ensures
    ∙ c.in-Some.is in
    let small : c.in-Some.place < 4294967296 = number_below points c.args.concept c.args.key c.in-Some.place 4294967296 number (subst (λ p. length p < 4294967296) (sym c.self.view_is) c.requires) in
    search rules

pub returns-in-Some : goal.returns-in-Some
returns-in-Some c =
    sym c.in-Some.is
    ∙ c.first.ensures
    ∙ ap (λ place. first_equal place_cmp place c.self.inside.places) c.place_at.ensures
    ∙ ap (first_equal place_cmp (place_at c.args.concept c.args.key)) c.self.invariant.0
    ∙ number_is c.self.inside.points.now c.args.concept c.args.key
    ∙ ap (λ points. number_of points c.args.concept c.args.key) c.self.view_is

pub returns-in-None : goal.returns-in-None
returns-in-None c =
    sym c.in-None.is
    ∙ c.first.ensures
    ∙ ap (λ place. first_equal place_cmp place c.self.inside.places) c.place_at.ensures
    ∙ ap (first_equal place_cmp (place_at c.args.concept c.args.key)) c.self.invariant.0
    ∙ number_is c.self.inside.points.now c.args.concept c.args.key
    ∙ ap (λ points. number_of points c.args.concept c.args.key) c.self.view_is
