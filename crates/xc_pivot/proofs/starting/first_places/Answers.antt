use Rattle.std.proofs.Common.{List, length, sym, ap, subst, ◌∙◌, arith}
use Rattle.std.proofs.lemmas.List.{length_push}
use Rattle.xc_pivot.specs.Firsts.{first_place, AreFirstPlaces}
use Rattle.xc_pivot.specs.declared.types.Place.{Place}
use Rattle.xc_pivot.proofs.FirstPlaces.{pushed_first}
use Rattle.xc_pivot.proofs.starting.first_places.Goals as goal

pub loop-variable-preserved : goal.loop-variable-preserved
loop-variable-preserved c =
    let l = c.loop-variable in
    let y = c.first_place.result in
    let items = c.in_ok-push.ensures.items in
    record {
      count = omega (arith, ap (λ (ps : List Place). length ps) items, length_push l.places.items y, l.invariant.count);
      places = subst (λ (ps : List Place). AreFirstPlaces c.args.columns ps) (sym items) (pushed_first c.args.columns l.places.items y l.invariant.places (c.first_place.ensures ∙ ap (λ k. first_place c.args.columns k) (sym l.invariant.count)));
    }
