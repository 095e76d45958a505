use Rattle.std.proofs.Common.{◌≡◌, ◌<◌, length, ap, sym, subst, ◌∙◌, IfOk}
use Rattle.std.specs.Prelude.{All}
use Rattle.xc_lists.specs.Firsts.{first_places}
use Rattle.xc_points.specs.contracts.types.PlaceOrd.TheImpl as order
use Rattle.xc_points.specs.Steps.Members.{firsts_of, members_by}
use Rattle.xc_points.proofs.FirstFacts.{firsts_are, firsts_inside}
use Rattle.xc_points.proofs.groups.members_of.Goals as goal

pub members_by_first-requires-clause-inside : goal.members_by_first-requires-clause-inside
members_by_first-requires-clause-inside c =
    let facts = c.args.facts.now in
    let are : c.firsts.result.now ≡ firsts_of facts = c.firsts.ensures ∙ ap (λ places. first_places order.cmp-value.it places) (c.in_ok-places.ensures ∙ c.in_ok-places_of.ensures) ∙ firsts_are facts in
    subst (λ firsts. All (λ first. first < length firsts) firsts) (sym are) (firsts_inside facts)

pub returns : goal.returns
returns c =
    let facts = c.args.facts.now in
    let are : c.firsts.result.now ≡ firsts_of facts = c.firsts.ensures ∙ ap (λ places. first_places order.cmp-value.it places) (c.in_ok-places.ensures ∙ c.in_ok-places_of.ensures) ∙ firsts_are facts in
    subst (λ firsts. IfOk c.members_by_first.result (λ members. members.items ≡ members_by firsts)) are c.members_by_first.ensures
