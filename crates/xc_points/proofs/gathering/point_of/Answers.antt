use Rattle.std.proofs.Common.{rules, ◌≡◌, ◌<◌, ◌∷◌, All, length, subst, sym}
use Rattle.std.proofs.lemmas.List.Elements.{All-head, All-tail}
use Rattle.xc_points.proofs.PointGroups.{made_group, AreNumbers}
use Rattle.xc_points.proofs.gathering.point_of.Goals as goal

pub range_of-range-requires-clause-others : goal.range_of-range-requires-clause-others
range_of-range-requires-clause-others c =
    let split : c.args.members ≡ c.in-Some.first.now ∷ c.in-Some.others.now = search rules in
    subst (λ n. All (λ f. f < n) c.in-Some.others.now) (sym c.requires.ends)
    (All-tail (λ f. f < length c.args.facts.now) c.in-Some.first.now c.in-Some.others.now (subst (λ m. AreNumbers c.args.facts.now m) split c.requires.members))

pub returns-clause-group : goal.returns-clause-group
returns-clause-group c =
    let split : c.args.members ≡ c.in-Some.first.now ∷ c.in-Some.others.now = search rules in
    let within = All-head (λ f. f < length c.args.facts.now) c.in-Some.first.now c.in-Some.others.now (subst (λ m. AreNumbers c.args.facts.now m) split c.requires.members) in
    made_group c.args.facts.now c.into_items.result c.args.members c.in-Some.others.now c.in-Some.first.now c.index-facts-first.result c.into_items.ensures split within c.index-facts-first.is
