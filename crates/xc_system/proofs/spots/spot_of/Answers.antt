use Rattle.std.proofs.Common.{◌≡◌, ◌∷◌, sym, ◌∙◌}
use Rattle.std.proofs.lemmas.List.Elements.{All-from_recursion}
use Rattle.std.specs.Prelude.{IsSome}
use Rattle.xc_system.proofs.Tightness.{none_wide, wide_tightest, known_tightest}
use Rattle.xc_system.specs.Systems.{range_at}
use Rattle.xc_system.proofs.spots.spot_of.Goals as goal

pub first_tightest-requires-clause-others : goal.first_tightest-requires-clause-others
first_tightest-requires-clause-others c = All-from_recursion (λ fact. IsSome (range_at c.args.bounds.now fact)) c.args.others.now (none_wide c.args.bounds.now (c.args.first ∷ c.args.others.now) (sym c.first_wide.ensures ∙ c.in-None.is)).1

pub first_tightest-requires-in-None-clause-others : goal.first_tightest-requires-in-None-clause-others
first_tightest-requires-in-None-clause-others c = All-from_recursion (λ fact. IsSome (range_at c.args.bounds.now fact)) c.args.others.now (none_wide c.args.bounds.now (c.args.first ∷ c.args.others.now) (sym c.first_wide.ensures ∙ c.in-None.is)).1

pub returns-in-Some-clause-tightest : goal.returns-in-Some-clause-tightest
returns-in-Some-clause-tightest c = wide_tightest c.args.bounds.now (c.args.first ∷ c.args.others.now) c.range_of-range.result c.in-Some.wide (sym c.first_wide.ensures ∙ c.in-Some.is) c.range_of-range.ensures

pub returns-in-None-clause-tightest : goal.returns-in-None-clause-tightest
returns-in-None-clause-tightest c = known_tightest c.args.bounds.now (c.args.first ∷ c.args.others.now) c.range_of-range.result c.first_tightest.result c.first_tightest-in-None.result (sym c.first_wide.ensures ∙ c.in-None.is) c.range_of-range.ensures c.first_tightest.ensures c.first_tightest-in-None.ensures
