use Rattle.std.proofs.Common.{◌≡◌, ℕ, List, cond, rules}
use Rattle.std.specs.Str.{bytes_eq}
use Rattle.xc_elements.specs.Steps.Bindings.{place_in}
use Rattle.xc_elements.proofs.ScopeLaws.{is_placed, index_less}
use Rattle.xc_elements.proofs.scope.Scope.leave_nearest.Goals as goal

pub give_back-requires : goal.give_back-requires
give_back-requires c = is_placed c.self.inside.places c.self.inside.bindings.items c.pop.new.self.items c.in-Some.bound c.in-Some.ensures.items c.self.invariant

pub invariant_of-self : goal.invariant_of-self
invariant_of-self c =
    let given_of : (prefix : List ℕ) → place_in c.give_back.new.places prefix ≡ cond (bytes_eq c.in-Some.bound.prefix.now prefix) c.in-Some.bound.shadowed (place_in c.self.inside.places prefix) = search rules in
    index_less c.self.inside.places c.self.inside.bindings.items c.pop.new.self.items c.in-Some.bound c.in-Some.ensures.items c.self.invariant c.give_back.new.places given_of
