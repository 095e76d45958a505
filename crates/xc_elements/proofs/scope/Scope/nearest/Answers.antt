use Rattle.std.proofs.Common.{◌<◌, Some, ap, ◌∙◌, length, rules}
use Rattle.std.specs.Str.{chars}
use Rattle.std.proofs.lemmas.Str.{encodes-chars}
use Rattle.xc_elements.specs.Namespaces.{nearest}
use Rattle.xc_elements.proofs.ScopeLaws.{place_within, nearest_at, nearest_nowhere}
use Rattle.xc_elements.proofs.scope.Scope.nearest.Goals as goal

pub index-requires : goal.index-requires
index-requires c =
    let within : c.in-Some.place.now < length c.self.inside.bindings.items = place_within c.self.inside.places c.self.inside.bindings.items c.self.invariant c.args.prefix.now (encodes-chars c.args.prefix.now c.utf8.prefix) c.in-Some.place.now c.in-Some.ensures.value in
    search rules

pub returns-in-Some : goal.returns-in-Some
returns-in-Some c =
    ap (λ space. Some space) c.as_str.ensures
    ∙ nearest_at c.self.inside.places c.self.inside.bindings.items c.self.invariant c.args.prefix.now (encodes-chars c.args.prefix.now c.utf8.prefix) c.in-Some.place.now c.index.result.now c.in-Some.ensures.value c.index.ensures
    ∙ ap (λ bs. nearest bs (chars c.args.prefix.now)) c.self.view_is

pub returns-in-None : goal.returns-in-None
returns-in-None c =
    nearest_nowhere c.self.inside.places c.self.inside.bindings.items c.self.invariant c.args.prefix.now (encodes-chars c.args.prefix.now c.utf8.prefix) c.in-None.ensures.value
    ∙ ap (λ bs. nearest bs (chars c.args.prefix.now)) c.self.view_is
