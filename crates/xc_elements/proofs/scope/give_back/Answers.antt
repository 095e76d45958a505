use Rattle.std.proofs.Common.{Some, None, cond, sym, ap, ◌∙◌}
use Rattle.std.proofs.lemmas.Map.Text.{btree_map_updates_str}
use Rattle.std.specs.Str.{bytes_eq}
use Rattle.xc_elements.specs.Steps.Bindings.{place_in}
use Rattle.xc_elements.proofs.scope.give_back.Goals as goal

pub returns-in-Some-get_mut : goal.returns-in-Some-get_mut
returns-in-Some-get_mut c = λ other.
    btree_map_updates_str c.args.prefix.now c.args.places.now (c.get_mut.follows.lender c.in-Some.place) (Some c.in-Some.place) ((c.get_mut.follows.holds c.in-Some.place).3 c.requires) other
    ∙ ap (λ before. cond (bytes_eq c.args.prefix.now other) before (place_in c.args.places.now other)) (sym c.in-Some.is)

pub returns-in-None : goal.returns-in-None
returns-in-None c = λ other.
    btree_map_updates_str c.args.prefix.now c.args.places.now c.remove.new.self None c.remove.ensures.updates other
    ∙ ap (λ before. cond (bytes_eq c.args.prefix.now other) before (place_in c.args.places.now other)) (sym c.in-None.is)
