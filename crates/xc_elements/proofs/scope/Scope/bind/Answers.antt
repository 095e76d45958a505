use Rattle.std.proofs.Common.{◌≡◌, Some, length, rules}
use Rattle.std.proofs.lemmas.Map.Text.{btree_map_updates_str}
use Rattle.std.proofs.lemmas.Str.{encodes-chars}
use Rattle.xc_elements.proofs.ScopeLaws.{index_more}
use Rattle.xc_elements.proofs.scope.Scope.bind.Goals as goal

pub invariant_of-self-2 : goal.invariant_of-self-2
invariant_of-self-2 c =
    let prefix = c.args.prefix.now in
    let places = c.self.inside.places in
    let last : c.len.result ≡ length c.reserve.new.self.items = search rules in
    index_more places c.insert.new.self c.self.inside.bindings.items c.reserve.new.self.items c.push_reserved.new.self.items _ c.len.result
    c.push_reserved.ensures.items c.in_ok-reserve.ensures.items last (encodes-chars prefix c.utf8.prefix) c.in_ok-shadowed.ensures.old
    (btree_map_updates_str prefix places c.insert.new.self (Some c.len.result) c.in_ok-shadowed.ensures.updates) c.self.invariant
