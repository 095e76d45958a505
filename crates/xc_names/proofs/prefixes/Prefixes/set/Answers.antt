use Rattle.std.proofs.Common.{ap, ◌∙◌, subst, string_bytes, Some}
use Rattle.std.specs.FinMap as map
use Rattle.std.specs.HashMap.{UpdatesBy}
use Rattle.std.specs.String.{string_eq}
use Rattle.std.specs.Str.{bytes_eq}
use Rattle.xc_names.proofs.Bound.{set_bound}
use Rattle.xc_names.proofs.prefixes.Prefixes.set.Goals as goal

pub returns-in-Ok-clause-ok : goal.returns-in-Ok-clause-ok
returns-in-Ok-clause-ok c =
    let updates = subst (λ p. UpdatesBy string_eq (λ k. bytes_eq p (string_bytes k)) c.self.inside.uris c.insert.new.self (Some c.in_ok-value.value)) c.in_ok-key.ensures.ok c.in-Ok.ensures.updates in
    set_bound c.self.inside.uris c.insert.new.self c.args.prefix.now c.args.uri.now c.in_ok-value.value c.in_ok-value.ensures.ok updates
    ∙ ap (λ m. map.insert m c.args.prefix.now c.args.uri.now) c.self.view_is
